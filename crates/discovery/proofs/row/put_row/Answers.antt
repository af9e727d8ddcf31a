use Rattle.std.proofs.Common.{◌≡◌, ◌∙◌, ap, [], ◌∷◌, length, take, get_or, arith}
use Rattle.std.proofs.lemmas.List.Edits.{sets}
use Rattle.std.proofs.lemmas.List.{take_more}
use lib.Seq.{length-take-le, take_all}
use Rattle.base.proofs.Stores.{sets_append}
use Rattle.discovery.proofs.row.put_row.Goals as goal

pub loop-k-preserved : goal.loop-k-preserved
loop-k-preserved c =
    let row = c.args.row.now in
    let list = c.args.list.now in
    let from = c.args.from in
    let k = c.loop-k.k in
    let so_far : length (take k row) ≡ k = length-take-le k row (omega arith) in
    c.put.ensures
    ∙ rw (c.loop-k.invariant, take_more row k 0 c.loop-k-test.true, sets_append (take k row) (get_or row k 0 ∷ []) list from, so_far)

pub returns : goal.returns
returns c =
    c.loop-k.invariant ∙ ap (sets c.args.list.now c.args.from) (take_all c.loop-k.k c.args.row.now (omega (arith, c.loop-k-test.false)))

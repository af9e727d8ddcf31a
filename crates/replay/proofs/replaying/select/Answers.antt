use Rattle.std.proofs.Common.{◌≡◌, refl, arith, length}
use Rattle.replay.specs.Blocks.{passing}
use Rattle.replay.proofs.Selecting.{front_few, selecting_more, selecting_all, one_at_most}
use Rattle.replay.proofs.replaying.select.Goals as goal

pub loop-k-init : goal.loop-k-init
loop-k-init c = record { number = refl; stands = refl; room = c.told-places }

pub bounds-places-n : goal.bounds-places-n
bounds-places-n c =
    let few = front_few (passing c.args.test c.args.words.now) c.loop-k.k in
    omega (arith, c.loop-k.invariant.number, few, c.loop-k-test.true, c.requires)

pub overflow_add-n : goal.overflow_add-n
overflow_add-n c =
    let few = front_few (passing c.args.test c.args.words.now) c.loop-k.k in
    omega (arith, c.loop-k.invariant.number, few, c.loop-k-test.true, c.requires, c.from-n.ensures, one_at_most c.passes.result)

pub loop-k-preserved : goal.loop-k-preserved
loop-k-preserved c =
    let more = selecting_more (passing c.args.test c.args.words.now) c.loop-k.invariant (omega (arith, c.loop-k-test.true, c.requires)) c.passes.ensures in
    rw (← c.from-n.ensures) at more

pub returns : goal.returns
returns c =
    let all : c.loop-k.k ≡ length c.args.words.now = omega (arith, c.loop-k-test.false, c.loop-k.auto.k-end) in
    selecting_all all c.loop-k.invariant

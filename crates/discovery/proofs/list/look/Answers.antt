use Rattle.std.proofs.Common.{refl, ap, ◌∙◌, Err}
use Rattle.replay.specs.Query.{asked_by}
use Rattle.discovery.specs.Passes.{fit_of}
use Rattle.discovery.proofs.FindContract.{passed_listed, passed_none, all_fit, list_fits, list_short}
use Rattle.discovery.proofs.list.look.Goals as goal

pub returns-then-all-list-clause-fit : goal.returns-then-all-list-clause-fit
returns-then-all-list-clause-fit c =
    all_fit (asked_by c.args.query) c.args.list.now (rw c.constraint_count-all.ensures at c.if-all-list.true)

pub returns-then-list-listed-clause-fit : goal.returns-then-list-listed-clause-fit
returns-then-list-listed-clause-fit c =
    let list = c.args.list.now in
    let none = passed_none c.pass-needed.ensures refl in
    ap Err c.with.ensures ∙ list_short _ list (rw none at c.if-list-listed.true) ∙ ap (λ k. fit_of k list) (passed_listed c.pass-needed.ensures)

pub returns-clause-fit : goal.returns-clause-fit
returns-clause-fit c =
    let list = c.args.list.now in
    let none = passed_none c.pass-needed.ensures refl in
    list_fits _ list (rw none at c.if-list-listed.false) ∙ ap (λ k. fit_of k list) (passed_listed c.pass-needed.ensures)

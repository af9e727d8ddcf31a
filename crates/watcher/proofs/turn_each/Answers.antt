-- The loop keeps its invariant: a turn takes the first of those left.
use Rattle.std.proofs.Common.{sym, ap, arith, rules, ◌∙◌}
use Rattle.watcher.specs.Loops.{each_of}
use Rattle.watcher.proofs.Turning.{turns_on, turns_done}
use Rattle.watcher.proofs.turn_each.Goals as goal

pub loop-at-preserved : goal.loop-at-preserved
loop-at-preserved g c =
    λ next computes.
    c.loop-at.invariant next computes
    ∙ turns_on _ _ _ _ c.loop-at-test.true
    ∙ ap (each_of _ _ _) (cc (computes _ _ _ c.loop-at-test.true (search rules) c.next_state-state.type_inv c.next_state-state.ensures))

pub returns : goal.returns
returns g c = λ next computes. sym (c.loop-at.invariant next computes ∙ turns_done _ _ _ _ (omega arith))

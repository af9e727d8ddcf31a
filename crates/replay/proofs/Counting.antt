-- Replay over what a constraint reads of traces of declared activities counts those that are fulfilled.
-- Assumes nothing.
use Prim.Native.Nat.{ℕ, ◌≤◌}
use mathlib.Core.Path.{◌≡◌, refl, sym, ap, ◌∙◌}
use mathlib.Core.Bool.{Bool, true, false, ◌&&◌}
use mathlib.Core.List.{List}
use Rattle.std.specs.Prelude.{if◌then◌else◌}
use Rattle.std.specs.List.{filter, list_all}
use Rattle.declare.specs.declared.Verdict.TheVariants.{Fulfilled, NotActivated, Violated}
use Rattle.declare.specs.declared.constraints.Constraint.{Constraint}
use Rattle.declare.specs.Meaning.{activated, holds, fulfilled, verdict}
use Rattle.declare.specs.Constraints.{Over}
use Rattle.declare.specs.Traces.{most_activities, all_below}
use Rattle.automata.proofs.Following.{followed_constraint}
use Rattle.base.specs.Lists.{non_empty, count}
use Rattle.base.proofs.Bools.{and_left, fails_too}
use Rattle.base.proofs.Lists.{count_same, count_filter, filter_within}
use Rattle.pruning.specs.Question.{class_of, counts_for, reads, fulfilments}
use Rattle.pruning.proofs.Pruning.{fulfilled_counts}
use Rattle.replay.specs.Replays.{moves_for, is_fulfilled, replays_fulfilled}

verdict_fulfilled : (t a b : ℕ) (trace : List ℕ) → is_fulfilled (verdict t a b trace) ≡ fulfilled t a b trace
unfolding fulfilled verdict
verdict_fulfilled t a b trace = go (activated t a b trace) (holds t a b trace)
  where
    go : (p q : Bool) → is_fulfilled (if p then (if q then Fulfilled else Violated) else NotActivated) ≡ p && q
    go true true = refl
    go true false = refl
    go false q = refl

weaker_between : (p q r : Bool) → (r ≡ true → q ≡ true) → (p && q) && r ≡ p && r
weaker_between true true r h = refl
weaker_between true false r h = sym (fails_too r false h refl)
weaker_between false q r h = refl

module _ (n : ℕ) (c : Constraint) (few : n ≤ most_activities) (over : Over n c) (traces : List (List ℕ)) where
  -- What is not read cannot be fulfilled: pruning rests on that, too. So replay of what is read alone finds as many as are fulfilled.
  pub replay_counts :
      list_all (all_below n) traces ≡ true →
      count (replays_fulfilled (moves_for c)) (filter (reads c) traces) ≡ fulfilments (filter non_empty traces) c
  unfolding fulfilments
  replay_counts declared =
      count_filter (reads c) (replays_fulfilled (moves_for c)) traces
      ∙ count_same (all_below n) _ (λ trace. non_empty trace && fulfilled c.template c.a c.b trace) traces declared
      (λ trace declared.
      ap (λ t. reads c trace && t) (ap is_fulfilled (followed_constraint n c over trace declared few) ∙ verdict_fulfilled c.template c.a c.b trace)
      ∙ weaker_between (non_empty trace) _ _ (fulfilled_counts c.template c.a c.b trace))
      ∙ sym (count_filter non_empty (fulfilled c.template c.a c.b) traces)

-- what is read is of length 1 or more
pub read_of_some : (c : Constraint) (traces : List (List ℕ)) → filter (reads c) traces ≡ filter (reads c) (filter non_empty traces)
read_of_some c traces =
    sym (filter_within (reads c) non_empty (λ trace read. and_left (non_empty trace) (counts_for (class_of c.template) c.a c.b trace) read) traces)

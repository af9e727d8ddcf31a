-- Pruning loses nothing: a trace that is fulfilled for a constraint counts for the constraint's class.
-- Assumes nothing.
use Prim.Native.Nat.{ℕ, ◌*◌, ◌≤◌, ◌<◌}
use mathlib.Core.Path.{◌≡◌, refl, ap}
use mathlib.Core.Bool.{Bool, true, false, ◌&&◌, ◌||◌, and-false}
use mathlib.Core.List.{List, ◌∷◌}
use native.Mathlib.Omega.{arith}
use borrow.Author.Tests.{leb-true, leb-false, le-leb}
use lib.Dec.{leb}
use Rattle.std.specs.List.{list_all}
use Rattle.std.proofs.lemmas.List.{get_or_past}
use Rattle.base.specs.Logic.{◌implies◌}
use Rattle.base.specs.Lists.{range}
use Rattle.declare.specs.Meaning.{occurs, meanings, never, activated_when, holds, activated, fulfilled}
use Rattle.declare.proofs.Occurring.{passes, found, on_every_trace}
use Rattle.declare.proofs.Summary.{answer}
use Rattle.base.proofs.Bools.{Expression, implied, fails_too, either}
use Rattle.base.proofs.Lists.{count_weaker, all_range}
use Rattle.declare.specs.declared.constraints.Constraint.{Constraint}
use Rattle.pruning.specs.declared.Measure.{Measure}
use Rattle.pruning.specs.Question.{class_of, counts_when, counts_for, fulfilments, support, Question, always, measure_of, meets, survives}

-- where the template is activated and holds, the trace counts for its class
abbrev counted : ℕ → Expression 3
counted t a_occurs b_occurs holds = (activated_when t a_occurs b_occurs && holds) implies counts_when (class_of t) a_occurs b_occurs

-- one test, of every template
all_counted : list_all (λ t. passes t (counted t)) (range 0 25) ≡ true
unfolding found answer
all_counted = refl

-- nothing holds for a number above 24
none_above : (t a b : ℕ) (trace : List ℕ) → 24 < t → holds t a b trace ≡ false
unfolding holds meanings
none_above t a b trace h = ap (λ meaning. meaning a b trace) (get_or_past (never ∷ meanings) t never (omega arith))

counted_always : (t a b : ℕ) (trace : List ℕ) → counted t (occurs a trace) (occurs b trace) (holds t a b trace) ≡ true
counted_always t a b trace =
    either (leb t 24)
    (λ few.
    on_every_trace t (counted t) (all_range (λ t. passes t (counted t)) 0 25 t all_counted (omega arith) (omega (arith, leb-true t 24 few)))
    a b trace)
    (λ more. rw (none_above t a b trace (omega (arith, leb-false t 24 more)), and-false))

-- a trace that is fulfilled for a constraint counts for its class
pub fulfilled_counts : (t a b : ℕ) (trace : List ℕ) → fulfilled t a b trace ≡ true → counts_for (class_of t) a b trace ≡ true
unfolding fulfilled activated
fulfilled_counts t a b trace h = implied _ _ (counted_always t a b trace) h

pub fulfilments_within_support : (traces : List (List ℕ)) (c : Constraint) → fulfilments traces c ≤ support (class_of c.template) traces c
unfolding fulfilments support
fulfilments_within_support traces c = count_weaker _ _ (fulfilled_counts c.template c.a c.b) traces

pub meets_more : (m : Measure) (x y : ℕ) → x ≤ y → meets m x ≡ true → meets m y ≡ true
meets_more m x y h e = le-leb _ (1000 * y) (omega (arith, leb-true _ (1000 * x) e))

-- a constraint whose count meets the threshold is kept by pruning, so what is pruned would not have been listed
pub fulfilled_survives : (q : Question) (c : Constraint) → meets (measure_of q) (fulfilments q.traces c) ≡ true → survives q c ≡ true
fulfilled_survives q c h =
    go (always (class_of c.template)) (meets_more (measure_of q) _ _ (fulfilments_within_support q.traces c) h)
  where
    go : (p : Bool) {r : Bool} → r ≡ true → p || r ≡ true
    go true h = refl
    go false h = h

pub pruned_falls_short : (q : Question) (c : Constraint) → survives q c ≡ false → meets (measure_of q) (fulfilments q.traces c) ≡ false
pruned_falls_short q c = fails_too _ _ (fulfilled_survives q c)

-- What the confidence is to discovery: the claim of specs/Claims.
-- Assumes nothing.
use Prim.Native.Nat.{ℕ, ◌*◌, ◌≤◌}
use mathlib.Core.Path.{◌≡◌, refl, ap, ◌∙◌, fun_ext}
use mathlib.Core.Bool.{true, false, ◌&&◌, and-true}
use mathlib.Core.List.{List, [], ◌∷◌}
use native.Mathlib.Omega.{arith}
use native.Mathlib.Nat.{mul-le-mul}
use borrow.Author.Tests.{le-leb, lt-leb}
use lib.Dec.{leb}
use Rattle.std.specs.List.{filter}
use Rattle.base.proofs.Bools.{and_left}
use Rattle.base.proofs.Lists.{count_weaker}
use Rattle.base.proofs.Ranges.{range_facts}
use Rattle.declare.specs.Meaning.{activated, holds, fulfilled}
use Rattle.declare.specs.declared.constraints.Constraint.{Constraint}
use Rattle.declare.specs.Constraints.{constraint, constraints}
use Rattle.pruning.specs.Question.{Question, question_over, trace_count, threshold_in_range, measure_of, meets, confident, fulfilments, activations}
use Rattle.discovery.specs.Listing.{is_listed, listed, replayed, events_read}
use Rattle.discovery.specs.Examples.{seldom}
use Rattle.discovery.specs.Claims.{with_confidence, ByConfidence}

-- a trace that is fulfilled for a constraint activates it
pub fulfilments_within_activations : (traces : List (List ℕ)) (c : Constraint) → fulfilments traces c ≤ activations traces c
unfolding fulfilments activations fulfilled
fulfilments_within_activations traces c =
    count_weaker _ _ (λ trace h. and_left (activated c.template c.a c.b trace) (holds c.template c.a c.b trace) h) traces

replayed_same : (q : Question) (k : ℕ) → replayed (with_confidence k q) ≡ replayed q
unfolding replayed
replayed_same q k = refl

-- the events are read for constraints of the same traces
read_same : (q : Question) (k : ℕ) → events_read (with_confidence k q) (replayed (with_confidence k q)) ≡ events_read q (replayed q)
unfolding events_read replayed
read_same q k = refl

by_threshold :
    (q : Question) → listed (with_confidence 0 q) ≡ filter (λ c. meets (measure_of q) (fulfilments q.traces c)) (constraints q.activities)
unfolding listed
by_threshold q =
    ap (λ p. filter p (constraints q.activities))
    (fun_ext (λ c.
    ap (λ met. meets (measure_of q) (fulfilments q.traces c) && met) (le-leb (0 * activations q.traces c) (1000 * fulfilments q.traces c) (omega arith))
    ∙ and-true (meets (measure_of q) (fulfilments q.traces c))))

never_activated :
    (q : Question) (c : Constraint) → threshold_in_range q.settings ≡ true → 1 ≤ trace_count q → activations q.traces c ≡ 0 →
    (confident q.settings 0 0 ≡ true) × (is_listed q c ≡ false)
never_activated q c ranged some none =
    let positive : 1 * 1 ≤ q.settings.threshold * trace_count q = mul-le-mul (range_facts 1 q.settings.threshold 1000 ranged).0 some in
    let short = lt-leb (q.settings.threshold * trace_count q) (1000 * fulfilments q.traces c) (omega (arith, positive, fulfilments_within_activations q.traces c, none)) in
    (le-leb (q.settings.confidence * 0) (1000 * 0) (omega arith), rw short refl)

pub by_confidence : ByConfidence
by_confidence = record { replayed_same = replayed_same; read_same = read_same; by_threshold = by_threshold; never_activated = never_activated }

-- ## What the claim says, of the question of the examples

half_of_before :
    ByConfidence →
    (replayed (seldom 501) ≡ replayed (seldom 0)) × (events_read (seldom 501) (replayed (seldom 501)) ≡ events_read (seldom 0) (replayed (seldom 0)))
half_of_before claim = (claim.replayed_same (seldom 0) 501, claim.read_same (seldom 0) 501)

listed_before : ByConfidence → listed (seldom 0) ≡ filter (λ c. leb (250 * 2) (1000 * fulfilments (seldom 0).traces c)) (constraints 2)
listed_before claim = claim.by_threshold (seldom 501)

-- response of 1 and 0 over one trace of 0 alone: no trace activates it
abbrev of_0 : Question
of_0 = question_over 2 ((0 ∷ []) ∷ []) (record { threshold = 1; confidence = 1000 })

none_of_none : ByConfidence → (leb (1000 * 0) (1000 * 0) ≡ true) × (is_listed of_0 (constraint 14 1 0) ≡ false)
unfolding activations activated
none_of_none claim = claim.never_activated of_0 (constraint 14 1 0) refl (omega arith) refl

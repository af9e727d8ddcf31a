-- What is counted of pairs of activities, over the words of traces, is what is counted over the traces.
-- Assumes nothing.
use Prim.Native.Nat.{ℕ, zero, suc, ◌+◌, ◌%◌, ◌≤◌, ◌<◌, min}
use native.Mathlib.Omega.{arith}
use native.Mathlib.Numerals.{add-one}
use native.Mathlib.Nat.{zero-add}
use mathlib.Core.Path.{◌≡◌, refl, sym, ap, ap₂, ◌∙◌, fun_ext}
use mathlib.Core.Bool.{Bool, true, false, cond, ◌&&◌, ◌||◌, and-true, and-false, or-false}
use mathlib.Core.List.{List, [], ◌∷◌, ◌++◌, map, append-nil}
use borrow.Author.Tests.{eqb-true, eqb-false, ne_eqb, leb-true, leb-false}
use lib.Dec.{eqb, leb}
use lib.ListN.{get_or}
use Rattle.std.specs.Prelude.{bit_or, if◌then◌else◌}
use Rattle.std.specs.Int.Bits.{or_self}
use Rattle.std.specs.List.{filter, list_all, list_any}
use Rattle.base.specs.Logic.{in_range}
use Rattle.base.specs.Lists.{count, range}
use Rattle.base.proofs.Bools.{either, clash, and_left, fails_too}
use Rattle.base.proofs.Ranges.{inside}
use Rattle.base.proofs.Lists.{range_last, filter_none, count_weaker, filter_append, count_all, all_range}
use Rattle.declare.specs.declared.constraints.Constraint.{Constraint}
use Rattle.declare.specs.Constraints.{Over, constraint}
use Rattle.declare.specs.Traces.{most_activities, all_below}
use Rattle.declare.specs.Meaning.{occurs, activated}
use Rattle.declare.proofs.Occurrence.{occurs_any}
use Rattle.eventlog.specs.Words.{with_bit, word_of, bit_of, has}
use Rattle.eventlog.proofs.WordBits.{word_of_none, one_more, has_occurs}
use Rattle.pruning.specs.declared.Class.{Class}
use Rattle.pruning.specs.declared.Measure.{Measure}
use Rattle.pruning.specs.declared.Class.TheVariants.{WithA, All, Either, Both}
use Rattle.pruning.specs.declared.Settings.{Settings}
use Rattle.pruning.specs.declared.pairs.PairSupport.{PairSupport}
use Rattle.pruning.specs.Question.{Question, question_over, trace_count, measure_of, meets, activations, class_of, support, survives_in, survives}
use Rattle.base.proofs.Stores.{filled_at}
use Rattle.pruning.specs.Masks.{some_of, all_of, support_by, companions_by, with_either_beside, companions_of_all, with_either_of_all, counted_by, survives_by, with_either_in, activated_by}
use Rattle.pruning.proofs.Masks.{all_both, some_has, all_has, support_counted, one_activity}
use Rattle.pruning.proofs.Pruning.{meets_more}

-- ## Frequent pairs

module _ (p : ℕ → Bool) (k : ℕ) where
  filtered_last : filter p (range 0 (k + 1)) ≡ filter p (range 0 k) ++ filter p (k ∷ [])
  filtered_last =
      ap (λ n. filter p (range 0 n)) (add-one k)
      ∙ ap (filter p) (range_last 0 k ∙ ap (λ n. range 0 k ++ n ∷ []) (zero-add k))
      ∙ filter_append p (range 0 k) (k ∷ [])

  -- one more has its bit where it passes
  pub bit_more : p k ≡ true → with_bit (word_of (filter p (range 0 k))) k ≡ word_of (filter p (range 0 (k + 1)))
  bit_more passes = one_more (filter p (range 0 k)) k ∙ ap word_of (sym (filtered_last ∙ rw passes refl))

  pub no_bit_more : p k ≡ false → word_of (filter p (range 0 k)) ≡ word_of (filter p (range 0 (k + 1)))
  no_bit_more fails = ap word_of (sym (filtered_last ∙ rw fails (append-nil (filter p (range 0 k)))))

module _ (p : ℕ → Bool) (b : ℕ) where
  abbrev any_from : List ℕ → Bool
  any_from xs = list_any (λ x. eqb x b) (filter p xs)

  any_more : (x : ℕ) (xs : List ℕ) → any_from (x ∷ xs) ≡ (p x && eqb x b) || any_from xs
  any_more x xs = go (p x)
    where
      go : (t : Bool) → list_any (λ x. eqb x b) (cond t (x ∷ filter p xs) (filter p xs)) ≡ (t && eqb x b) || any_from xs
      go true = refl
      go false = refl

  below_range : (first more : ℕ) → b < first → any_from (range first more) ≡ false
  below_range first zero low = refl
  below_range first (suc more) low =
      any_more first (range (suc first) more)
      ∙ rw (ne_eqb first b (λ same. omega arith), and-false (p first)) (below_range (suc first) more (omega arith))

  within_range : (first more : ℕ) → first ≤ b → b < first + more → any_from (range first more) ≡ p b
  within_range first zero low high = absurd (omega arith)
  within_range first (suc more) low high =
      any_more first (range (suc first) more)
      ∙ either (eqb first b)
      (λ same.
      let here = eqb-true first b same in
      rw (same, below_range (suc first) more (omega arith)) (or-false (p first && true) ∙ and-true (p first) ∙ ap p here))
      (λ other. rw (other, and-false (p first)) (within_range (suc first) more (omega (arith, eqb-false first b other)) (omega arith)))

-- what is filtered of a range has just those of it that pass
occurs_filtered : (p : ℕ → Bool) (more b : ℕ) → b < more → occurs b (filter p (range 0 more)) ≡ p b
occurs_filtered p more b high = occurs_any b (filter p (range 0 more)) ∙ within_range p b 0 more (omega arith) (omega arith)

module _ (m : Measure) (few : m.activities ≤ most_activities) (words there : List ℕ) where
  paired_frequent :
      (class : Class) (a b : ℕ) → a < m.activities → b < m.activities →
      has (b % 32) (get_or (companions_of_all class m words there) (a % 32) 0) ≡ meets m (support_by class words a b)
  unfolding companions_of_all
  paired_frequent class a b declared declared' =
      let frequent : ℕ → Bool = λ b. meets m (support_by class words a b) in
      let n = min m.activities most_activities in
      let all : n ≡ m.activities = omega arith in
      let same : a % 32 ≡ a = omega arith in
      let same' : b % 32 ≡ b = omega arith in
      ap₂ (λ i j. has j (get_or (companions_of_all class m words there) i 0)) same same'
      ∙ ap (has b) (filled_at (companions_by class m words) n there 0 a (omega arith) ∙ ap (λ n. word_of (filter frequent (range 0 n))) all)
      ∙ has_occurs b (filter frequent (range 0 m.activities)) (omega arith)
      ∙ occurs_filtered frequent m.activities b declared'

-- where the traces with a fall short, so do those with a and another
module _ (m : Measure) (words : List ℕ) (a : ℕ) (low : a < most_activities) where
  both_few : (b : ℕ) → support_by Both words a b ≤ support_by Either words a a
  both_few b =
      let x = bit_of a in
      let y = bit_of b in
      count_weaker _ _
      (λ word h.
      ap (λ bits. some_of bits word) (or_self x) ∙ some_has word a low ∙ sym (all_has word a low)
      ∙ and_left (all_of x word) (all_of y word) (sym (all_both word x y) ∙ h)) words

  pub none_beside : meets m (support_by Either words a a) ≡ false → 0 ≡ companions_by Both m words a
  none_beside short =
      sym
      (ap word_of
      (filter_none (λ b. meets m (support_by Both words a b)) (range 0 (min m.activities most_activities))
      (λ b _. fails_too _ _ (meets_more m _ _ (both_few b)) short))
      ∙ word_of_none)

every_bit : (k : ℕ) → k < 32 → has k 4294967295 ≡ true
every_bit k low = all_range (λ k. has k 4294967295) 0 32 k refl (omega arith) low

twice : (p : Bool) → p || p ≡ p
twice true = refl
twice false = refl

-- ## What the words of traces of declared activities tell of a constraint

module _ (kept : List (List ℕ)) (declared : list_all (all_below most_activities) kept ≡ true) (n : ℕ) (few : n ≤ most_activities)
    (settings : Settings) (c : Constraint) (over : Over n c) (there : PairSupport) where
  abbrev q : Question
  q = question_over n kept settings

  abbrev words : List ℕ
  words = map word_of kept

  abbrev made : PairSupport
  made = counted_by (measure_of q) words there

  counted : (class : Class) → support_by class words c.a c.b ≡ support class q.traces c
  counted class = support_counted kept declared class c (omega (arith, over.a_declared)) (omega (arith, over.b_declared))

  frequent :
      (class : Class) (there : List ℕ) →
      has (c.b % 32) (get_or (companions_of_all class (measure_of q) words there) (c.a % 32) 0)
      ≡ meets (measure_of q) (support_by class words c.a c.b)
  frequent class there = paired_frequent (measure_of q) few words there class c.a c.b over.a_declared over.b_declared

  -- the traces with a or a are those with a
  by_class : (class : Class) → class ≡ class_of c.template → survives_by made class c ≡ survives_in class q c
  by_class WithA of_template =
      let one : c.b ≡ c.a = sym (eqb-true c.a c.b (rw (one_activity c.template (sym of_template)) at over.paired)) in
      frequent Either there.either
      ∙ ap (λ b. meets (measure_of q) (count (some_of (bit_or (bit_of c.a) (bit_of b))) words)) one
      ∙ ap (λ bits. meets (measure_of q) (count (some_of bits) words)) (or_self (bit_of c.a))
      ∙ ap (meets (measure_of q)) (counted WithA)
  by_class All of_template = every_bit (c.b % 32) (omega arith)
  by_class Either of_template = frequent Either there.either ∙ ap (meets (measure_of q)) (counted Either)
  by_class Both of_template = frequent Both there.both ∙ ap (meets (measure_of q)) (counted Both)

  -- what pruning keeps
  pub survives_counted : {class : Class} → class ≡ class_of c.template → survives_by made class c ≡ survives q c
  survives_counted {class} of_template = by_class class of_template ∙ ap (λ class. survives_in class q c) of_template

  with_either_counted :
      (a b : ℕ) → a < n → b < n → with_either_in made a b ≡ count (λ trace. occurs a trace || occurs b trace) q.traces
  unfolding with_either_of_all support
  with_either_counted a b declared' declared'' =
      let k = min n most_activities in
      let same : a % 32 ≡ a = omega arith in
      let same' : b % 32 ≡ b = omega arith in
      ap₂ (λ i j. get_or (get_or made.with_either i []) j 0) same same'
      ∙ ap (λ row. get_or row b 0) (filled_at (with_either_beside (measure_of q) words there.with_either) k there.with_either [] a (omega arith))
      ∙ filled_at (support_by Either words a) k (get_or there.with_either a []) 0 b (omega arith)
      ∙ support_counted kept declared Either (constraint c.template a b) (omega arith) (omega arith)

  with_one_counted : (a : ℕ) → a < n → with_either_in made a a ≡ count (occurs a) q.traces
  with_one_counted a declared' =
      with_either_counted a a declared' declared' ∙ ap (λ p. count p q.traces) (fun_ext (λ trace. twice (occurs a trace)))

  -- by the ranges of the template's number
  by_ranges :
      (always a_occurs b_occurs one_occurs : Bool) → (always ≡ false → one_occurs ≡ true) →
      (if always then trace_count q
      else if a_occurs then with_either_in made c.a c.a
      else if b_occurs then with_either_in made c.b c.b
      else with_either_in made c.a c.b)
      ≡ count
      (λ trace.
      if always then true
      else if a_occurs then occurs c.a trace
      else if b_occurs then occurs c.b trace
      else if one_occurs then occurs c.a trace || occurs c.b trace
      else false)
      q.traces
  by_ranges true a_occurs b_occurs one_occurs h = sym (count_all (λ trace. true) (λ trace. refl) q.traces)
  by_ranges false true b_occurs one_occurs h = with_one_counted c.a over.a_declared
  by_ranges false false true one_occurs h = with_one_counted c.b over.b_declared
  by_ranges false false false true h = with_either_counted c.a c.b over.a_declared over.b_declared
  by_ranges false false false false h = clash (h refl) refl

  from_11 : in_range 1 c.template 10 ≡ false → in_range 11 c.template 24 ≡ true
  from_11 not_always =
      either (leb c.template 10) (λ low. clash (inside 1 c.template 10 over.from_1 (leb-true c.template 10 low)) not_always)
      (λ high. inside 11 c.template 24 (omega (arith, leb-false c.template 10 high)) over.to_24)

  -- in how many traces it is activated
  pub activations_counted : activated_by made (trace_count q) c ≡ activations q.traces c
  unfolding activations activated
  activations_counted =
      by_ranges (in_range 1 c.template 10) (in_range 13 c.template 16) (in_range 17 c.template 19) (in_range 11 c.template 24) from_11

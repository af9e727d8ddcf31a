-- The walk goes over the constraints that pruning keeps: a template and an a after the other, and what is kept there by the bits of a word.
-- Assumes nothing.
use Prim.Native.Nat.{ℕ, zero, suc, ◌+◌, ◌-◌, ◌*◌, ◌%◌, ◌^◌, ◌≤◌, ◌<◌, min, max}
use mathlib.Core.Path.{◌≡◌, refl, sym, ap, ap₂, ◌∙◌}
use mathlib.Core.Bool.{Bool, true, false, cond, not, ◌&&◌, ◌||◌, and-false, and-true}
use mathlib.Core.List.{List, [], ◌∷◌, ◌++◌, map, append_assoc}
use native.Mathlib.Omega.{arith}
use borrow.Author.Tests.{eqb-true, eqb-false, eq-eqb, ne_eqb, lt-ltb, le-ltb, ltb-true, ltb-false}
use native.Mathlib.Numerals.{add-one, unary_clauses}
use lib.Dec.{eqb, ltb}
use Rattle.std.specs.Prelude.{bit_and, bit_or, if◌then◌else◌}
use Rattle.std.specs.Int.{bit_at, w32, trailing_zeros}
use Rattle.std.specs.List.{filter}
use Rattle.std.proofs.lemmas.Nat.{pow_below, one_shl, or_lt}
use Rattle.std.proofs.lemmas.Nat.Bits.{bit_at-lt, bit_at-zero, bit_at_and, bit_at_or, bit_at_not, bit_at_ones, bit_at_ones_above, bit_at-pow_same, bit_at-pow_other, bit_at-trailing_zeros}
use Rattle.base.specs.Lists.{range, flat_map}
use Rattle.base.proofs.Bools.{either}
use Rattle.base.proofs.Lists.{filter_append, filter_none, filter_same, range_member}
use Rattle.declare.specs.Traces.{most_activities}
use Rattle.declare.specs.declared.constraints.Constraint.{Constraint}
use Rattle.declare.specs.Constraints.{constraint, pairs, constraints}
use Rattle.eventlog.specs.Words.{has}
use Rattle.pruning.specs.Walk.{activities_in, on_a, from_a, from_template}

-- ## Bits

-- two bits together, by the four cases
bit_of_both :
    (f : ℕ → ℕ → ℕ) (g : Bool → Bool → Bool) → eqb (f 0 0) 1 ≡ g false false → eqb (f 0 1) 1 ≡ g false true → eqb (f 1 0) 1 ≡ g true false →
    eqb (f 1 1) 1 ≡ g true true → (x y : ℕ) → x < 2 → y < 2 → eqb (f x y) 1 ≡ g (eqb x 1) (eqb y 1)
bit_of_both f g none second first both zero zero h k = none
bit_of_both f g none second first both zero (suc zero) h k = second
bit_of_both f g none second first both (suc zero) zero h k = first
bit_of_both f g none second first both (suc zero) (suc zero) h k = both
bit_of_both f g none second first both x (suc (suc y)) h k = absurd (omega arith)
bit_of_both f g none second first both (suc (suc x)) y h k = absurd (omega arith)

bit_of_other : (x : ℕ) → x < 2 → eqb (1 - x) 1 ≡ not (eqb x 1)
bit_of_other zero h = refl
bit_of_other (suc zero) h = refl
bit_of_other (suc (suc x)) h = absurd (omega arith)

module _ (b x y : ℕ) where
  pub has_and : has b (bit_and x y) ≡ has b x && has b y
  has_and = ap (λ n. eqb n 1) (bit_at_and x y b) ∙ bit_of_both min (λ p q. p && q) refl refl refl refl (bit_at x b) (bit_at y b) (bit_at-lt x b) (bit_at-lt y b)

  has_or : has b (bit_or x y) ≡ has b x || has b y
  has_or = ap (λ n. eqb n 1) (bit_at_or x y b) ∙ bit_of_both max (λ p q. p || q) refl refl refl refl (bit_at x b) (bit_at y b) (bit_at-lt x b) (bit_at-lt y b)

has_not : (b x : ℕ) → b < 32 → x < 4294967296 → has b (4294967295 - x) ≡ not (has b x)
has_not b x low fits = ap (λ n. eqb n 1) (bit_at_not w32 x b fits low) ∙ bit_of_other (bit_at x b) (bit_at-lt x b)

pub has_power : (a b : ℕ) → has b (2 ^ a) ≡ eqb a b
has_power a b =
    either (eqb a b)
    (λ same. rw (same, ← (eqb-true a b same)) (ap (λ n. eqb n 1) (bit_at-pow_same a)))
    (λ other. rw other (ap (λ n. eqb n 1) (bit_at-pow_other a b (λ same. eqb-false a b other (sym same)))))

has_ones : (n b : ℕ) → has b (2 ^ n - 1) ≡ ltb b n
has_ones n b =
    either (ltb b n)
    (λ low. rw low (ap (λ k. eqb k 1) (bit_at_ones n b (ltb-true b n low))))
    (λ high. rw high (ap (λ k. eqb k 1) (bit_at_ones_above n b (ltb-false b n high))))

-- ## The activities that a template takes

module _ (n a b : ℕ) (few : n ≤ 32) (a_few : a < 32) (low : b < 32) where
  pub declared_bits : has b (1 * 2 ^ n % 18446744073709551616 - 1) ≡ ltb b n
  declared_bits = ap (λ k. has b (k - 1)) (one_shl n 64 (omega arith)) ∙ has_ones n b

  pub other_bits : has b (4294967295 - 2 ^ a) ≡ not (eqb a b)
  other_bits = has_not b (2 ^ a) low (pow_below a 32 a_few) ∙ ap not (has_power a b)

  pub upper_bits : has b (4294967295 - bit_or (2 ^ a) (2 ^ a - 1)) ≡ ltb a b
  upper_bits =
      has_not b _ low (or_lt 32 (2 ^ a) (2 ^ a - 1) (pow_below a 32 a_few) (omega (arith, pow_below a 32 a_few)))
      ∙ ap not (has_or b (2 ^ a) (2 ^ a - 1) ∙ ap₂ (λ p q. p || q) (has_power a b) (has_ones a b))
      ∙ go (eqb a b) refl (ltb b a) refl
    where
      go : (s : Bool) → eqb a b ≡ s → (t : Bool) → ltb b a ≡ t → not (s || t) ≡ ltb a b
      go true e t f = sym (le-ltb a b (omega (arith, eqb-true a b e)))
      go false e true f = sym (le-ltb a b (omega (arith, ltb-true b a f)))
      go false e false f = sym (lt-ltb a b (omega (arith, eqb-false a b e, ltb-false b a f)))

-- ## The activities of a word

-- the first that passes, and the others
filter_first :
    (p q : ℕ → Bool) (k first more : ℕ) → first ≤ k → k < first + more → ((b : ℕ) → b < k → p b ≡ false) → p k ≡ true → q k ≡ false →
    ((b : ℕ) → b < first + more → (b ≡ k → ⊥) → q b ≡ p b) → filter p (range first more) ≡ k ∷ filter q (range first more)
filter_first p q k first zero low high none passes fails alike = absurd (omega arith)
filter_first p q k first (suc more) low high none passes fails alike =
    either (eqb first k)
    (λ here.
    let same = eqb-true first k here in
    rw (same, passes, fails)
    (ap (λ bs. k ∷ bs)
    (filter_same p q (range (suc k) more)
    (λ b there. let within = range_member b (suc k) more there in sym (alike b (omega arith) (λ at. omega arith))))))
    (λ there.
    let other = eqb-false first k there in
    rw (alike first (omega arith) other, none first (omega arith))
    (filter_first p q k (suc first) more (omega arith) (omega arith) none passes fails (λ b high. alike b (omega arith))))

pub none_in : activities_in 0 ≡ []
unfolding activities_in
none_in = filter_none (λ b. has b 0) (range 0 32) (λ b there. ap (λ n. eqb n 1) (bit_at-zero b))

-- the lowest bit's, and those of the others
pub lowest_in :
    (word : ℕ) → 0 < word → word < 4294967296 →
    activities_in word ≡ trailing_zeros w32 word ∷ activities_in (bit_and word (4294967295 - 2 ^ trailing_zeros w32 word))
unfolding activities_in
lowest_in word some fits =
    let k = trailing_zeros w32 word in
    let lowest = bit_at-trailing_zeros w32 word some fits in
    let cleared : (b : ℕ) → b < 32 → has b (bit_and word (4294967295 - 2 ^ k)) ≡ has b word && not (eqb k b) =
    λ b low. has_and b word _ ∙ ap (λ t. has b word && t) (other_bits 0 k b (omega arith) lowest.0 low) in
    filter_first (λ b. has b word) (λ b. has b (bit_and word (4294967295 - 2 ^ k))) k 0 32 (omega arith) lowest.0
    (λ b low. ap (λ n. eqb n 1) (lowest.2 b low)) (ap (λ n. eqb n 1) lowest.1)
    (cleared k lowest.0 ∙ rw (eq-eqb k k refl) (and-false (has k word)))
    (λ b low other. cleared b low ∙ rw (ne_eqb k b (λ same. other (sym same))) (and-true (has b word)))

-- ## Constraints by the bits of a word

module _ (keeps : Constraint → Bool) (n template a word : ℕ) where
  -- those on an a that are kept, where the word's bits are theirs
  by_bits :
      (first more : ℕ) →
      ((b : ℕ) → first ≤ b → b < first + more → has b word ≡ keeps (constraint template a b) && (ltb b n && pairs template a b)) →
      map (constraint template a) (filter (λ b. has b word) (range first more))
      ≡ filter keeps (flat_map (range first (min more (n - first))) λ b. if pairs template a b then constraint template a b ∷ [] else [])
  by_bits first zero bits = simp unary_clauses refl
  by_bits first (suc more) bits =
      let below = by_bits (suc first) more (λ b low high. bits b (omega arith) (omega arith)) in
      either (ltb first n)
      (λ declared.
      let so_many : min (suc more) (n - first) ≡ suc (min more (n - suc first)) = omega (arith, ltb-true first n declared) in
      rw (so_many, bits first (omega arith) (omega arith), declared) (here _ _ (keeps (constraint template a first)) refl (pairs template a first) below))
      (λ above.
      let past = ltb-false first n above in
      let none : min (suc more) (n - first) ≡ 0 = omega arith in
      let none' : min more (n - suc first) ≡ 0 = omega arith in
      rw (none, bits first (omega arith) (omega arith), above, and-false (keeps (constraint template a first))) (below ∙ rw none'))
    where
      here :
          (bs : List ℕ) (cs : List Constraint) (kept : Bool) → keeps (constraint template a first) ≡ kept → (paired : Bool) →
          map (constraint template a) bs ≡ filter keeps cs →
          map (constraint template a) (cond (kept && paired) (first ∷ bs) bs)
          ≡ filter keeps ((if paired then constraint template a first ∷ [] else []) ++ cs)
      here bs cs true e true more = rw e (ap (λ cs. constraint template a first ∷ cs) more)
      here bs cs true e false more = more
      here bs cs false e true more = rw e more
      here bs cs false e false more = more

  pub on_a_by_bits :
      n ≤ most_activities → ((b : ℕ) → b < most_activities → has b word ≡ keeps (constraint template a b) && (ltb b n && pairs template a b)) →
      map (constraint template a) (activities_in word) ≡ filter keeps (on_a n template a)
  unfolding activities_in
  on_a_by_bits few bits =
      let all : min 32 (n - 0) ≡ n = omega arith in
      by_bits 0 32 (λ b low high. bits b high) ∙ ap (λ k. filter keeps (flat_map (range 0 k) λ b. if pairs template a b then constraint template a b ∷ [] else [])) all

-- ## The constraints behind a place

module _ (n template : ℕ) where
  from_a_more : (a : ℕ) → a < n → from_a n template a ≡ on_a n template a ++ from_a n template (a + 1)
  from_a_more a declared =
      let so_many : n - a ≡ suc (n - suc a) = omega arith in
      rw (so_many, add-one a) refl

  from_a_none : (a : ℕ) → n ≤ a → from_a n template a ≡ []
  from_a_none a past = let none : n - a ≡ 0 = omega arith in rw none refl

  from_template_more : template ≤ 24 → from_template n template ≡ from_a n template 0 ++ from_template n (template + 1)
  from_template_more low =
      let so_many : 25 - template ≡ suc (25 - suc template) = omega arith in
      rw (so_many, add-one template) refl

-- all of them
pub from_the_first : (n : ℕ) → from_a n 1 0 ++ from_template n 2 ≡ constraints n
unfolding constraints
from_the_first n =
    let all : n - 0 ≡ n = omega arith in
    ap (λ k. flat_map (range 1 24) λ template. flat_map (range 0 k) (on_a n template)) all

-- what is kept on an a, by the bits of a word, and behind it
module _ (keeps : Constraint → Bool) (n template a word : ℕ) (few : n ≤ most_activities) (declared : a ≤ n - 1)
    (bits : (b : ℕ) → b < most_activities → has b word ≡ keeps (constraint template a b) && (ltb b n && pairs template a b))
    (rest : List Constraint) where
  pub kept_from_a :
      map (constraint template a) (activities_in word) ++ filter keeps (from_a n template (a + 1) ++ rest)
      ≡ filter keeps (from_a n template a ++ rest)
  kept_from_a =
      either (ltb a n)
      (λ some.
      ap (λ cs. cs ++ filter keeps (from_a n template (a + 1) ++ rest)) (on_a_by_bits keeps n template a word few bits)
      ∙ sym (filter_append keeps (on_a n template a) (from_a n template (a + 1) ++ rest))
      ∙ ap (filter keeps) (sym (append_assoc (on_a n template a) (from_a n template (a + 1)) rest) ∙ ap (λ cs. cs ++ rest) (sym (from_a_more n template a (ltb-true a n some)))))
      (λ none.
      let past = ltb-false a n none in
      let zero : n ≡ 0 = omega arith in
      ap₂ (λ front behind. front ++ filter keeps (behind ++ rest))
      (on_a_by_bits keeps n template a word few bits ∙ ap (λ k. filter keeps (on_a k template a)) zero)
      (from_a_none n template (a + 1) (omega arith) ∙ sym (from_a_none n template a past)))

-- what is kept behind the last a of a template
module _ (keeps : Constraint → Bool) (n template a : ℕ) (last : n ≤ a + 1) where
  pub kept_from_template :
      template < 24 → filter keeps (from_a n template (a + 1) ++ from_template n (template + 1))
      ≡ filter keeps (from_a n (template + 1) 0 ++ from_template n (template + 1 + 1))
  kept_from_template more =
      rw (from_a_none n template (a + 1) last) (ap (filter keeps) (from_template_more n (template + 1) (omega arith)))

-- What is counted from the words of traces is what is counted over the traces.
-- Assumes nothing.
use Prim.Native.Nat.{ℕ, zero, suc, ◌*◌, ◌%◌, ◌^◌, ◌≤◌, ◌<◌}
use native.Mathlib.Omega.{arith}
use mathlib.Core.Path.{◌≡◌, refl, sym, ap, ap₂, ◌∙◌}
use mathlib.Core.Bool.{Bool, true, false, not, ◌&&◌, ◌||◌, and-true, and-false}
use mathlib.Core.List.{List, [], ◌∷◌, map}
use borrow.Author.Tests.{eqb-true, eqb-false, eq-eqb, ne_eqb, lt-ltb, leb-false, lt-leb, le-leb}
use lib.Dec.{eqb, leb}
use lib.ListN.{length, set}
use Rattle.std.specs.Prelude.{bit_and, bit_or, if◌then◌else◌}
use Rattle.std.specs.Int.{bit_at}
use Rattle.std.specs.Int.Bits.{or_zero_l, or_self}
use Rattle.std.specs.List.{filter, list_all}
use Rattle.std.proofs.lemmas.Nat.{pow_pos, and_mask, and_le_r, or_comm, le_or_l}
use Rattle.std.proofs.lemmas.Nat.Bits.{bit_at-lt, bit_at_and, bit_at_or, same_from_bits, and_pow}
use Rattle.base.specs.Lists.{non_empty}
use Rattle.base.proofs.Bools.{either, and_left, and_right, fails_too}
use Rattle.base.proofs.Lists.{count_filter, count_map, count_same}
use Rattle.declare.specs.declared.constraints.Constraint.{Constraint}
use Rattle.declare.specs.Traces.{most_activities, all_below}
use Rattle.declare.specs.Meaning.{occurs}
use Rattle.eventlog.specs.Words.{word_of, bit_of, has}
use Rattle.eventlog.proofs.WordBits.{word_small, word_alone, has_declared, some_bit}
use Rattle.pruning.specs.declared.Class.{Class}
use Rattle.pruning.specs.declared.Class.TheVariants.{WithA, All, Either, Both}
use Rattle.pruning.specs.Question.{class_of, counts_for, reads, support}
use Rattle.declare.specs.Constraints.{Over}
use Rattle.pruning.specs.Masks.{some_of, all_of, traces_by, counts_by, support_by, bits_of, by_mask, test_for, passes}

-- ## Any masks

module _ (word x y : ℕ) where
  -- the same bits, place by place
  parted : bit_and word (bit_or x y) ≡ bit_or (bit_and word x) (bit_and word y)
  parted =
      same_from_bits _ _
      (λ i.
      omega (
        arith,
        bit_at_and word (bit_or x y) i,
        bit_at_or x y i,
        bit_at_or (bit_and word x) (bit_and word y) i,
        bit_at_and word x i,
        bit_at_and word y i,
      ))

  some_either : some_of (bit_or x y) word ≡ some_of x word || some_of y word
  some_either = go (eqb (bit_and word x) 0) refl
    where
      go : (t : Bool) → eqb (bit_and word x) 0 ≡ t → some_of (bit_or x y) word ≡ not t || some_of y word
      go true none =
          ap (λ n. not (eqb n 0)) (parted ∙ ap (λ n. bit_or n (bit_and word y)) (eqb-true _ 0 none) ∙ or_zero_l (bit_and word y))
      go false some =
          ap not
          (ne_eqb (bit_and word (bit_or x y)) 0
          (λ none. eqb-false _ 0 some (omega (arith, parted, le_or_l (bit_and word x) (bit_and word y)))))

  -- all of both
  all_left : all_of (bit_or x y) word ≡ true → bit_and word x ≡ x
  all_left h =
      let all = eqb-true (bit_and word (bit_or x y)) (bit_or x y) h in
      same_from_bits _ _
      (λ i.
      omega (arith, ap (λ n. bit_at n i) all, bit_at_and word (bit_or x y) i, bit_at_or x y i, bit_at_and word x i))

pub all_both : (word x y : ℕ) → all_of (bit_or x y) word ≡ all_of x word && all_of y word
all_both word x y = go (all_of (bit_or x y) word) refl
  where
    right : all_of (bit_or x y) word ≡ true → bit_and word y ≡ y
    right h = all_left word y x (ap (λ n. all_of n word) (or_comm y x) ∙ h)

    go : (t : Bool) → all_of (bit_or x y) word ≡ t → t ≡ all_of x word && all_of y word
    go true h = sym (rw (all_left word x y h, right h, eq-eqb x x refl, eq-eqb y y refl))
    go false h =
        sym
        (fails_too _ _
        (λ both.
        let of_x = eqb-true (bit_and word x) x (and_left (all_of x word) (all_of y word) both) in
        let of_y = eqb-true (bit_and word y) y (and_right (all_of x word) (all_of y word) both) in
        eq-eqb _ _ (parted word x y ∙ ap₂ bit_or of_x of_y)) h)

-- by comparisons
module _ (word mask : ℕ) where
  some_at_least : leb 1 (bit_and word mask) ≡ some_of mask word
  some_at_least = go (bit_and word mask)
    where
      go : (n : ℕ) → leb 1 n ≡ not (eqb n 0)
      go zero = refl
      go (suc n) = le-leb 1 (suc n) (omega arith) ∙ sym (ap not (ne_eqb (suc n) 0 (λ same. omega arith)))

  all_at_least : leb mask (bit_and word mask) ≡ all_of mask word
  all_at_least =
      either (eqb (bit_and word mask) mask)
      (λ same. le-leb mask _ (omega (arith, eqb-true _ mask same)) ∙ sym same)
      (λ other. lt-leb mask _ (omega (arith, and_le_r word mask, eqb-false _ mask other)) ∙ sym other)

-- ## An activity's bit

pub single : (a : ℕ) → a < most_activities → bit_of a ≡ 2 ^ a
single a low = word_alone a ∙ rw (lt-ltb a most_activities low)

module _ (word a : ℕ) (low : a < most_activities) where
  one_bit : bit_and word (bit_of a) ≡ bit_at word a * 2 ^ a
  one_bit = ap (bit_and word) (single a low) ∙ and_pow word a

  where_set : has a word ≡ true → bit_and word (bit_of a) ≡ bit_of a
  where_set set = one_bit ∙ ap (λ d. d * 2 ^ a) (eqb-true _ 1 set) ∙ sym (single a low ∙ omega arith)

  where_unset : has a word ≡ false → bit_and word (bit_of a) ≡ 0
  where_unset unset =
      let zero : bit_at word a ≡ 0 = omega (arith, bit_at-lt word a, eqb-false _ 1 unset) in
      one_bit ∙ ap (λ d. d * 2 ^ a) zero ∙ omega arith

  some : bit_of a ≡ 0 → ⊥
  some none = let positive = pow_pos a in omega (arith, none, single a low)

  pub some_has : some_of (bit_of a) word ≡ has a word
  some_has = go (has a word) refl
    where
      go : (t : Bool) → has a word ≡ t → some_of (bit_of a) word ≡ t
      go true set = ap not (ne_eqb _ 0 (λ none. some (sym (where_set set) ∙ none)))
      go false unset = ap (λ n. not (eqb n 0)) (where_unset unset)

  -- one bit alone is all of them
  pub all_has : all_of (bit_of a) word ≡ has a word
  all_has = go (has a word) refl
    where
      go : (t : Bool) → has a word ≡ t → all_of (bit_of a) word ≡ t
      go true set = eq-eqb _ _ (where_set set)
      go false unset = ne_eqb _ _ (λ same. some (sym same ∙ where_unset unset))

-- ## The word of a trace of declared activities

-- in an empty trace nothing occurs
occurs_in_some : (p : List ℕ → Bool) → p [] ≡ false → (trace : List ℕ) → p trace ≡ non_empty trace && p trace
occurs_in_some p none [] = none
occurs_in_some p none (x ∷ trace) = refl

module _ (trace : List ℕ) (declared : all_below most_activities trace ≡ true) where
  some_occurs : (a : ℕ) → a < most_activities → some_of (bit_of a) (word_of trace) ≡ occurs a trace
  some_occurs a low = some_has (word_of trace) a low ∙ has_declared a trace declared

  all_occurs : (a : ℕ) → a < most_activities → all_of (bit_of a) (word_of trace) ≡ occurs a trace
  all_occurs a low = all_has (word_of trace) a low ∙ has_declared a trace declared

  some_at_all : some_of 4294967295 (word_of trace) ≡ non_empty trace
  some_at_all =
      ap (λ n. not (eqb n 0)) (and_mask (word_of trace) 32 ∙ omega (arith, word_small trace)) ∙ some_bit trace declared

  module _ (a b : ℕ) (low : a < most_activities) (low' : b < most_activities) where
    counts_trace : (class : Class) → counts_by class (bit_of a) (bit_of b) (word_of trace) ≡ non_empty trace && counts_for class a b trace
    counts_trace WithA = some_occurs a low ∙ occurs_in_some (counts_for WithA a b) refl trace
    counts_trace All = some_at_all ∙ sym (and-true (non_empty trace))
    counts_trace Either =
        some_either (word_of trace) (bit_of a) (bit_of b)
        ∙ ap₂ (λ p q. p || q) (some_occurs a low) (some_occurs b low')
        ∙ occurs_in_some (counts_for Either a b) refl trace
    counts_trace Both =
        all_both (word_of trace) (bit_of a) (bit_of b)
        ∙ ap₂ (λ p q. p && q) (all_occurs a low) (all_occurs b low')
        ∙ occurs_in_some (counts_for Both a b) refl trace

    -- the test of words for a class passes those of the traces that it counts
    passes_counts :
        (class : Class) → (class ≡ WithA → b ≡ a) → passes (test_for class a b) (word_of trace) ≡ non_empty trace && counts_for class a b trace
    passes_counts class one = ap (λ mask. passes (by_mask class mask) (word_of trace)) bits ∙ go class one
      where
        bits : bits_of a b ≡ bit_or (bit_of a) (bit_of b)
        bits =
            let same : a % 32 ≡ a = omega arith in
            let same' : b % 32 ≡ b = omega arith in
            ap₂ (λ a b. bit_or (bit_of a) (bit_of b)) same same'

        go : (class : Class) → (class ≡ WithA → b ≡ a) → passes (by_mask class (bit_or (bit_of a) (bit_of b))) (word_of trace) ≡ non_empty trace && counts_for class a b trace
        go WithA one = some_at_least (word_of trace) _ ∙ ap (λ bits. some_of bits (word_of trace)) (ap (λ b. bit_or (bit_of a) (bit_of b)) (one refl) ∙ or_self (bit_of a)) ∙ counts_trace WithA
        go All one = some_at_least (word_of trace) 4294967295 ∙ counts_trace All
        go Either one = some_at_least (word_of trace) (bit_or (bit_of a) (bit_of b)) ∙ counts_trace Either
        go Both one = all_at_least (word_of trace) (bit_or (bit_of a) (bit_of b)) ∙ counts_trace Both

-- ## All the words

-- R, support and what pruning keeps, over the words of traces of declared activities
module _ (kept : List (List ℕ)) (declared : list_all (all_below most_activities) kept ≡ true) where
  pub traces_counted : traces_by (map word_of kept) ≡ length (filter non_empty kept)
  traces_counted =
      count_map (some_of 4294967295) word_of kept
      ∙ count_same (all_below most_activities) (λ trace. some_of 4294967295 (word_of trace)) non_empty kept declared some_at_all

  pub support_counted :
      (class : Class) (c : Constraint) → c.a < most_activities → c.b < most_activities →
      support_by class (map word_of kept) c.a c.b ≡ support class (filter non_empty kept) c
  unfolding support
  support_counted class c low low' =
      count_map (counts_by class (bit_of c.a) (bit_of c.b)) word_of kept
      ∙ count_same (all_below most_activities) _ (λ trace. non_empty trace && counts_for class c.a c.b trace) kept declared
      (λ trace declared. counts_trace trace declared c.a c.b low low' class)
      ∙ sym (count_filter non_empty (counts_for class c.a c.b) kept)

-- the class of the traces with a is that of templates for one activity
pub one_activity : (template : ℕ) → class_of template ≡ WithA → leb template 8 ≡ true
one_activity template e = either (leb template 8) (λ one. one) (λ more. absurd (other more))
  where
    no : (x : Bool) → (if x then Either else Both) ≡ WithA → ⊥
    no true e = cc
    no false e = cc

    other : leb template 8 ≡ false → ⊥
    other more =
        let above = leb-false template 8 more in
        no _
        (rw (
          lt-leb template 3 (omega arith),
          and-false (leb 1 template),
          more,
          and-false (leb 7 template),
          lt-leb template 6 (omega arith),
          and-false (leb 4 template),
        ) at e)

-- the test of words tells which traces a constraint reads
pub passes_reads :
    (n : ℕ) → n ≤ most_activities → (c : Constraint) → Over n c → (trace : List ℕ) → all_below most_activities trace ≡ true →
    passes (test_for (class_of c.template) c.a c.b) (word_of trace) ≡ reads c trace
passes_reads n few c over trace declared =
    passes_counts trace declared c.a c.b (omega (arith, over.a_declared)) (omega (arith, over.b_declared)) (class_of c.template)
    (λ of_template. sym (eqb-true c.a c.b (rw (one_activity c.template of_template) at over.paired)))

-- Laws of words: which bits are set, and what a word comes to as a number.
-- Assumes nothing.
use Prim.Native.Nat.{ℕ, zero, suc, ◌+◌, ◌*◌, ◌/◌, ◌%◌, ◌^◌, ◌≤◌, ◌<◌, max}
use native.Mathlib.Omega.{arith}
use native.Mathlib.Nat.{pow-suc}
use mathlib.Core.Path.{◌≡◌, refl, sym, ap, ap₂, ◌∙◌}
use mathlib.Core.Bool.{Bool, true, false, not, ◌&&◌, ◌||◌}
use mathlib.Core.List.{List, [], ◌∷◌, ◌++◌, map, map-append, append_assoc, append-nil}
use borrow.Author.Tests.{eqb-true, eq-eqb, ne_eqb, lt-ltb, ltb-true, ltb-false}
use lib.Dec.{eqb, ltb}
use lib.ListN.{length, get_or}
use Rattle.std.specs.Prelude.{bit_or, if◌then◌else◌}
use Rattle.std.specs.Int.{bit_at}
use Rattle.std.specs.List.{fold}
use Rattle.std.proofs.lemmas.Nat.{or_lt, pow_below}
use Rattle.std.proofs.lemmas.Nat.Bits.{bit_at_lowest, bit_at-suc, bit_at-zero, bit_at-pow_same, bit_at-pow_other, bit_at_or, bit_at_above, bit_at-lt, same_from_bits, same_from_bits_below}
use Rattle.base.specs.Lists.{non_empty, range}
use Rattle.base.proofs.Bools.{either, clash, and_left, and_right}
use Rattle.base.proofs.Lists.{range_at}
use Rattle.declare.specs.Traces.{most_activities, all_below}
use Rattle.declare.specs.Meaning.{occurs}
use Rattle.declare.proofs.Occurrence.{occurs_append, undeclared_nowhere}
use Rattle.eventlog.specs.Words.{from_bits, word_of, with_bit, has, JustItsBits}

-- ## Numbers by their bits

abbrev digit : Bool → ℕ
digit bit = if bit then 1 else 0

digit_either : (p q : Bool) → max (digit p) (digit q) ≡ digit (p || q)
digit_either true true = refl
digit_either true false = refl
digit_either false true = refl
digit_either false false = refl

digit_small : (p : Bool) → digit p ≤ 1
digit_small true = omega arith
digit_small false = omega arith

set_by_digit : (p : Bool) → eqb (digit p) 1 ≡ p
set_by_digit true = refl
set_by_digit false = refl

from_bits_small : (bits : List Bool) → from_bits bits < 2 ^ length bits
from_bits_small [] = omega arith
from_bits_small (bit ∷ bits) = omega (arith, from_bits_small bits, digit_small bit, pow-suc 2 (length bits))

from_bits_at : (bits : List Bool) (s : ℕ) → bit_at (from_bits bits) s ≡ digit (get_or bits s false)
from_bits_at [] s = bit_at-zero s
from_bits_at (bit ∷ bits) zero = omega (arith, bit_at_lowest (digit bit + 2 * from_bits bits), digit_small bit)
from_bits_at (bit ∷ bits) (suc s) =
    let half : (digit bit + 2 * from_bits bits) / 2 ≡ from_bits bits = omega (arith, digit_small bit) in
    bit_at-suc _ s ∙ ap (λ n. bit_at n s) half ∙ from_bits_at bits s

-- ## The bits of a word

pub word_small : (trace : List ℕ) → word_of trace < 2 ^ 32
unfolding word_of
word_small trace = from_bits_small (map (λ s. occurs s trace) (range 0 most_activities))

bit_of_word : (s : ℕ) (trace : List ℕ) → s < most_activities → bit_at (word_of trace) s ≡ digit (occurs s trace)
unfolding word_of
bit_of_word s trace low =
    from_bits_at (map (λ s. occurs s trace) (range 0 most_activities)) s
    ∙ ap digit (range_at (λ s. occurs s trace) most_activities s false low)

-- bit s is set just where s occurs
pub has_occurs : (s : ℕ) (trace : List ℕ) → s < most_activities → has s (word_of trace) ≡ occurs s trace
has_occurs s trace low = ap (λ n. eqb n 1) (bit_of_word s trace low) ∙ set_by_digit (occurs s trace)

-- and no bit is set from 32 on
has_none : (s : ℕ) (trace : List ℕ) → most_activities ≤ s → has s (word_of trace) ≡ false
has_none s trace high = ap (λ n. eqb n 1) (bit_at_above (word_of trace) 32 s (word_small trace) high)

pub just_its_bits : JustItsBits
just_its_bits trace word = (alike, λ same s. ap (has s) same ∙ by s)
  where
    by : (s : ℕ) → has s (word_of trace) ≡ ltb s most_activities && occurs s trace
    by s =
        either (ltb s most_activities)
        (λ low. rw low (has_occurs s trace (ltb-true s most_activities low)))
        (λ high. rw high (has_none s trace (ltb-false s most_activities high)))

    digits : (x y : ℕ) → x < 2 → y < 2 → eqb x 1 ≡ eqb y 1 → x ≡ y
    digits zero zero h k e = refl
    digits zero (suc y) h k e = let one : suc y ≡ 1 = omega arith in clash (ap (λ n. eqb n 1) one) (sym e)
    digits (suc x) zero h k e = let one : suc x ≡ 1 = omega arith in clash (ap (λ n. eqb n 1) one) e
    digits (suc x) (suc y) h k e = omega arith

    alike : ((s : ℕ) → has s word ≡ ltb s most_activities && occurs s trace) → word ≡ word_of trace
    alike bits =
        same_from_bits word (word_of trace)
        (λ s. digits (bit_at word s) (bit_at (word_of trace) s) (bit_at-lt word s) (bit_at-lt (word_of trace) s) (bits s ∙ sym (by s)))

-- in a trace of declared activities no other occurs
pub has_declared : (s : ℕ) (trace : List ℕ) → all_below most_activities trace ≡ true → has s (word_of trace) ≡ occurs s trace
has_declared s trace declared =
    either (ltb s most_activities)
    (λ low. has_occurs s trace (ltb-true s most_activities low))
    (λ high.
    let above = ltb-false s most_activities high in
    has_none s trace above ∙ sym (undeclared_nowhere most_activities s trace above declared))

-- the empty trace's word is 0, and no other's of declared activities
pub word_of_none : word_of [] ≡ 0
unfolding word_of
word_of_none = refl

pub some_bit : (trace : List ℕ) → all_below most_activities trace ≡ true → not (eqb (word_of trace) 0) ≡ non_empty trace
some_bit [] declared = ap (λ word. not (eqb word 0)) word_of_none
some_bit (x ∷ trace) declared =
    let low = ltb-true x most_activities (and_left (ltb x most_activities) (all_below most_activities trace) declared) in
    let first : occurs x (x ∷ trace) ≡ true = rw (eq-eqb x x refl) in
    let set : eqb (bit_at (word_of (x ∷ trace)) x) 1 ≡ true = has_occurs x (x ∷ trace) low ∙ first in
    ap not
    (ne_eqb (word_of (x ∷ trace)) 0
    (λ none. clash set (ap (λ word. eqb (bit_at word x) 1) none ∙ ap (λ n. eqb n 1) (bit_at-zero x))))

-- ## As a number

-- the word of one activity alone
pub word_alone : (x : ℕ) → word_of (x ∷ []) ≡ if ltb x most_activities then 2 ^ x else 0
word_alone x = either (ltb x most_activities) (λ low. by_bits low) (λ high. none high)
  where
    power : ltb x most_activities ≡ true → word_of (x ∷ []) ≡ 2 ^ x
    power low =
        same_from_bits_below 32 (word_of (x ∷ [])) (2 ^ x) (word_small (x ∷ [])) (pow_below x 32 (ltb-true x most_activities low))
        (λ s within.
        bit_of_word s (x ∷ []) within
        ∙ either (eqb x s)
        (λ same. rw (same, ← (eqb-true x s same)) (sym (bit_at-pow_same x)))
        (λ other. rw other (sym (bit_at-pow_other x s (λ same. clash (eq-eqb x s (sym same)) other)))))

    by_bits : ltb x most_activities ≡ true → word_of (x ∷ []) ≡ if ltb x most_activities then 2 ^ x else 0
    by_bits low = rw low (power low)

    none : ltb x most_activities ≡ false → word_of (x ∷ []) ≡ if ltb x most_activities then 2 ^ x else 0
    none high =
        rw high
        (same_from_bits_below 32 (word_of (x ∷ [])) 0 (word_small (x ∷ [])) (omega arith)
        (λ s within.
        bit_of_word s (x ∷ []) within
        ∙ rw (ne_eqb x s (λ same. omega (arith, ltb-false x most_activities high))) (sym (bit_at-zero s))))

-- of traces joined the word has the bits of both
pub word_append : (xs ys : List ℕ) → word_of (xs ++ ys) ≡ bit_or (word_of xs) (word_of ys)
word_append xs ys =
    same_from_bits_below 32 (word_of (xs ++ ys)) (bit_or (word_of xs) (word_of ys)) (word_small (xs ++ ys))
    (or_lt 32 (word_of xs) (word_of ys) (word_small xs) (word_small ys))
    (λ s within.
    bit_of_word s (xs ++ ys) within
    ∙ ap digit (occurs_append s xs ys)
    ∙ sym
    (bit_at_or (word_of xs) (word_of ys) s
    ∙ ap₂ max (bit_of_word s xs within) (bit_of_word s ys within)
    ∙ digit_either (occurs s xs) (occurs s ys)))

-- ## Made event by event

pub one_more : (trace : List ℕ) (event : ℕ) → with_bit (word_of trace) event ≡ word_of (trace ++ (event ∷ []))
one_more trace event = sym (word_append trace (event ∷ []))

folded_on : (front trace : List ℕ) → fold with_bit (word_of front) trace ≡ word_of (front ++ trace)
folded_on front [] = ap word_of (sym (append-nil front))
folded_on front (event ∷ trace) =
    ap (λ before. fold with_bit before trace) (one_more front event)
    ∙ folded_on (front ++ (event ∷ [])) trace
    ∙ ap word_of (append_assoc front (event ∷ []) trace)

pub folded : (trace : List ℕ) → fold with_bit 0 trace ≡ word_of trace
folded trace = ap (λ before. fold with_bit before trace) (sym word_of_none) ∙ folded_on [] trace

-- ## By the lowest five bits of each event, which are all of a declared one

abbrev pub low : ℕ → ℕ
low event = event % most_activities

-- a word with the bit of an event's lowest five bits
pub one_low_more :
    (trace : List ℕ) (event : ℕ) → bit_or (word_of (map low trace)) (2 ^ low event) ≡ word_of (map low (trace ++ (event ∷ [])))
one_low_more trace event =
    ap (bit_or (word_of (map low trace))) (sym (word_alone (low event) ∙ rw (lt-ltb (low event) most_activities (omega arith))))
    ∙ one_more (map low trace) (low event)
    ∙ ap word_of (sym (map-append low trace (event ∷ [])))

pub low_declared : (n : ℕ) (trace : List ℕ) → n ≤ most_activities → all_below n trace ≡ true → map low trace ≡ trace
low_declared n [] few declared = refl
low_declared n (event ∷ trace) few declared =
    let below = ltb-true event n (and_left (ltb event n) (all_below n trace) declared) in
    ap₂ (λ first rest. first ∷ rest) (omega (arith, below, few))
    (low_declared n trace few (and_right (ltb event n) (all_below n trace) declared))

-- ## What the law of the bits says: of the number 5, whose bits are 0 and 2

five : JustItsBits → ((s : ℕ) → has s 5 ≡ ltb s most_activities && occurs s (2 ∷ 0 ∷ [])) → 5 ≡ word_of (2 ∷ 0 ∷ [])
five law bits = (law (2 ∷ 0 ∷ []) 5).0 bits

five_has : JustItsBits → 5 ≡ word_of (2 ∷ 0 ∷ []) → has 2 5 ≡ true
five_has law same = (law (2 ∷ 0 ∷ []) 5).1 same 2

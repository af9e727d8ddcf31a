-- Shifting follows the tables: it ends in the same state, and tells its verdict.
-- Assumes nothing.
use Prim.Native.Nat.{ℕ, ◌+◌, ◌-◌, ◌*◌, ◌/◌, ◌%◌, ◌^◌, ◌≤◌, ◌<◌}
use native.Mathlib.Omega.{arith}
use mathlib.Core.Path.{◌≡◌, refl, ap, ap₂, ◌∙◌}
use mathlib.Core.Bool.{Bool, true, false}
use mathlib.Core.List.{List, [], ◌∷◌}
use borrow.Author.Tests.{eqb-true, eqb-false, ltb-true}
use lib.Dec.{eqb, ltb}
use lib.ListN.{get_or, set, replicate, length, length-set, get_or-replicate}
use lib.Seq.{get_or-set_same, get_or-set_other}
use Rattle.std.specs.Prelude.{if◌then◌else◌}
use Rattle.std.specs.List.{list_all}
use Rattle.base.specs.Lists.{range}
use Rattle.base.proofs.Lists.{all_range}
use Rattle.base.proofs.Bools.{and_left, and_right, either}
use Rattle.automata.specs.declared.Automaton.{Automaton}
use Rattle.automata.specs.declared.Replayer.{Replayer}
use Rattle.automata.specs.Automata.{state_verdicts, next_of, verdict_of, letter, follow, told, moves_word, verdicts_word, automaton, moves_of, start, shift_of, advance, advance_all, verdict_by}
use Rattle.base.proofs.Ranges.{inside}
use Rattle.automata.proofs.Agreement.{letter_small}

-- ## The words

-- what passes at each state of each template
pub at_every_state : (p : ℕ → ℕ → Bool) → list_all (λ t. list_all (p t) (range 0 8)) (range 1 24) ≡ true
    → (template k : ℕ) → 1 ≤ template → template ≤ 24 → k < 8 → p template k ≡ true
at_every_state p h template k low high small =
    all_range (p template) 0 8 k (all_range (λ t. list_all (p t) (range 0 8)) 1 24 template h low (omega arith)) (omega arith) small

-- what a letter's number, shifted by eight times a state's number, leaves as the next shift
abbrev shift_after : ℕ → ℕ → ℕ
shift_after word shift = shift_of (record { state = word / 2 ^ shift })

abbrev moves_right : ℕ → ℕ → ℕ → Bool
moves_right t k l = eqb (shift_after (moves_word t l) (8 * k)) (8 * next_of t k l)

-- by these all next states are below 8, too
all_moves_right : list_all (λ t. list_all (λ k. list_all (moves_right t k) (range 0 3)) (range 0 8)) (range 1 24) ≡ true
unfolding moves_word next_of
all_moves_right = refl

abbrev verdict_right : ℕ → ℕ → Bool
verdict_right t k = eqb (verdicts_word t / 2 ^ (8 * k) % 64) (get_or state_verdicts (8 * (t - 1) + k) 0)

all_verdicts_right : list_all (λ t. list_all (verdict_right t) (range 0 8)) (range 1 24) ≡ true
unfolding verdicts_word state_verdicts
all_verdicts_right = refl

-- an automaton by its letters' numbers
abbrev lettered : (ℕ → ℕ) → ℕ → Automaton
lettered word verdicts = record { a = word 0; b = word 1; other = word 2; verdicts = verdicts }

abbrev words : ℕ → Automaton
words t = lettered (moves_word t) (verdicts_word t)

-- ## The moves

set_at : (l : List ℕ) (i j y : ℕ) → i < length l → get_or (set l i y) j 0 ≡ (if eqb j i then y else get_or l j 0)
set_at l i j y h =
    either (eqb j i) (λ e. rw (e, eqb-true j i e) (get_or-set_same l i y 0 h)) (λ e. rw e (get_or-set_other l i j y 0 (eqb-false j i e)))

-- each activity's number is that of its letter
chosen : (word : ℕ → ℕ) (verdicts a b x : ℕ) → a < 32 → b < 32 → x < 32
    → get_or (moves_of (lettered word verdicts) a b) (x % 32) 0 ≡ word (letter a b x)
chosen word verdicts a b x small-a small_b small =
    let others = replicate 32 (word 2) in
    let same-a : a % 32 ≡ a = omega arith in
    let same-b : b % 32 ≡ b = omega arith in
    let same : x % 32 ≡ x = omega arith in
    rw (same-a, same-b, same)
    (set_at (set others b (word 1)) a x (word 0) (rw length-set (omega arith))
    ∙ ap (λ n. if eqb x a then word 0 else n)
    (set_at others b x (word 1) (omega arith)
    ∙ ap (λ n. if eqb x b then word 1 else n) (get_or-replicate 32 x (word 2) 0 small))
    ∙ pick (eqb x a) (eqb x b))
  where
    pick : (p q : Bool) → (if p then word 0 else if q then word 1 else word 2) ≡ word (if p then 0 else if q then 1 else 2)
    pick true q = refl
    pick false true = refl
    pick false false = refl

-- ## The trace

module _ (template : ℕ) (low : 1 ≤ template) (high : template ≤ 24) where
  moved : (k l : ℕ) → k < 8 → l < 3 → shift_after (moves_word template l) (8 * k) ≡ 8 * next_of template k l
  moved k l small few =
      eqb-true _ _
      (all_range (moves_right template k) 0 3 l (at_every_state (λ t k. list_all (moves_right t k) (range 0 3)) all_moves_right template k low high small)
      (omega arith) few)

  pub next_small : (k l : ℕ) → k < 8 → l < 3 → next_of template k l < 8
  next_small k l small few = omega (arith, moved k l small few)

  pub follow_small : (a b k : ℕ) (trace : List ℕ) → k < 8 → follow template a b k trace < 8
  follow_small a b k [] small = small
  follow_small a b k (x ∷ trace) small = follow_small a b (next_of template k (letter a b x)) trace (next_small k (letter a b x) small (letter_small a b x))

  known_automaton : automaton template ≡ words template
  unfolding automaton
  known_automaton = rw (inside 1 template 24 low high)

  module _ (a b : ℕ) (small-a : a < 32) (small_b : b < 32) where
    shifted_from : (r : Replayer) (k : ℕ) (trace : List ℕ) → k < 8 → shift_of r ≡ 8 * k → list_all (λ x. ltb x 32) trace ≡ true
        → shift_of (advance_all (moves_of (words template) a b) r trace) ≡ 8 * follow template a b k trace
    shifted_from r k [] small here within = here
    shifted_from r k (x ∷ trace) small here within =
        let rest = list_all (λ x. ltb x 32) trace in
        let l = letter a b x in
        let few = letter_small a b x in
        shifted_from (advance (moves_of (words template) a b) r x) (next_of template k l) trace (next_small k l small few)
        (ap₂ shift_after
        (chosen (moves_word template) (verdicts_word template) a b x small-a small_b (ltb-true x 32 (and_left (ltb x 32) rest within))) here
        ∙ moved k l small few)
        (and_right (ltb x 32) rest within)

    -- what shifting tells is the verdict of the state that the trace leads to
    pub shifted : (trace : List ℕ) → list_all (λ x. ltb x 32) trace ≡ true
        → verdict_by (automaton template).verdicts (advance_all (moves_of (automaton template) a b) start trace)
        ≡ verdict_of template (follow template a b 0 trace)
    unfolding verdict_of
    shifted trace within =
        let k = follow template a b 0 trace in
        let small = follow_small a b 0 trace (omega arith) in
        ap (λ (m : Automaton). verdict_by m.verdicts (advance_all (moves_of m a b) start trace)) known_automaton
        ∙ ap (λ n. told (verdicts_word template / 2 ^ n % 64)) (shifted_from start 0 trace (omega arith) refl within)
        ∙ ap told
        (eqb-true (verdicts_word template / 2 ^ (8 * k) % 64) (get_or state_verdicts (8 * (template - 1) + k) 0) (at_every_state verdict_right all_verdicts_right template k low high small))

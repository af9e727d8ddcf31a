-- What is_sound finds, trace by trace with its word, is what a sound store asks of events and words.
-- Assumes nothing.
use Prim.Native.Nat.{ℕ, ◌≤◌}
use mathlib.Core.Path.{◌≡◌, refl, sym, ap, ap₂, ◌∙◌}
use mathlib.Core.Bool.{Bool, true, false, ◌&&◌, and-true, and-false}
use mathlib.Core.List.{List, [], ◌∷◌, map}
use native.Mathlib.Omega.{arith}
use lib.Dec.{eqb}
use lib.ListN.{length, take}
use lib.Seq.{length-take-le}
use borrow.Author.Tests.{le-leb}
use Rattle.std.specs.List.{list_all, zip}
use Rattle.base.specs.Lists.{equal_lists}
use Rattle.base.proofs.Bools.{either}
use Rattle.base.proofs.Ranges.{range_facts}
use Rattle.declare.specs.Traces.{most_activities, declarable, all_below}
use Rattle.eventlog.specs.Store.{Memory, most_traces, rising, last_end, kept, sound}
use Rattle.eventlog.specs.Words.{word_of}
use Rattle.eventlog.proofs.Laws.{kept_ends, kept_words, cut_length, declared_traces}
use Rattle.eventlog.proofs.WordBits.{low, low_declared}

-- a trace with its word: the trace's events are declared, and the word is its word
abbrev pub right_pair : ℕ → List ℕ × ℕ → Bool
right_pair n pair = all_below n pair.0 && eqb pair.1 (word_of pair.0)

-- the same by the lowest five bits of each event
abbrev pub right_low_pair : ℕ → List ℕ × ℕ → Bool
right_low_pair n pair = all_below n pair.0 && eqb pair.1 (word_of (map low pair.0))

low_is_right : (n : ℕ) → n ≤ most_activities → (pair : List ℕ × ℕ) → right_low_pair n pair ≡ right_pair n pair
low_is_right n few pair =
    either (all_below n pair.0)
    (λ declared. ap (λ events. all_below n pair.0 && eqb pair.1 (word_of events)) (low_declared n pair.0 few declared))
    (λ undeclared. rw undeclared refl)

pub low_are_right :
    (n : ℕ) → declarable n ≡ true → (pairs : List (List ℕ × ℕ)) → list_all (right_low_pair n) pairs ≡ list_all (right_pair n) pairs
low_are_right n declared [] = refl
low_are_right n declared (pair ∷ pairs) =
    ap₂ (λ first rest. first && rest) (low_is_right n (range_facts 1 n most_activities declared).1 pair) (low_are_right n declared pairs)

exchanged : (p q r s : Bool) → (p && q) && (r && s) ≡ (p && r) && (q && s)
exchanged true true r s = refl
exchanged true false r s = sym (and-false r)
exchanged false q r s = refl

all_fit : (n : ℕ) (traces : List (List ℕ)) (words : List ℕ) → length traces ≡ length words →
    list_all (right_pair n) (zip traces words) ≡ list_all (all_below n) traces && equal_lists eqb words (map word_of traces)
all_fit n [] [] same = refl
all_fit n [] (word ∷ words) same = absurd (omega arith)
all_fit n (trace ∷ traces) [] same = absurd (omega arith)
all_fit n (trace ∷ traces) (word ∷ words) same =
    ap (λ rest. right_pair n (trace, word) && rest) (all_fit n traces words (omega arith))
    ∙ exchanged (all_below n trace) (eqb word (word_of trace)) (list_all (all_below n) traces) (equal_lists eqb words (map word_of traces))

-- where all else that is asked of a sound store is so, these decide
pub sound_by_traces :
    (m : Memory) → declarable m.store.activities ≡ true → m.store.traces ≤ most_traces → m.store.traces ≤ length m.ends →
    m.store.traces ≤ length m.words → rising 0 (kept_ends m) ≡ true → last_end m ≤ length m.events →
    list_all (right_pair m.store.activities) (zip (kept m) (kept_words m)) ≡ sound m
unfolding sound kept last_end
sound_by_traces m declared few has_ends has_words rise within =
    let same = cut_length 0 (kept_ends m) m.events ∙ length-take-le _ _ has_ends ∙ sym (length-take-le _ _ has_words) in
    let events = declared_traces m.store.activities (kept_ends m) m.events rise in
    all_fit m.store.activities (kept m) (kept_words m) same
    ∙ ap (λ below. below && equal_lists eqb (kept_words m) (map word_of (kept m))) (sym events)
    ∙ sym
    (simp (declared, le-leb _ _ few, le-leb _ _ has_ends, rise, le-leb _ _ within, le-leb _ _ has_words)
    (ap (λ below. below && equal_lists eqb (kept_words m) (map word_of (kept m)))
    (and-true (all_below m.store.activities (take (last_end m) m.events)))))

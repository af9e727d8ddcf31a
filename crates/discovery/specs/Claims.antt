-- When kept traces are alike, what a find's confidence is to it, and that it goes by the kept traces alone.
-- Assumes nothing.
use Rattle.std.specs.Prelude.{ℕ, ◌*◌, ◌≤◌, ◌≡◌, true, false, List, eqb, length}
use Rattle.std.specs.List.{filter}
use Rattle.base.specs.Lists.{non_empty, count, equal_lists}
use Rattle.base.specs.Checks.{Reply, Outcome}
use Rattle.eventlog.specs.Store.{Memory, last_end, sound, kept}
use Rattle.pruning.specs.declared.Settings.{Settings}
use Rattle.pruning.specs.Question.{Question, question_over, asked, trace_count, threshold_in_range, measure_of, meets, confident, fulfilments, activations}
use Rattle.declare.specs.declared.constraints.Constraint.{Constraint}
use Rattle.declare.specs.Constraints.{constraints}
use Rattle.discovery.specs.Listing.{is_listed, listed, replayed, events_read}
use Rattle.discovery.specs.Calls.{find_checks, find_values, with_list, Finds}

-- kept traces are alike, whatever their order, when each trace of length 1 or more is there equally often
abbrev pub Alike : List (List ℕ) → List (List ℕ) → Type 0
Alike kept kept' =
    (trace : List ℕ) → non_empty trace ≡ true → count (equal_lists eqb trace) kept ≡ count (equal_lists eqb trace) kept'

-- "At most replayed rules times kept steps": these are the last end.
abbrev pub ReadAtMost : Type 0
ReadAtMost =
    (m : Memory) (settings : Settings) → sound m ≡ true →
    events_read (asked m settings) (replayed (asked m settings)) ≤ length (replayed (asked m settings)) * last_end m

-- the same question by another confidence
abbrev pub with_confidence : ℕ → Question → Question
with_confidence k q =
    record { activities = q.activities; traces = q.traces; settings = record { threshold = q.settings.threshold; confidence = k } }

pub record ByConfidence : Type 0 where
  -- "no more steps are replayed": what pruning keeps, and how much that reads, is the same for every k
  pub replayed_same : (q : Question) (k : ℕ) → replayed (with_confidence k q) ≡ replayed q
  pub read_same : (q : Question) (k : ℕ) → events_read (with_confidence k q) (replayed (with_confidence k q)) ≡ events_read q (replayed q)
  -- "0 for k gives the rules of before": those whose count meets the threshold
  pub by_threshold :
      (q : Question) →
      listed (with_confidence 0 q) ≡ filter (λ c. meets (measure_of q) (fulfilments q.traces c)) (constraints q.activities)
  -- A constraint that no trace activates is never listed: 1000 × 0 ≥ k × 0 holds for every k, but no number of 0 meets a threshold of 1 or more.
  pub never_activated :
      (q : Question) (c : Constraint) → threshold_in_range q.settings ≡ true → 1 ≤ trace_count q → activations q.traces c ≡ 0 →
      (confident q.settings 0 0 ≡ true) × (is_listed q c ≡ false)

-- A find over N and kept traces alone, with no word in any definition that it rests on.
abbrev pub FindsOver : ℕ → List (List ℕ) → Settings → List ℕ → Reply → List ℕ → Type 0
FindsOver n kept settings list =
    let q = question_over n kept settings in
    Outcome (find_checks q list) (find_values q) (with_list q list) list

-- "Lists for the same runs are equal with and without the words"
pub record EqualWithoutWords : Type 0 where
  -- what find says and leaves in a sound memory is so over its N and its kept traces alone
  pub without :
      (m : Memory) (settings : Settings) (list : List ℕ) (said : Reply) (left : List ℕ) → sound m ≡ true → Finds m settings list said left →
      FindsOver m.store.activities (kept m) settings list said left
  -- and two memories with one N that keep the same traces, whatever their words' slices, give the same reply and list
  pub equal :
      (m m' : Memory) (settings : Settings) (list : List ℕ) (said said' : Reply) (left left' : List ℕ) → sound m ≡ true → sound m' ≡ true →
      m.store.activities ≡ m'.store.activities → kept m ≡ kept m' → Finds m settings list said left → Finds m' settings list said' left' →
      (said ≡ said') × (left ≡ left')

-- What the columns of a log mean (document 01): the numbered traces that can be written as one, how they are written, and the claim that
-- `spelled` reads just what was written.
-- Assumes nothing.
use Rattle.std.specs.Prelude.{ℕ, suc, ◌+◌, ◌≡◌, ◌≤◌, ◌<◌, ◌↔◌, Bool, true, not, ◌&&◌, List, [], ◌∷◌, ◌++◌, leb, length, map}
use Rattle.std.proofs.Math.Option.{Option, none, some}
use Rattle.std.specs.List.{list_all}
use Rattle.base.specs.Checks.{gives, reply}
use Rattle.base.specs.Lists.{non_empty, flat_map}
use Rattle.declare.specs.Traces.{longest_trace, all_below}
use Rattle.eventlog.specs.declared.Room.{Room}
use Rattle.eventlog.specs.Store.{most_traces, Memory, total, sound, room}
use Rattle.fields.specs.Field.{line_feed, spell}
use Rattle.columns.specs.Log.{Line, lines, number_falls, log_checks, spelled}
use Rattle.columns.specs.Calls.{checks_of_read}

-- ## Written

-- a line of 10 bytes: the number (document 01: run number) in columns 1 to 6, the activity (step) in 7 to 9, both decimal, right-justified,
-- filled with blanks, without leading zeros, and a line feed
abbrev pub line_text : ℕ → ℕ → List ℕ
line_text number activity = spell 6 number ++ spell 3 activity ++ line_feed ∷ []

-- A trace and the number that its lines have.
pub record Numbered : Type 0 where
  pub number : ℕ
  pub trace : List ℕ

abbrev pub traces_of : List Numbered → List (List ℕ)
traces_of ts = map (λ t. t.trace) ts

-- a line for each activity of the trace
abbrev pub trace_text : Numbered → List ℕ
trace_text t = flat_map t.trace (line_text t.number)

-- the traces, one after the other: neighbouring lines with one number are one trace
abbrev pub written : List Numbered → List ℕ
written ts = flat_map ts trace_text

-- each number is above the one before and at most 999999; no trace is empty, and an activity has at most three digits
abbrev pub WritableAfter : ℕ → List Numbered → Type 0
WritableAfter before [] = Unit
WritableAfter before (t ∷ ts) =
    (before < t.number) × (t.number ≤ 999999) × (non_empty t.trace ≡ true) × (all_below 1000 t.trace ≡ true) × WritableAfter t.number ts

-- what can be written; a number is at least 1
abbrev pub Writable : List Numbered → Type 0
Writable ts = WritableAfter 0 ts

-- these traces under the numbers from the first on
abbrev pub numbered_from : ℕ → List (List ℕ) → List Numbered
numbered_from first [] = []
numbered_from first (trace ∷ traces) = record { number = first; trace = trace } ∷ numbered_from (suc first) traces

-- ## Laid out

abbrev pub laid_out_after : Option Line → List Line → Bool
laid_out_after before [] = true
laid_out_after before (line ∷ rest) = line.laid_out && not (number_falls before line) && laid_out_after (some line) rest

-- each line is laid out, and no number is below that of the line before
unfoldable pub laid_out : List ℕ → Bool
unfolding lines
laid_out log = laid_out_after none (lines log)

-- ## The claim

-- each activity is declared, and there are not too many
abbrev pub storable : ℕ → List ℕ → Bool
storable activities trace = all_below activities trace && leb (length trace) longest_trace

-- Traces that can be added one after the other where this room is left.
pub record HasRoom (r : Room) (traces : List (List ℕ)) : Type 0 where
  pub each : list_all (storable r.activities) traces ≡ true
  pub few : r.traces + length traces ≤ most_traces
  pub has_ends : r.traces + length traces ≤ r.space.ends
  pub has_words : r.traces + length traces ≤ r.space.words
  pub fits : r.last + total traces ≤ r.space.events

-- A log means the traces that were written as it.
pub record MeansLayout : Type 0 where
  -- what was written is laid out, and spells the traces that were written
  pub reads_back : (ts : List Numbered) → Writable ts → (laid_out (written ts) ≡ true) × (spelled (written ts) ≡ traces_of ts)
  -- a log that is laid out is the writing of the traces that it spells
  pub writes_back :
      (log : List ℕ) → laid_out log ≡ true → (ts : List Numbered) × Writable ts × (written ts ≡ log) × (spelled log ≡ traces_of ts)
  -- non-empty traces, however long, whose activities have at most three digits are written under the numbers from 1 on, if they are at
  -- most 999999: laid out, and the log spells them
  pub rising_numbers :
      (traces : List (List ℕ)) → list_all non_empty traces ≡ true → list_all (all_below 1000) traces ≡ true → length traces ≤ 999999 →
      (laid_out (written (numbered_from 1 traces)) ≡ true) × (spelled (written (numbered_from 1 traces)) ≡ traces)
  -- a log that is laid out passes all checks where there is room for the traces that it spells
  pub passes :
      (r : Room) (log values : List ℕ) → laid_out log ≡ true → HasRoom r (spelled log) → reply (log_checks r log) values ≡ gives values
  -- and `read` accepts a log just there: in a sound memory, laid out, with room
  pub just_these :
      (m : Memory) (log values : List ℕ) →
      (reply (checks_of_read m log) values ≡ gives values) ↔
      ((sound m ≡ true) × (laid_out log ≡ true) × HasRoom (room m) (spelled log))

-- The log in columns: its lines, and the traces that they spell.
-- Assumes nothing.
use Rattle.std.specs.Prelude.{ℕ, zero, suc, ◌+◌, Bool, false, not, ◌&&◌, List, [], ◌∷◌, ◌++◌, eqb, leb, ltb, length, get_or, take, drop, if◌then◌else◌}
use Rattle.std.proofs.Math.Option.{Option, none, some}
use Rattle.std.proofs.Math.Seq.{slice}
use Rattle.base.specs.Checks.{Check, ◌refuses◌with◌}
use Rattle.declare.specs.Traces.{longest_trace}
use Rattle.eventlog.specs.declared.Room.{Room}
use Rattle.eventlog.specs.Store.{after_traces, full, lacks}
use Rattle.fields.specs.Field.{line_feed, well_formed, value}

-- A line of a log: whether it is laid out as one, its trace number (document 01: run number) and its activity.
pub record Line : Type 0 where
  pub laid_out : Bool
  pub number : ℕ
  pub activity : ℕ

abbrev pub line_of : List ℕ → Line
line_of bytes =
    record {
      laid_out =
          eqb (length bytes) 10
          && well_formed (slice 0 6 bytes) && leb 1 (value (slice 0 6 bytes))
          && well_formed (slice 6 9 bytes)
          && eqb (get_or bytes 9 0) line_feed;
      number = value (slice 0 6 bytes);
      activity = value (slice 6 9 bytes);
    }

abbrev pub lines_within : ℕ → List ℕ → List Line
lines_within zero log = []
lines_within (suc most) [] = []
lines_within (suc most) (byte ∷ bytes) = line_of (take 10 (byte ∷ bytes)) ∷ lines_within most (drop 10 (byte ∷ bytes))

-- the log in lines of 10 bytes, the last of which may be short
unfoldable pub lines : List ℕ → List Line
lines log = lines_within (length log) log

-- the last element
abbrev pub last? : {A : Type 0} → List A → Option A
last? [] = none
last? (x ∷ []) = some x
last? (x ∷ (y ∷ xs)) = last? (y ∷ xs)

abbrev pub number_falls : Option Line → Line → Bool
number_falls none line = false
number_falls (some before) line = ltb line.number before.number

-- the line goes on with the trace of the line before
abbrev pub same_trace : Option Line → Line → Bool
same_trace none line = false
same_trace (some before) line = eqb line.number before.number

abbrev pub extend_last : List (List ℕ) → ℕ → List (List ℕ)
extend_last [] x = (x ∷ []) ∷ []
extend_last (trace ∷ []) x = (trace ++ (x ∷ [])) ∷ []
extend_last (trace ∷ (next ∷ traces)) x = trace ∷ extend_last (next ∷ traces) x

-- What stands before a line: the line before it, if any, and the traces that the lines so far spell.
pub record Before : Type 0 where
  pub line : Option Line
  pub traces : List (List ℕ)

abbrev pub nothing_read : Before
nothing_read = record { line = none; traces = [] }

abbrev pub with_line : Before → Line → Before
with_line before line =
    record {
      line = some line;
      traces =
          if same_trace before.line line then extend_last before.traces line.activity
          else before.traces ++ ((line.activity ∷ []) ∷ []);
    }

abbrev pub length_of : Option (List ℕ) → ℕ
length_of none = 0
length_of (some trace) = length trace

-- the checks of a line, the `place`-th of a log that is read into this room
abbrev pub line_checks : Room → Before → ℕ → Line → List Check
line_checks r before place line =
    let left = after_traces r before.traces in
    (not line.laid_out refuses 4 with place) ∷
    (number_falls before.line line refuses 5 with place) ∷
    (leb r.activities line.activity refuses 6 with place) ∷
    (same_trace before.line line && eqb (length_of (last? before.traces)) longest_trace refuses 7 with place) ∷
    (not (same_trace before.line line) && full left refuses 8 with place) ∷
    (lacks left 1 refuses 9 with place) ∷
    []

abbrev pub log_checks_from : Room → Before → ℕ → List Line → List Check
log_checks_from r before place [] = []
log_checks_from r before place (line ∷ rest) =
    line_checks r before place line ++ log_checks_from r (with_line before line) (place + 1) rest

-- the checks of a log, line by line
unfoldable pub log_checks : Room → List ℕ → List Check
unfolding lines
log_checks r log = log_checks_from r nothing_read 1 (lines log)

abbrev pub spelled_from : Before → List Line → List (List ℕ)
spelled_from before [] = before.traces
spelled_from before (line ∷ rest) = spelled_from (with_line before line) rest

-- the traces that a log's lines spell, in their order
unfoldable pub spelled : List ℕ → List (List ℕ)
unfolding lines
spelled log = spelled_from nothing_read (lines log)

-- How the code goes over a log's lines, with numbers for what stands before a line. Nothing here has to be believed: proofs/Agree.antt
-- and proofs/Written.antt show that it comes to `log_checks` and `spelled`.
-- Assumes nothing.
use Rattle.std.specs.Prelude.{ℕ, ◌+◌, ◌-◌, ◌*◌, ◌≤◌, List, [], ◌∷◌, Option, Some, None, Result, Ok, Err, get_or, set, eqb, leb, ltb, if◌then◌else◌}
use Rattle.std.specs.Result.{result_and}
use Rattle.answers.specs.declared.Reason.{Reason}
use Rattle.answers.specs.declared.Refusal.{Refusal}
use Rattle.declare.specs.Traces.{longest_trace}
use Rattle.eventlog.specs.declared.Room.{Room}
use Rattle.eventlog.specs.Store.{most_traces, Memory, lent, with_kept, full}
use Rattle.eventlog.specs.Words.{with_bit}
use Rattle.columns.specs.declared.Entry.{Entry}
use Rattle.columns.specs.declared.Progress.{Progress}
use Rattle.columns.specs.Log.{Line}

abbrev pub event_of : Line → Entry
event_of line = record { number = line.number; activity = line.activity }

abbrev pub entry_of : Line → Option Entry
entry_of line = if line.laid_out then Some (event_of line) else None

-- before the first line
abbrev pub at_start : Room → Progress
at_start r = record { number = 0; left = 0; added = 0; last = r.last }

-- The numbers stay in bounds: the traces, and the last end with what its trace can still take.
pub record Bounded (r : Room) (p : Progress) : Type 0 where
  pub few : r.traces + p.added ≤ most_traces
  pub has_ends : r.traces + p.added ≤ r.space.ends
  pub has_words : r.traces + p.added ≤ r.space.words
  pub has_events : p.last ≤ r.space.events
  pub in_reach : p.last + p.left ≤ longest_trace * (r.traces + p.added)

-- the room that is left so far
abbrev pub room_at : Room → Progress → Room
room_at r p = with_kept r (r.traces + p.added) p.last

abbrev pub placed_of : Room → Progress → Result (Unit {0}) Reason
placed_of r p = if leb r.space.events p.last then Err Reason.NoSpace else Ok tt

-- what a laid-out line is refused for
abbrev pub fault_of : Room → Progress → Entry → Result (Unit {0}) Reason
fault_of r p entry =
    if ltb entry.number p.number then Err Reason.NumberFalls
    else if leb r.activities entry.activity then Err Reason.Undeclared
    else if eqb entry.number p.number then if eqb p.left 0 then Err Reason.TooLong else placed_of r p
    else if full (room_at r p) then Err Reason.Full
    else placed_of r p

abbrev pub next_progress : Progress → ℕ → Progress
next_progress p number =
    if eqb number p.number then record { number = number; left = p.left - 1; added = p.added; last = p.last + 1 }
    else record { number = number; left = longest_trace - 1; added = p.added + 1; last = p.last + 1 }

abbrev pub step_of : Room → Progress → Option Entry → Result Progress Reason
step_of r p None = Err Reason.Malformed
step_of r p (Some entry) = result_and (fault_of r p entry) (Ok (next_progress p entry.number))

-- the answer from a line on, the `place`-th of its log
abbrev pub survey_of : Room → Progress → ℕ → List Line → Result ℕ Refusal
survey_of r p place [] = Ok p.added
survey_of r p place (line ∷ rest) =
    elim (step_of r p (entry_of line)) [
      | Ok q ↦ survey_of r q (place + 1) rest
      | Err reason ↦ Err (record { reason = reason; detail = place })
    ]

-- ## The second pass, over a memory whose record still tells the traces before the log

-- the memory of a store with this room, and of what stands behind three references
abbrev pub memory_in : Room → List ℕ → List ℕ → List ℕ → Memory
memory_in r events ends words = lent (record { activities = r.activities; traces = r.traces }) events ends words

abbrev pub moved : Progress → Option Entry → Progress
moved p None = p
moved p (Some entry) = next_progress p entry.number

-- the word of a line's trace before its event: 0 where the line starts the trace, whatever stands there
abbrev pub word_before : Progress → ℕ → ℕ → ℕ
word_before p number there = if eqb number p.number then there else 0

-- the event at the end of the last trace, and the end and the word of that trace after it
abbrev pub line_written : Progress → Option Entry → Memory → Memory
line_written p None m = m
line_written p (Some entry) m =
    let after = next_progress p entry.number in
    let trace = m.store.traces + after.added - 1 in
    record {
      store = m.store;
      events = set m.events p.last entry.activity;
      ends = set m.ends trace after.last;
      words = set m.words trace (with_bit (word_before p entry.number (get_or m.words trace 0)) entry.activity);
    }

-- the memory after the lines
abbrev pub lines_written : Progress → Memory → List Line → Memory
lines_written p m [] = m
lines_written p m (line ∷ rest) = lines_written (moved p (entry_of line)) (line_written p (entry_of line) m) rest

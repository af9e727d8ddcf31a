-- Some logs, computed from the definitions.
-- Assumes nothing.
use Rattle.std.specs.Prelude.{ℕ, ◌≡◌, refl, List, [], ◌∷◌, ◌++◌, replicate}
use Rattle.std.proofs.Math.Option.{some}
use Rattle.base.specs.Checks.{Reply, gives, refused, reply}
use Rattle.eventlog.specs.declared.Room.{Room}
use Rattle.eventlog.specs.Calls.{with_traces}
use Rattle.eventlog.specs.Store.{Memory, kept, last_end, sound, room}
use Rattle.eventlog.specs.Words.{word_of}
use Rattle.fields.specs.Field.{spell}
use Rattle.columns.specs.Log.{line_of, lines, line_checks, log_checks, spelled}
use Rattle.columns.specs.Calls.{checks_of_read}
use Rattle.columns.specs.Layout.{line_text, written}

-- "     1  0", "     1  1" and "    12  1", each with its line feed
a_log : List ℕ
a_log =
    32 ∷ 32 ∷ 32 ∷ 32 ∷ 32 ∷ 49 ∷ 32 ∷ 32 ∷ 48 ∷ 10
    ∷ 32 ∷ 32 ∷ 32 ∷ 32 ∷ 32 ∷ 49 ∷ 32 ∷ 32 ∷ 49 ∷ 10
    ∷ 32 ∷ 32 ∷ 32 ∷ 32 ∷ 49 ∷ 50 ∷ 32 ∷ 32 ∷ 49 ∷ 10
    ∷ []

-- two traces: 0 1, and 1
two_traces : spelled a_log ≡ (0 ∷ 1 ∷ []) ∷ (1 ∷ []) ∷ []
unfolding spelled lines a_log
two_traces = refl

-- under the numbers 1 and 12 they are written so
as_written : written (record { number = 1; trace = 0 ∷ 1 ∷ [] } ∷ record { number = 12; trace = 1 ∷ [] } ∷ []) ≡ a_log
unfolding spell a_log
as_written = refl

-- an empty store with room for so many events and for two traces
a_memory : ℕ → Memory
a_memory events =
    record { store = record { activities = 2; traces = 0 }; events = replicate events 9; ends = 7 ∷ 7 ∷ []; words = 5 ∷ 5 ∷ [] }

-- in room for two events the third line's event does not fit
third_line : reply (checks_of_read (a_memory 2) a_log) [] ≡ refused 9 3
unfolding log_checks lines a_log a_memory sound kept last_end
third_line = refl

-- in room for three the two traces are added, and a word tells the activities of its trace alone
each_word :
    (reply (checks_of_read (a_memory 3) a_log) [] ≡ gives [])
    × ((with_traces (a_memory 3) (spelled a_log)).words ≡ 3 ∷ 2 ∷ [])
unfolding log_checks spelled lines a_log a_memory sound kept last_end word_of
each_word = (refl, refl)

-- a last line of one byte is malformed, and the empty log passes
last_line : reply (log_checks (room (a_memory 2)) (32 ∷ [])) [] ≡ refused 4 1
unfolding log_checks lines a_memory last_end
last_line = refl

no_line : reply (log_checks (room (a_memory 2)) []) [] ≡ gives []
unfolding log_checks lines a_memory last_end
no_line = refl

-- two lines with these numbers
two_lines : ℕ → ℕ → Reply
unfolding log_checks lines a_memory last_end spell
two_lines first second = reply (log_checks (room (a_memory 2)) (line_text first 0 ++ line_text second 0)) []

-- a number must not fall, and it is 1 to 999999
numbers :
    (two_lines 3 2 ≡ refused 5 2) × (two_lines 3 3 ≡ gives []) × (two_lines 2 3 ≡ gives []) × (two_lines 0 1 ≡ refused 4 1)
    × (two_lines 999999 999999 ≡ gives [])
unfolding two_lines
numbers = (refl, refl, refl, refl, refl)

-- room for one trace, and a line that goes on with one of that many events
goes_on : ℕ → Reply
unfolding spell
goes_on events =
    let line = line_of (line_text 1 0) in
    let large : Room = record { activities = 1; traces = 0; last = 0; space = record { events = 9999; ends = 1; words = 1 } } in
    reply (line_checks large (record { line = some line; traces = replicate events 0 ∷ [] }) 1 line) []

-- a trace takes 4096 events and no more
longest : (goes_on 4095 ≡ gives []) × (goes_on 4096 ≡ refused 7 1)
unfolding goes_on
longest = (refl, refl)

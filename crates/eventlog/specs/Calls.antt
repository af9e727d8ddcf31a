-- Open and add: what each says and leaves, as definitions of what it was given. The contracts cite these.
-- Assumes nothing.
use Rattle.std.specs.Prelude.{ℕ, ◌+◌, not, List, [], ◌∷◌, ltb, length, set, Result}
use Rattle.std.proofs.lemmas.List.Edits.{sets}
use Rattle.base.specs.Lists.{find_index}
use Rattle.base.specs.Checks.{Check, ◌refuses◌with◌, Reply, Outcome}
use Rattle.answers.specs.Answers.{said_by, record_after}
use Rattle.answers.specs.declared.Refusal.{Refusal}
use Rattle.declare.specs.Traces.{longest_trace, declarable, all_below}
use Rattle.eventlog.specs.declared.Room.{Room}
use Rattle.eventlog.specs.declared.Store.{Store}
use Rattle.eventlog.specs.Store.{Memory, last_end, sound, room, full, lacks}
use Rattle.eventlog.specs.Words.{word_of}

abbrev pub unsound : Memory → Check
unsound m = not (sound m) refuses 1 with 0

-- ## Open

abbrev pub open_checks : ℕ → List Check
open_checks n = (not (declarable n) refuses 2 with 0) ∷ []

-- an empty store
abbrev pub empty : ℕ → Store
empty n = record { activities = n; traces = 0 }

-- document 01's number and values for each case
abbrev pub open_said : Result Store Refusal → Reply
open_said = said_by (λ store. store.activities ∷ store.traces ∷ [])

-- the record after an open: a refused one leaves the record there was
abbrev pub opened : Store → Result Store Refusal → Store
opened = record_after

-- `open(n)`, whatever record there was
abbrev pub Opens : ℕ → Store → Reply → Store → Type 0
Opens n there = Outcome (open_checks n) (n ∷ 0 ∷ []) (empty n) there

-- ## Add

-- how many activities stand before the first that is not declared; where each is declared, all of them
unfoldable pub declared_front : ℕ → List ℕ → ℕ
declared_front n trace = find_index (λ x. not (ltb x n)) trace

-- the checks of add, where this room is left; 6 carries the place, from 1, of the first step that is not below N
abbrev pub add_checks : Room → List ℕ → List Check
add_checks r trace =
    (not (all_below r.activities trace) refuses 6 with (declared_front r.activities trace + 1)) ∷
    (ltb longest_trace (length trace) refuses 7 with 0) ∷
    (full r refuses 8 with 0) ∷
    (lacks r (length trace) refuses 9 with 0) ∷
    []

abbrev pub checks_of_add : Memory → List ℕ → List Check
checks_of_add m trace = unsound m ∷ add_checks (room m) trace

-- the memory with the trace appended
abbrev pub with_trace : Memory → List ℕ → Memory
with_trace m trace =
    record {
      store = record { activities = m.store.activities; traces = m.store.traces + 1 };
      events = sets m.events (last_end m) trace;
      ends = set m.ends m.store.traces (last_end m + length trace);
      words = set m.words m.store.traces (word_of trace);
    }

-- with several, one after the other
abbrev pub with_traces : Memory → List (List ℕ) → Memory
with_traces m [] = m
with_traces m (trace ∷ traces) = with_traces (with_trace m trace) traces

-- `add` in memory m
abbrev pub Adds : Memory → List ℕ → Reply → Memory → Type 0
Adds m trace = Outcome (checks_of_add m trace) [] (with_trace m trace) m

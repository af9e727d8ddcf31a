-- The store of traces (document 01: of runs): the traces that it keeps, when it is sound, and the room that is left in it.
-- Assumes nothing.
use Rattle.std.specs.Prelude.{ℕ, ◌+◌, ◌*◌, Bool, true, ◌&&◌, ◌||◌, List, [], ◌∷◌, eqb, leb, ltb, length, take, map}
use Rattle.std.proofs.Math.Seq.{slice}
use Rattle.base.specs.Lists.{equal_lists}
use Rattle.declare.specs.Traces.{longest_trace, declarable, all_below}
use Rattle.eventlog.specs.declared.Space.{Space}
use Rattle.eventlog.specs.declared.Room.{Room}
use Rattle.eventlog.specs.declared.Store.{Store}
use Rattle.eventlog.specs.Words.{word_of}

abbrev pub most_traces : ℕ
most_traces = 4095

-- The record beside the three lent buffers: the events (document 01: kept steps), trace after trace, the ends of the traces, and their words.
pub record Memory : Type 0 where
  pub store : Store
  pub events : List ℕ
  pub ends : List ℕ
  pub words : List ℕ

abbrev pub memory : Store → List ℕ → List ℕ → List ℕ → Memory
memory store events ends words = record { store = store; events = events; ends = ends; words = words }

-- the memory of a record and of what stands behind three references: contracts speak of it so
abbrev pub lent : Store → List ℕ → List ℕ → List ℕ → Memory
lent store events ends words = memory store events ends words

-- another record beside the same buffers
abbrev pub with_store : Store → Memory → Memory
with_store store m = memory store m.events m.ends m.words

-- the traces that the ends cut off, the first of them from `from`
abbrev pub cut : ℕ → List ℕ → List ℕ → List (List ℕ)
cut from [] events = []
cut from (end ∷ ends) events = slice from end events ∷ cut end ends events

-- the traces kept, in their order
unfoldable pub kept : Memory → List (List ℕ)
kept m = cut 0 (take m.store.traces m.ends) m.events

-- how long traces are together
abbrev pub total : List (List ℕ) → ℕ
total [] = 0
total (trace ∷ traces) = length trace + total traces

-- no sound store keeps more events
abbrev pub most_events : ℕ
most_events = longest_trace * most_traces

abbrev pub last_from : ℕ → List ℕ → ℕ
last_from last [] = last
last_from last (end ∷ ends) = last_from end ends

-- the last of the first `count` ends, 0 where there is none
abbrev pub last_kept : ℕ → List ℕ → ℕ
last_kept count ends = last_from 0 (take count ends)

unfoldable pub last_end : Memory → ℕ
last_end m = last_kept m.store.traces m.ends

-- no end is below the one before it or more than 4096 above it
abbrev pub rising : ℕ → List ℕ → Bool
rising last [] = true
rising last (end ∷ ends) = leb last end && (leb end (last + longest_trace) && rising end ends)

-- N is 1 to 32; the run count is at most 4095 and the ends slice's length; no end is below the one before it (0 before the first) or
-- more than 4096 above it; the last end is at most the step buffer's length; every kept step is below N; the run count is at most the word
-- slice's length and each kept word is that of its run
unfoldable pub sound : Memory → Bool
unfolding last_end kept
sound m =
    declarable m.store.activities
    && leb m.store.traces most_traces && leb m.store.traces (length m.ends)
    && rising 0 (take m.store.traces m.ends)
    && leb (last_end m) (length m.events)
    && all_below m.store.activities (take (last_end m) m.events)
    && leb m.store.traces (length m.words)
    && equal_lists eqb (take m.store.traces m.words) (map word_of (kept m))

-- ## Space: the lengths of the three buffers. Room: the activities declared, the traces kept and their last end, and the space

abbrev pub space : Memory → Space
space m = record { events = length m.events; ends = length m.ends; words = length m.words }

abbrev pub room : Memory → Room
room m = record { activities = m.store.activities; traces = m.store.traces; last = last_end m; space = space m }

-- a room with other traces and another last end
abbrev pub with_kept : Room → ℕ → ℕ → Room
with_kept r traces last = record { activities = r.activities; traces = traces; last = last; space = r.space }

-- the room that is left after these traces
abbrev pub after_traces : Room → List (List ℕ) → Room
after_traces r traces = with_kept r (r.traces + length traces) (r.last + total traces)

-- run count already 4095, or the length of the ends or word slice
abbrev pub full : Room → Bool
full r = eqb r.traces most_traces || eqb r.traces r.space.ends || eqb r.traces r.space.words

-- steps don't fit, the last end plus the new steps being above the step buffer's length
abbrev pub lacks : Room → ℕ → Bool
lacks r more = ltb r.space.events (r.last + more)

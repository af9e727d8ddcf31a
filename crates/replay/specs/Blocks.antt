-- What the inner functions of replay promise: a constraint's replay over blocks of traces. Nothing here has to be believed: proofs/Reading.antt shows
-- that it comes to `Replays`.
-- Assumes nothing.
use Rattle.std.specs.Prelude.{ℕ, ◌+◌, ◌≤◌, ◌<◌, ◌≡◌, Bool, List, [], length, map, take, drop, get_or}
use Rattle.std.specs.List.{filter}
use Rattle.std.proofs.Math.Seq.{slice}
use Rattle.base.specs.Lists.{count, range}
use Rattle.declare.specs.declared.constraints.Constraint.{Constraint}
use Rattle.declare.specs.Constraints.{Over}
use Rattle.eventlog.specs.Store.{most_events, total}
use Rattle.eventlog.specs.SoundStore.{traces_in}
use Rattle.pruning.specs.declared.WordTest.{WordTest}
use Rattle.pruning.specs.Question.{reads}
use Rattle.pruning.specs.Masks.{passes}
use Rattle.replay.specs.declared.query.Query.{Query}
use Rattle.replay.specs.declared.replaying.Front.{Front}
use Rattle.replay.specs.declared.replaying.OfTraces.{OfTraces}
use Rattle.replay.specs.Replays.{moves_for, replays_fulfilled}

abbrev pub block : ℕ
block = 64

-- the word of a place passes
abbrev pub passing : WordTest → List ℕ → ℕ → Bool
passing test words k = passes test (get_or words k 0)

-- the places of the words that pass, rising
abbrev pub selected : WordTest → List ℕ → List ℕ
selected test words = filter (passing test words) (range 0 (length words))

pub record Selects (test : WordTest) (words : List ℕ) (n : ℕ) (places : List ℕ) : Type 0 where
  pub number : n ≡ length (selected test words)
  pub front : take n places ≡ selected test words

-- the traces of these places, behind so many
abbrev pub places_in : Query → ℕ → List ℕ → List (List ℕ)
places_in query from places = map (λ k. get_or (traces_in query.kept) (from + k) []) places

abbrev pub block_of : Query → ℕ → ℕ → List (List ℕ)
block_of query from to = slice from to (traces_in query.kept)

-- replay over traces that the constraint reads, beside what was counted before
pub record ReplaysAll (c : Constraint) (traces : List (List ℕ)) (before after : OfTraces) : Type 0 where
  pub fulfilled : after.fulfilled ≡ before.fulfilled + count (replays_fulfilled (moves_for c)) traces
  pub read : after.events_read ≡ before.events_read + total traces

-- what they come to can be added
pub record Countable (before : OfTraces) (traces : List (List ℕ)) : Type 0 where
  pub fulfilled : before.fulfilled + length traces < 4294967296
  pub read : before.events_read + total traces < 18446744073709551616

-- a constraint over a query's activities, beside a block of its traces
pub record Block (query : Query) (c : Constraint) (from to : ℕ) (before : OfTraces) : Type 0 where
  pub over : Over query.measure.activities c
  pub starts : from ≤ to
  pub few : to ≤ from + block
  pub within : to ≤ length (traces_in query.kept)
  pub countable : Countable before (block_of query from to)

-- a constraint over a query's activities, whose events can be added
pub record Readable (query : Query) (c : Constraint) (events_read : ℕ) : Type 0 where
  pub over : Over query.measure.activities c
  pub fits : events_read + most_events < 18446744073709551616

-- The first traces, up to a place: what has been counted and what is read of the rest come to what is read of all, and the rest can be added.
pub record ReplaysFront (query : Query) (c : Constraint) (events_read : ℕ) (r : Front) : Type 0 where
  pub within : r.place ≤ length (traces_in query.kept)
  pub countable : Countable r.all (drop r.place (traces_in query.kept))
  pub fulfilled :
      r.all.fulfilled + count (replays_fulfilled (moves_for c)) (filter (reads c) (drop r.place (traces_in query.kept)))
      ≡ count (replays_fulfilled (moves_for c)) (filter (reads c) (traces_in query.kept))
  pub read :
      r.all.events_read + total (filter (reads c) (drop r.place (traces_in query.kept)))
      ≡ events_read + total (filter (reads c) (traces_in query.kept))

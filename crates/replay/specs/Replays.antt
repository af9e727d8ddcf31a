-- Replay of a constraint over the store: only what pruning keeps is replayed.
-- Assumes nothing.
use Rattle.std.specs.Prelude.{ℕ, ◌+◌, ◌≡◌, ◌<◌, Bool, true, false, List, length}
use Rattle.std.specs.List.{filter}
use Rattle.declare.specs.declared.Verdict.{Verdict}
use Rattle.declare.specs.declared.Verdict.TheVariants.{Fulfilled, NotActivated, Violated}
use Rattle.declare.specs.declared.constraints.Constraint.{Constraint}
use Rattle.declare.specs.Constraints.{Over}
use Rattle.automata.specs.declared.Moves.{Moves}
use Rattle.automata.specs.Automata.{automaton, moves_of, start, advance_all, verdict_by}
use Rattle.eventlog.specs.Store.{most_events, total}
use Rattle.pruning.specs.Question.{Question, reads, fulfilments, survives}
use Rattle.replay.specs.declared.Replayed.{Replayed}
use Rattle.replay.specs.declared.replaying.OfTrace.{OfTrace}

-- a constraint's moves, by its template's automaton
abbrev pub moves_for : Constraint → Moves
moves_for c = record { to = moves_of (automaton c.template) c.a c.b; verdicts = (automaton c.template).verdicts }

-- A constraint over the declared activities that pruning keeps. The events that it reads, no more than a store keeps, can be added to those
-- read before it.
pub record Replayable (q : Question) (c : Constraint) (events_read : ℕ) : Type 0 where
  pub over : Over q.activities c
  pub survived : survives q c ≡ true
  pub fits : events_read + most_events < 18446744073709551616

-- "The function that replays a rule over the store requires that the rule is kept, and hands back its fulfilled runs and the replayed number
-- it was given plus one", and the number read that it was given plus what it reads
pub record Replays (q : Question) (c : Constraint) (replayed events_read : ℕ) (r : Replayed) : Type 0 where
  pub fulfilled : r.fulfilled ≡ fulfilments q.traces c
  pub counted : r.replayed ≡ replayed + 1
  pub read : r.events_read ≡ events_read + total (filter (reads c) q.traces)

-- ## One trace

-- a trace is fulfilled where the verdict says so
abbrev pub is_fulfilled : Verdict → Bool
is_fulfilled Fulfilled = true
is_fulfilled NotActivated = false
is_fulfilled Violated = false

-- replay by a constraint's moves says that a trace is fulfilled
abbrev pub replays_fulfilled : Moves → List ℕ → Bool
replays_fulfilled moves trace = is_fulfilled (verdict_by moves.verdicts (advance_all moves.to start trace))

-- "The function that replays a rule over a run requires that the run is one of these, and hands back the number it was given plus the run's length"
pub record ReplaysTrace (c : Constraint) (trace : List ℕ) (events_read : ℕ) (r : OfTrace) : Type 0 where
  pub fulfilled : r.is_fulfilled ≡ replays_fulfilled (moves_for c) trace
  pub read : r.events_read ≡ events_read + length trace

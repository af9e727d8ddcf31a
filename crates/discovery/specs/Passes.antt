-- What the inner functions of find promise: what passing over constraints finds and writes. Nothing here has to be believed:
-- proofs/FindContract.antt shows that it comes to `Finds`.
-- Assumes nothing.
use Rattle.std.specs.Prelude.{ℕ, ◌+◌, ◌*◌, ◌≤◌, ◌≡◌, List, ltb, length, if◌then◌else◌, Result, Ok, Err}
use Rattle.std.proofs.lemmas.List.Edits.{sets}
use Rattle.std.specs.List.{filter}
use Rattle.base.specs.Lists.{count}
use Rattle.answers.specs.declared.Refusal.{Refusal}
use Rattle.answers.specs.declared.Reason.TheVariants.{ListTooShort}
use Rattle.declare.specs.declared.constraints.Constraint.{Constraint}
use Rattle.eventlog.specs.Store.{most_events}
use Rattle.pruning.specs.declared.Measure.{Measure}
use Rattle.pruning.specs.Question.{Question, measure_of, survives}
use Rattle.declare.specs.Constraints.{AtMostAll}
use Rattle.discovery.specs.declared.list.Tally.{Tally}
use Rattle.discovery.specs.declared.row.Counts.{Counts}
use Rattle.discovery.specs.Listing.{lists, numbers, rows, counts_of, events_read}

-- Passing over constraints of these counts, so many being listed before, takes that number and the slice to these: each that is listed is
-- written behind those before it. Where the counts come from is nothing to it.
pub record Passes (m : Measure) (counts : Constraint → Counts) (cs : List Constraint) (before : ℕ) (list : List ℕ) (after : ℕ) (list' : List ℕ) : Type 0 where
  pub listed : after ≡ before + count (λ c. lists m (counts c)) cs
  pub written : list' ≡ sets list (numbers * before) (rows counts (filter (λ c. lists m (counts c)) cs))

-- the finder passes over them by a question's counts, and replays those that pruning keeps
pub record Considers (q : Question) (cs : List Constraint) (t : Tally) (list : List ℕ) (t' : Tally) (list' : List ℕ) : Type 0 where
  pub passes : Passes (measure_of q) (counts_of q) cs t.listed list t'.listed list'
  pub replayed : t'.replayed ≡ t.replayed + count (survives q) cs
  pub read : t'.events_read ≡ t.events_read + events_read q (filter (survives q) cs)

abbrev pub none_yet : Tally
none_yet = record { listed = 0; replayed = 0; events_read = 0 }

-- so far no more than these are listed and replayed, and each that is replayed has read no more than a store keeps, so that no number can wrap
pub record TallyFits (n : ℕ) (t : Tally) : Type 0 where
  pub listed : AtMostAll n t.listed
  pub replayed : AtMostAll n t.replayed
  pub read : t.events_read ≤ t.replayed * most_events

-- the slice has room for so many constraints, or not
abbrev pub fit_of : ℕ → List ℕ → Result (Unit {0}) Refusal
fit_of needed list =
    if ltb (length list) (numbers * needed) then Err (record { reason = ListTooShort; detail = needed }) else Ok tt

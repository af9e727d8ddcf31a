-- The watcher's loop over the constraints: what each turn writes. Nothing here has to be believed: proofs/Making.antt shows that all
-- turns come to `Calls.slots_after`.
-- Assumes nothing.
use Rattle.std.specs.Prelude.{ℕ, zero, suc, ◌+◌, ◌*◌, ◌%◌, ◌<◌, ◌≤◌, ◌≡◌, List, length, get_or, set}
use Rattle.watcher.specs.declared.Watcher.{Watcher}
use Rattle.watcher.specs.Calls.{Slots}
use Rattle.watcher.specs.Table.{place}

-- so many turns, from the first one's number on
unfoldable pub each_of : (ℕ → Slots → Slots) → ℕ → ℕ → Slots → Slots
each_of turn zero at l = l
each_of turn (suc more) at l = each_of turn more (suc at) (turn at l)

-- each constraint of the record has its numbers, and a place for its state and for what is told of it
abbrev pub HasPlace : Watcher → List ℕ → Slots → Type 0
HasPlace w numbers l =
    (3 * w.constraints ≤ length numbers) × (w.constraints ≤ length l.states) × (w.constraints ≤ length l.told)

-- a constraint's new state, and what it tells
abbrev pub put : List ℕ → ℕ → ℕ → Slots → Slots
put table at state l = record { states = set l.states at state; told = set l.told at (get_or table (4 * state + 3) 0) }

-- one constraint, by a function that makes its new state of its place and its state
abbrev pub turn_to : List ℕ → (ℕ → ℕ → ℕ) → ℕ → Slots → Slots
turn_to table next at l = put table at (next at (get_or l.states at 0)) l

-- the closure's calls, at the places below a count and at bytes, give what a function of numbers gives
abbrev pub Computes : (ℕ → ℕ → ℕ → Type 0) → ℕ → (ℕ → ℕ → ℕ) → Type 0
Computes gives count next = (at state new : ℕ) → at < count → state < 256 → new < 256 → gives at state new → new ≡ next at state

-- before the first event
abbrev pub first_turn : List ℕ → List ℕ → ℕ → Slots → Slots
first_turn table numbers = turn_to table (λ at state. get_or numbers (3 * at) 0 % 32)

-- an event
abbrev pub turn_by : List ℕ → List ℕ → ℕ → ℕ → Slots → Slots
turn_by table numbers activity =
    turn_to table (λ at state. get_or table (place (get_or numbers (3 * at + 1) 0) (get_or numbers (3 * at + 2) 0) state activity) 0)

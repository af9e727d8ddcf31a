-- Read: what it says and leaves, as definitions of what it was given. The contract cites these.
-- Assumes nothing.
use Rattle.std.specs.Prelude.{ℕ, List, [], ◌∷◌, length}
use Rattle.base.specs.Checks.{Check, Reply, Outcome}
use Rattle.eventlog.specs.Store.{Memory, room}
use Rattle.eventlog.specs.Calls.{unsound, with_traces}
use Rattle.columns.specs.Log.{log_checks, spelled}

abbrev pub checks_of_read : Memory → List ℕ → List Check
checks_of_read m log = unsound m ∷ log_checks (room m) log

-- `read` in memory m
abbrev pub Reads : Memory → List ℕ → Reply → Memory → Type 0
Reads m log = Outcome (checks_of_read m log) (length (spelled log) ∷ []) (with_traces m (spelled log)) m

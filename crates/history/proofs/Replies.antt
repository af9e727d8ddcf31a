-- No check of the ledger refuses under a number below 2: 0 is an accepted call's, and 1 never comes.
-- Assumes nothing.
use Prim.Native.Nat.{ℕ, ◌+◌, ◌≤◌}
use mathlib.Core.Path.{◌≡◌}
use mathlib.Core.List.{List, [], ◌∷◌}
use native.Mathlib.Omega.{arith}
use Rattle.base.specs.Checks.{refused, reply}
use Rattle.base.proofs.Checks.{Each, each_append, refused_each}
use Rattle.eventlog.specs.declared.Space.{Space}
use Rattle.eventlog.specs.declared.Room.{Room}
use Rattle.eventlog.specs.Calls.{open_checks, add_checks}
use Rattle.columns.specs.Log.{Line, lines, Before, nothing_read, with_line, line_checks, log_checks_from, log_checks}
use Rattle.pruning.specs.Question.{Question}
use Rattle.discovery.specs.Calls.{checks_for}
use Rattle.history.specs.Ledger.{Call, open_for, add, read, find, Ledger, room_beside, question, shows}

abbrev Above1 : ℕ → ℕ → Type 0
Above1 number detail = 2 ≤ number

lines_above : (r : Room) (before : Before) (place : ℕ) (rest : List Line) → Each Above1 (log_checks_from r before place rest)
lines_above r before place [] = tt
lines_above r before place (line ∷ rest) =
    each_append Above1 (line_checks r before place line) (log_checks_from r (with_line before line) (place + 1) rest)
    (omega arith, λ _. (omega arith, λ _. (omega arith, λ _. (omega arith, λ _. (omega arith, λ _. (omega arith, λ _. tt))))))
    (λ _. lines_above r (with_line before line) (place + 1) rest)

log_above : (r : Room) (log : List ℕ) → Each Above1 (log_checks r log)
unfolding log_checks
log_above r log = lines_above r nothing_read 1 (lines log)

-- a find, however many constraints are to be listed
pub find_refused :
    (needed : ℕ) (q : Question) (list values : List ℕ) (number detail : ℕ) →
    reply (checks_for needed q list) values ≡ refused number detail → 2 ≤ number
find_refused needed q list values number detail =
    refused_each Above1 (checks_for needed q list) values number detail
    (omega arith, λ _. (omega arith, λ _. (omega arith, λ _. (omega arith, λ _. tt))))

-- what a ledger refuses it refuses under a number from 2
pub ledger_refused :
    (lengths : Space) (l : Ledger) (c : Call) (number detail : ℕ) → (shows lengths l c).said ≡ refused number detail → 2 ≤ number
ledger_refused lengths l (open_for n) number detail = refused_each Above1 (open_checks n) _ number detail (omega arith, λ _. tt)
ledger_refused lengths l (add trace) number detail =
    refused_each Above1 (add_checks (room_beside lengths l) trace) _ number detail
    (omega arith, λ _. (omega arith, λ _. (omega arith, λ _. (omega arith, λ _. tt))))
ledger_refused lengths l (read log) number detail =
    refused_each Above1 (log_checks (room_beside lengths l) log) _ number detail (log_above (room_beside lengths l) log)
ledger_refused lengths l (find settings list) number detail = find_refused _ (question l settings) list _ number detail

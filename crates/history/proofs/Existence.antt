-- There are fresh stores, and histories of all calls.
-- Assumes nothing.
use mathlib.Core.Path.{refl, sym}
use mathlib.Core.List.{[], ◌∷◌}
use Rattle.base.proofs.Checks.{none_fail_reply}
use Rattle.base.proofs.Outcomes.{some_outcome, outcome_accepted}
use Rattle.eventlog.specs.Store.{Memory, with_store}
use Rattle.eventlog.specs.Calls.{empty, open_checks}
use Rattle.history.specs.Ledger.{Call, open_for, add, read, find, Shown, only}
use Rattle.history.specs.Histories.{Called, HistoriesExist}
use Rattle.history.proofs.Chains.{chain_there}

-- each call can be made in any memory
call_there : (m : Memory) (c : Call) → (s : Shown) × (m' : Memory) × Called m c s m'
call_there m (open_for n) = (only _, with_store _ m, (_, some_outcome, refl, refl))
call_there m (add trace) = (only _, _, (some_outcome, refl))
call_there m (read log) = (only _, _, (some_outcome, refl))
call_there m (find settings list) = (record { said = _; list = _ }, m, (some_outcome, refl))

pub histories_exist : HistoriesExist
histories_exist =
    record {
      fresh =
          λ n events ends words declared.
          let accepted = sym (none_fail_reply (open_checks n) (n ∷ 0 ∷ []) (rw declared, tt)) in
          record { n = n; there = empty n; values = n ∷ 0 ∷ []; opens = outcome_accepted accepted refl refl };
      history = chain_there call_there;
    }

-- The loop's invariant: all turns come to those from `at` on, of what is there now, whatever function of numbers the closure computes.
use Rattle.std.proofs.Common.{◌-◌, ◌≡◌, ℕ}
use Rattle.watcher.specs.Calls.{lent_slots}
use Rattle.watcher.specs.Loops.{each_of, turn_to, Computes}
use Rattle.watcher.proofs.turn_each.Given as goal

abbrev pub invariant-loop-at : goal.invariant-loop-at
invariant-loop-at g l =
    (next : ℕ → ℕ → ℕ)
    → Computes (λ at state. g.F.Fn.post l.next_state (at, (state, tt))) l.count next
    → each_of (turn_to l.table next) l.count 0 (lent_slots l.initial.states l.initial.told)
    ≡ each_of (turn_to l.table next) (l.count - l.at) l.at (lent_slots l.states l.told)

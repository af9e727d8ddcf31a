-- There are starts, and steps from every memory: the claims of all starts and of all watchings speak of something.
-- Assumes nothing.
use Prim.Native.Nat.{ℕ, ◌/◌}
use mathlib.Core.Path.{◌≡◌, refl, sym, subst}
use mathlib.Core.List.{List, [], ◌∷◌, ◌++◌}
use lib.Dec.{eqb}
use lib.ListN.{length}
use Rattle.base.specs.Checks.{Check, Reply, gives, refused, reply, when_passed}
use Rattle.base.proofs.Checks.{none_fail, none_fail_reply, passed_giving}
use Rattle.base.proofs.Outcomes.{outcome_accepted}
use Rattle.watcher.specs.Calls.{Slots, Watched, watched_after, start_checks, step_checks, checks_of_step, Made, Steps}
use Rattle.watcher.specs.Table.{table}
use Rattle.watcher.specs.Loops.{each_of, turn_by}
use Rattle.watcher.specs.Watching.{Seen, Watching, Started, WatchingsExist}
use Rattle.watcher.proofs.Stepping.{one_taken, steps_refused, steps_taken}

-- ## A start

start_from :
    (n : ℕ) (numbers : List ℕ) (before : Watched) → reply (start_checks n numbers) [] ≡ gives [] →
    (s : Started) × (s.n ≡ n) × (s.numbers ≡ numbers) × (s.before ≡ before)
start_from n numbers before accepted =
    let checks = start_checks n numbers in
    let values = n ∷ length numbers / 3 ∷ 0 ∷ [] in
    let says : gives values ≡ reply checks values = sym (none_fail_reply checks values (none_fail checks [] [] accepted)) in (
      record {
        n = n;
        numbers = numbers;
        before = before;
        values = values;
        left = watched_after n numbers before.slots [];
        starts = outcome_accepted says refl refl;
      },
      refl,
      refl,
      refl,
    )

-- ## Steps

-- from every memory, whether a start and steps made it or not
pub step_from : (numbers : List ℕ) (m : Watched) (activity : ℕ) → (s : Seen) × Steps numbers m activity s.said s.left
step_from numbers m activity = by_reply (reply checks []) refl
  where
    checks : List Check
    checks = checks_of_step m.watcher (length numbers) activity

    turned : Slots
    turned = each_of (turn_by (table (eqb m.watcher.activities 1)) numbers activity) m.watcher.constraints 0 m.slots

    by_reply : (said : Reply) → said ≡ reply checks [] → (s : Seen) × Steps numbers m activity s.said s.left
    by_reply (gives values) says = (
      record { said = gives []; left = record { watcher = one_taken m.watcher; slots = turned } },
      steps_taken (sym (passed_giving checks [] values says).0) refl,
    )
    by_reply (refused number detail) says = (record { said = refused number detail; left = m }, steps_refused says refl)

watching_from : (numbers : List ℕ) (m : Watched) (activities : List ℕ) → (seen : List Seen) × Watching numbers m activities seen
watching_from numbers m [] = ([], tt)
watching_from numbers m (activity ∷ more) =
    let first = step_from numbers m activity in
    let others = watching_from numbers first.0.left more in
    (first.0 ∷ others.0, (first.1, others.1))

pub watchings_exist : WatchingsExist
watchings_exist = record { start = start_from; watching = watching_from }

-- ## In a memory that a start and steps made its two checks decide what a step says and leaves, and so it meets the contract

pub made_steps :
    (n : ℕ) (numbers : List ℕ) (before : Slots) (trace : List ℕ) (m : Watched) (activity : ℕ) → Made n numbers before trace m →
    Steps numbers m activity (reply (step_checks n (length trace) activity) [])
    (when_passed (step_checks n (length trace) activity) (watched_after n numbers before (trace ++ (activity ∷ []))) m)
made_steps n numbers before trace m activity made =
    let (s, steps) = step_from numbers m activity in
    let o = steps.made n before trace made in
    subst (λ (left : Watched). Steps numbers m activity (reply (step_checks n (length trace) activity) []) left) o.leaves
    (subst (λ (said : Reply). Steps numbers m activity said s.left) o.says steps)

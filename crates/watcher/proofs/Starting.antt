-- What start answers decides what it leaves.
-- Assumes nothing.
use Prim.Native.Nat.{ℕ, ◌*◌, ◌/◌, ◌≤◌}
use native.Mathlib.Omega.{arith}
use mathlib.Core.Path.{◌≡◌, refl, ap, ap₂, ◌∙◌}
use mathlib.Core.List.{List, [], ◌∷◌}
use lib.Dec.{eqb}
use lib.ListN.{length}
use Rattle.std.specs.Prelude.{Ok}
use Rattle.base.specs.Checks.{gives, reply}
use Rattle.base.proofs.Checks.{passed_giving}
use Rattle.base.proofs.Outcomes.{outcome_accepted}
use Rattle.watcher.specs.declared.Watcher.{Watcher}
use Rattle.watcher.specs.Calls.{Slots, watcher_after, start_checks, start_said, Starts}
use Rattle.watcher.specs.Table.{table}
use Rattle.watcher.specs.Loops.{each_of, first_turn}
use Rattle.watcher.proofs.Making.{not_many, none_cut, starting}

module _ (n : ℕ) (numbers : List ℕ) (watcher : Watcher)
    (said : start_said (Ok watcher) ≡ reply (start_checks n numbers) (n ∷ length numbers / 3 ∷ 0 ∷ [])) where
  start_passed : reply (start_checks n numbers) [] ≡ gives []
  start_passed = (passed_giving (start_checks n numbers) _ _ said).0

  started_watcher : watcher ≡ watcher_after n numbers []
  started_watcher =
      let same = (passed_giving (start_checks n numbers) _ _ said).1 in
      let first : watcher.activities ≡ n = cc in
      let second : watcher.constraints ≡ length numbers / 3 = cc in
      let third : watcher.taken ≡ 0 = cc in
      λ i. record { activities = first i; constraints = second i; taken = third i }

  pub started_few : (3 * watcher.constraints ≤ length numbers) × (watcher.constraints ≤ 256)
  started_few =
      let many = not_many n numbers start_passed in
      let whole = none_cut n numbers start_passed in
      let same : watcher.constraints ≡ length numbers / 3 = ap (λ (w : Watcher). w.constraints) started_watcher in
      (omega arith, omega arith)

  pub starts_started :
      (there : Watcher) (l left : Slots) → 256 ≤ length l.states → 256 ≤ length l.told →
      left ≡ each_of (first_turn (table (eqb watcher.activities 1)) numbers) watcher.constraints 0 l →
      Starts n numbers (record { watcher = there; slots = l }) (start_said (Ok watcher)) (record { watcher = watcher; slots = left })
  starts_started there l left states-fit told_fit turned =
      let few = started_few.1 in
      let same : watcher.constraints ≡ length numbers / 3 = ap (λ (w : Watcher). w.constraints) started_watcher in
      outcome_accepted said refl
      (ap₂ (λ (w : Watcher) (l : Slots). record { watcher = w; slots = l }) started_watcher
      (turned
      ∙ ap (λ (w : Watcher). each_of (first_turn (table (eqb w.activities 1)) numbers) w.constraints 0 l) started_watcher
      ∙ starting n numbers start_passed l (omega arith) (omega arith)))

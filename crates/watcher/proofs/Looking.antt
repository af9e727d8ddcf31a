-- What the table has at each state: one test over where it leads, one over what it tells.
-- Assumes nothing.
use Prim.Native.Nat.{ℕ, ◌+◌, ◌-◌, ◌*◌, ◌≤◌, ◌<◌}
use native.Mathlib.Omega.{arith}
use mathlib.Core.Path.{◌≡◌, refl}
use mathlib.Core.Bool.{Bool, true, false}
use borrow.Author.Tests.{eqb-true}
use lib.Dec.{eqb}
use lib.ListN.{get_or}
use Rattle.std.specs.List.{list_all}
use Rattle.base.specs.Lists.{range}
use Rattle.base.proofs.Lists.{all_range}
use Rattle.automata.specs.Automata.{next_of, letter}
use Rattle.automata.proofs.Agreement.{letter_small}
use Rattle.automata.proofs.Shifting.{at_every_state}
use Rattle.automata.specs.Ahead.{outlook_in}
use Rattle.watcher.specs.Table.{table, place}

abbrev tells : Bool → ℕ → ℕ → Bool
tells only t k = eqb (get_or (table only) (4 * (t + 32 * k) + 3) 0) (outlook_in only t k)

all_tell : (only : Bool) → list_all (λ t. list_all (tells only t) (range 0 8)) (range 1 24) ≡ true
unfolding table
all_tell true = refl
all_tell false = refl

abbrev leads : Bool → ℕ → ℕ → ℕ → Bool
leads only t k l = eqb (get_or (table only) (4 * (t + 32 * k) + (2 - l)) 0) (t + 32 * next_of t k l)

all_lead : (only : Bool) → list_all (λ t. list_all (λ k. list_all (leads only t k) (range 0 3)) (range 0 8)) (range 1 24) ≡ true
unfolding table
all_lead true = refl
all_lead false = refl

module _ (only : Bool) (template k : ℕ) (low : 1 ≤ template) (high : template ≤ 24) (small : k < 8) where
  pub outlook_there : get_or (table only) (4 * (template + 32 * k) + 3) 0 ≡ outlook_in only template k
  outlook_there = eqb-true _ _ (at_every_state (tells only) (all_tell only) template k low high small)

  pub next_there : (a b activity : ℕ)
      → get_or (table only) (place a b (template + 32 * k) activity) 0 ≡ template + 32 * next_of template k (letter a b activity)
  unfolding place
  next_there a b activity =
      eqb-true _ _
      (all_range (leads only template k) 0 3 (letter a b activity)
      (at_every_state (λ t k. list_all (leads only t k) (range 0 3)) (all_lead only) template k low high small) (omega arith) (letter_small a b activity))

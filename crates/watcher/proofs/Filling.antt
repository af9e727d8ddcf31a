-- What the loop over the constraints comes to: a new state for each, with what it tells, and then what was there.
-- Assumes nothing.
use Prim.Native.Nat.{ℕ, zero, suc, ◌+◌, ◌*◌, ◌≤◌, ◌<◌}
use native.Mathlib.Omega.{arith}
use native.Mathlib.Numerals.{add-one}
use native.Mathlib.Nat.{zero-add}
use mathlib.Core.Path.{◌≡◌, ap, ap₂, ◌∙◌}
use mathlib.Core.List.{List, ◌++◌, map}
use lib.ListN.{length, get_or, drop}
use Rattle.base.specs.Lists.{range}
use Rattle.base.proofs.Stores.{filled, filled_more, filled_next}
use Rattle.watcher.specs.Calls.{Slots}
use Rattle.watcher.specs.Loops.{each_of, put}

module _ (table : List ℕ) (turn : ℕ → Slots → Slots) (count : ℕ) (new : ℕ → ℕ) (l₀ : Slots)
    (each : (i : ℕ) (l : Slots) → i < count → get_or l.states i 0 ≡ get_or l₀.states i 0 → turn i l ≡ put table i (new i) l)
    (states-fit : count ≤ length l₀.states) (told_fit : count ≤ length l₀.told) where
  tell : ℕ → ℕ
  tell i = get_or table (4 * new i + 3) 0

  -- the first so many are new
  partly : ℕ → Slots
  partly at = record { states = filled new at l₀.states; told = filled tell at l₀.told }

  turned : (at : ℕ) → at < count → turn at (partly at) ≡ partly (suc at)
  unfolding partly tell
  turned at h =
      each at (partly at) h (filled_next new at l₀.states 0 (omega arith))
      ∙ ap₂ (λ x y. record { states = x; told = y }) (filled_more new at l₀.states (omega arith)) (filled_more tell at l₀.told (omega arith))
      ∙ ap partly (add-one at)

  onward : (more at : ℕ) → at + more ≡ count → each_of turn more at (partly at) ≡ partly count
  unfolding each_of
  onward zero at e = ap partly (omega arith)
  onward (suc more) at e = ap (each_of turn more (suc at)) (turned at (omega arith)) ∙ onward more (suc at) (omega arith)

  pub all_filled :
      each_of turn count 0 l₀
      ≡ record {
        states = map new (range 0 count) ++ drop count l₀.states;
        told = map (λ i. get_or table (4 * new i + 3) 0) (range 0 count) ++ drop count l₀.told;
      }
  unfolding partly tell
  all_filled = onward count 0 (zero-add count)

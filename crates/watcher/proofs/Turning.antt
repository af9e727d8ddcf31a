-- The loop over the constraints, turn by turn.
-- Assumes nothing.
use Prim.Native.Nat.{ℕ, suc, ◌+◌, ◌-◌, ◌≤◌, ◌<◌}
use native.Mathlib.Omega.{arith}
use native.Mathlib.Numerals.{add-one}
use mathlib.Core.Path.{◌≡◌, sym, ap, ◌∙◌}
use Rattle.watcher.specs.Calls.{Slots}
use Rattle.watcher.specs.Loops.{each_of}

pub turns_done : (turn : ℕ → Slots → Slots) (count at : ℕ) (l : Slots) → count ≤ at → each_of turn (count - at) at l ≡ l
unfolding each_of
turns_done turn count at l h = let none : count - at ≡ 0 = omega arith in ap (λ n. each_of turn n at l) none

pub turns_on : (turn : ℕ → Slots → Slots) (count at : ℕ) (l : Slots) → at < count
    → each_of turn (count - at) at l ≡ each_of turn (count - (at + 1)) (at + 1) (turn at l)
unfolding each_of
turns_on turn count at l h =
    let one_more : count - at ≡ suc (count - (at + 1)) = omega arith in
    ap (λ n. each_of turn n at l) one_more ∙ ap (λ n. each_of turn (count - (at + 1)) n (turn at l)) (sym (add-one at))

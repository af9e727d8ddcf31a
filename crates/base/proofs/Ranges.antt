-- Where a number stands to a range.
-- Assumes nothing.
use Prim.Native.Nat.{ℕ, ◌≤◌, ◌<◌}
use mathlib.Core.Path.{◌≡◌}
use mathlib.Core.Bool.{true, false, and-false}
use borrow.Author.Tests.{leb-true, le-leb, lt-leb}
use lib.Dec.{leb}
use Rattle.base.specs.Logic.{in_range}
use Rattle.base.proofs.Bools.{and_left, and_right}

pub inside : (low n high : ℕ) → low ≤ n → n ≤ high → in_range low n high ≡ true
inside low n high h k = simp (le-leb low n h, le-leb n high k)

pub below : (low n high : ℕ) → n < low → in_range low n high ≡ false
below low n high h = simp (lt-leb low n h)

pub above : (low n high : ℕ) → high < n → in_range low n high ≡ false
above low n high h = rw (lt-leb n high h) (and-false (leb low n))

pub range_facts : (low n high : ℕ) → in_range low n high ≡ true → (low ≤ n) × (n ≤ high)
range_facts low n high h =
    (leb-true _ _ (and_left (leb low n) (leb n high) h), leb-true _ _ (and_right (leb low n) (leb n high) h))

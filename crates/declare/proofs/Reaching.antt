-- What can be reached: found by a search, which need not be right where a test shows that what it found leads to nothing else.
-- Assumes nothing.
use Prim.Native.Nat.{ℕ, zero, suc}
use mathlib.Core.Path.{◌≡◌, sym, subst}
use mathlib.Core.Bool.{Bool, true, false, ◌||◌, false≢true}
use mathlib.Core.List.{List, [], ◌∷◌, ◌++◌}
use Rattle.std.specs.List.{list_all}
use Rattle.base.proofs.Bools.{and_left, and_right, either}

module _ {A : Type 0} (same : A → A → Bool) where
  abbrev pub among : A → List A → Bool
  among p [] = false
  among p (q ∷ found) = let rest = among p found in same p q || rest

  -- those found so far, and those that others lead to, in so many looks
  abbrev pub explored : (A → List A) → ℕ → List A → List A → List A
  explored onward zero todo found = found
  explored onward (suc looks) [] found = found
  explored onward (suc looks) (p ∷ todo) found =
      elim (among p found) [
        | true ↦ explored onward looks todo found
        | false ↦ explored onward looks (onward p ++ todo) (p ∷ found)
      ]

  -- what passes at each one found passes at one among them
  pub passed : ((p q : A) → same p q ≡ true → p ≡ q) → (test : A → Bool) (p : A) (found : List A)
      → list_all test found ≡ true → among p found ≡ true → test p ≡ true
  passed equal test p [] h m = absurd (false≢true m)
  passed equal test p (q ∷ found) h m =
      either (same p q) (λ e. subst (λ r. test r ≡ true) (sym (equal p q e)) (and_left (test q) (list_all test found) h))
      (λ e. passed equal test p found (and_right (test q) (list_all test found) h) (rw e at m))

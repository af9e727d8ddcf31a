-- How long traces are together: of those that pass a test, of a permutation, and of several lists of them.
-- Assumes nothing.
use Prim.Native.Nat.{ℕ, ◌+◌, ◌*◌, ◌≤◌}
use native.Mathlib.Omega.{arith}
use mathlib.Core.Path.{◌≡◌, refl, ap, ◌∙◌}
use mathlib.Core.Bool.{Bool, true, false, cond}
use mathlib.Core.List.{List, [], ◌∷◌, Permᴰ}
use lib.ListN.{length}
use Rattle.std.specs.List.{filter}
use Rattle.base.specs.Lists.{non_empty, flat_map}
use Rattle.eventlog.specs.Store.{total}
use Rattle.eventlog.proofs.Laws.{total_append}

module _ (p : List ℕ → Bool) where
  abbrev own : List ℕ → ℕ
  own trace = cond (p trace) (length trace) 0

  -- one trace first
  pub total_first : (trace : List ℕ) (traces : List (List ℕ)) → total (filter p (trace ∷ traces)) ≡ own trace + total (filter p traces)
  total_first trace traces = go (p trace)
    where
      go : (t : Bool) → total (cond t (trace ∷ filter p traces) (filter p traces)) ≡ cond t (length trace) 0 + total (filter p traces)
      go true = refl
      go false = omega arith

  pub total_at_most : (traces : List (List ℕ)) → total (filter p traces) ≤ total traces
  total_at_most [] = omega arith
  total_at_most (trace ∷ traces) = omega (arith, total_first trace traces, go (p trace), total_at_most traces)
    where
      go : (t : Bool) → cond t (length trace) 0 ≤ length trace
      go true = omega arith
      go false = omega arith

  -- the order is nothing to it
  pub total_permuted : {xs ys : List (List ℕ)} → Permᴰ xs ys → total (filter p xs) ≡ total (filter p ys)
  total_permuted Permᴰ.nil = refl
  total_permuted (Permᴰ.cons {a = a} {b = b} {l₁ = xs} {l₂ = ys} e d) =
      omega (arith, total_first a xs, total_first b ys, ap own e, total_permuted d)
  total_permuted (Permᴰ.swap {a = a} {b = b} {a' = a'} {b' = b'} {l = xs} e f) =
      let first : own a ≡ own b' = ap own e in
      let second : own b ≡ own a' = ap own f in
      omega (arith, total_first a (b ∷ xs), total_first b xs, total_first a' (b' ∷ xs), total_first b' xs, first, second)
  total_permuted (Permᴰ.trans d e) = total_permuted d ∙ total_permuted e

-- an empty trace is nothing to it
pub total_non_empty : (traces : List (List ℕ)) → total (filter non_empty traces) ≡ total traces
total_non_empty [] = refl
total_non_empty ([] ∷ traces) = omega (arith, total_non_empty traces)
total_non_empty ((x ∷ trace) ∷ traces) = omega (arith, total_non_empty traces)

-- ## Lists of traces, one for each of some constraints or whatever they are

module _ {A : Type 0} (f : A → List (List ℕ)) where
  pub total_each_at_most : (most : ℕ) → ((x : A) → total (f x) ≤ most) → (xs : List A) → total (flat_map xs f) ≤ length xs * most
  total_each_at_most most h [] = omega arith
  total_each_at_most most h (x ∷ xs) = omega (arith, total_append (f x) (flat_map xs f), h x, total_each_at_most most h xs)

pub total_each_same :
    {A : Type 0} (f g : A → List (List ℕ)) → ((x : A) → total (f x) ≡ total (g x)) → (xs : List A) →
    total (flat_map xs f) ≡ total (flat_map xs g)
total_each_same f g h [] = refl
total_each_same f g h (x ∷ xs) =
    omega (arith, total_append (f x) (flat_map xs f), total_append (g x) (flat_map xs g), h x, total_each_same f g h xs)

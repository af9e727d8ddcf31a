-- A loop that counts the items that pass a test: a chain that makes 1 of each that passes, and else 0, and adds up. The items and the test
-- are parameters.
-- Assumes nothing.
use Prim.Native.Nat.{ℕ, ◌+◌, ◌<◌}
use mathlib.Core.Path.{◌≡◌, sym, ◌∙◌}
use mathlib.Core.Bool.{Bool, cond}
use mathlib.Core.List.{List}
use native.Mathlib.Omega.{arith}
use lib.ListN.{length}
use denote.Param.Members.{Mut}
use Rattle.std.specs.Prelude.{map, ⊤, Option}
use Rattle.std.specs.Fn.{Called}
use Rattle.std.specs.Iterator.{Drains}
use Rattle.std.specs.Iterator.Adapters.{map_steps}
use Rattle.std.specs.Iterator.Runs.{EachRunFrom}
use Rattle.std.specs.declared.iter.Map.{Map}
use Rattle.std.specs.List.{fold}
use Rattle.std.proofs.lemmas.Iterator.{YieldsList, YieldsList-from_map}
use Rattle.std.proofs.lemmas.Iterator.Consumers.{sum_by_from_yields_List, fits_by_from_yields_list}
use Rattle.std.proofs.lemmas.List.Sums.{length-filter}
use Rattle.base.specs.Lists.{count}
use Rattle.base.proofs.Lists.{count_at_most}

module _ {S A B F : Type 0} {steps : S → Option A → S → Type 0} {value : A → B} {f : F} {items : List B} (test : B → Bool) where
  module _
      {g : Mut F (A × Unit {0}) ℕ} {s : Map S F} (source : YieldsList steps value s.iter items) (callee : s.f ≡ f)
      (calls : (x : A) (n : ℕ) (f' : F) → Called g f (x, tt) n f' → (f' ≡ f) × (n ≡ cond (test (value x)) 1 0)) where
    ones : YieldsList (map_steps steps g) (λ n. n) s (map (λ x. cond (test x) 1 0) items)
    ones = YieldsList-from_map g _ source callee calls

    -- few items do not wrap
    pub sum_fits : length items < 4294967296 → EachRunFrom (map_steps steps g) s (λ run. fold (λ a x. a + x) 0 run.items < 4294967296)
    sum_fits few =
        fits_by_from_yields_list _ items s 4294967296 ones (omega (arith, length-filter test items, count_at_most test items, few))

    pub sum_counts :
        {n : ℕ} → ((xs : List ℕ) × (⊤ → Drains (map_steps steps g) s xs) × (n ≡ fold (λ a x. a + x) 0 xs)) → n ≡ count test items
    sum_counts {n} ran = sum_by_from_yields_List _ items s n ran ones ∙ sym (length-filter test items)

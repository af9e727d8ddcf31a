-- Whether each constraint of the numbers passes a test, by what a chain over their chunks finds.
-- Assumes nothing.
use Prim.Native.Nat.{ℕ, zero, suc, ◌+◌, ◌*◌, ◌/◌, ◌<◌}
use denote.Ref.{Bor}
use denote.Param.Members.{Mut, Called}
use native.Mathlib.Omega.{arith}
use native.Mathlib.Nat.{mul_comm, add-zero}
use mathlib.Core.Path.{◌≡◌, refl, sym, ap, ◌∙◌}
use mathlib.Core.Bool.{Bool, true, false}
use mathlib.Core.List.{List, map}
use lib.ListN.{length, get_or}
use Rattle.std.specs.Prelude.{Option, Some, None, IsTrue, MatchBool}
use Rattle.std.specs.Option.{option_map}
use Rattle.std.specs.List.{list_all}
use Rattle.std.specs.Iterator.Runs.{Run, CallKeepsClosure, AllItemsGive, AnyItemGives, ItemsMapToExactChunks}
use Rattle.base.specs.Lists.{range}
use Rattle.base.proofs.Bools.{and_both, either, clash}
use Rattle.base.proofs.Lists.{all_map, all_range}
use Rattle.declare.specs.declared.constraints.Constraint.{Constraint}
use Rattle.declare.specs.Constraints.{constraint}
use Rattle.watcher.specs.Calls.{constraint_at, given}

all_at : (test : ℕ → Bool) (first more : ℕ) → ((i : ℕ) → i < first + more → test i ≡ true) → list_all test (range first more) ≡ true
all_at test first zero each = refl
all_at test first (suc more) each =
    and_both (test first) (list_all test (range (suc first) more)) (each first (omega arith)) (all_at test (suc first) more (λ i h. each i (omega arith)))

module _ {A : Type 0} (test : A → Bool) (f : ℕ → A) (count : ℕ) where
  all_pass : ((i : ℕ) → i < count → test (f i) ≡ true) → true ≡ list_all test (map f (range 0 count))
  all_pass each = sym (all_map test f (range 0 count) ∙ all_at (λ i. test (f i)) 0 count (λ i h. each i (omega arith)))

  one_fails : (i : ℕ) → i < count → test (f i) ≡ false → false ≡ list_all test (map f (range 0 count))
  one_fails i h fails =
      either (list_all test (map f (range 0 count)))
      (λ e. clash (all_range (λ i. test (f i)) 0 count i (sym (all_map test f (range 0 count)) ∙ e) (omega arith) (omega arith)) fails)
      (λ e. sym e)

-- the constraint of three numbers
abbrev of_three : List ℕ → Constraint
of_three c = constraint (get_or c 0 0) (get_or c 1 0) (get_or c 2 0)

module _ {S : Type 0} {steps : S → Option (Bor (List ℕ)) → S → Type 0} (p : Run steps) (numbers : List ℕ)
    (chunks : ItemsMapToExactChunks p (λ x. x.now) 3 numbers) (test : Constraint → Bool) where
  chunk_at : (k : ℕ) (x : Bor (List ℕ)) → p.at k ≡ Some x → (k < length numbers / 3) × (of_three x.now ≡ constraint_at numbers k)
  chunk_at k x e =
      let here = rw e at (chunks.2 k) in
      let same : (j : ℕ) → j < 3 → get_or x.now j 0 ≡ get_or numbers (3 * k + j) 0 = λ j h. here.2.2 j 0 h ∙ ap (λ n. get_or numbers (n + j) 0) (mul_comm k 3) in
      let first_same : get_or x.now 0 0 ≡ get_or numbers (3 * k) 0 = rw add-zero at (same 0 (omega arith)) in
      let second_same = same 1 (omega arith) in
      let last_same = same 2 (omega arith) in
      (omega arith, cc)

  -- the item at a place below the length
  item_at : (d : Bor (List ℕ)) (k : ℕ) → k < p.len → (x : Bor (List ℕ)) × (p.at k ≡ Some x)
  item_at d k h = go (p.at k) (p.reads k d h)
    where
      go : {y : Bor (List ℕ)} (o : Option (Bor (List ℕ))) → option_map (λ y. y) o ≡ Some y → (x : Bor (List ℕ)) × (o ≡ Some x)
      go None e = absurd cc
      go (Some x) e = (x, refl)

  module _ {F : Type 0} (g : Mut F (Bor (List ℕ) × Unit {0}) Bool) (f : F) (keeps : CallKeepsClosure g f)
      (says : (x : Bor (List ℕ)) (r : Bool) → Called g f (x, tt) r f → r ≡ test (of_three x.now)) where
    -- the answer of the chain: that the test passes at each chunk, or that it fails at one
    pub each_given : (d : Bor (List ℕ)) (b : Bool) → MatchBool b (IsTrue p.whole × AllItemsGive p g f true) (AnyItemGives p g f false)
        → b ≡ list_all test (given numbers)
    unfolding given
    each_given d true (whole, each) =
        all_pass test (constraint_at numbers) (length numbers / 3)
        (λ k h.
        let item = item_at d k (omega (arith, chunks.1 whole)) in
        ap test (sym (chunk_at k item.0 item.1).1) ∙ sym (says item.0 true (rw item.1 at (each keeps k))))
    each_given d false fails =
        let found = fails keeps in
        let item = item_at d found.0 found.1 in
        let here = chunk_at found.0 item.0 item.1 in
        one_fails test (constraint_at numbers) (length numbers / 3) found.0 here.0
        (ap test (sym here.1) ∙ sym (says item.0 false (rw item.1 at found.2)))

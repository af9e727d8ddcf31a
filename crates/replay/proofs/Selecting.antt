-- The places of the words that pass a test, and what stands at them.
-- Assumes nothing.
use Prim.Native.Nat.{ℕ, zero, suc, ◌+◌, ◌≤◌, ◌<◌}
use native.Mathlib.Omega.{arith}
use native.Mathlib.Numerals.{add-one}
use mathlib.Core.Path.{◌≡◌, refl, sym, ap, ap₂, ◌∙◌}
use mathlib.Core.Bool.{Bool, true, false, cond}
use mathlib.Core.List.{List, [], ◌∷◌, ◌++◌, map, append-nil, map-append}
use mir.Val.{bool_byte}
use lib.ListN.{length, length-append, length-set, take, set, get_or}
use Rattle.std.proofs.lemmas.List.{take-set, take_more_set, take_more}
use Rattle.std.specs.List.{filter, list_all}
use Rattle.base.specs.Lists.{range}
use Rattle.base.proofs.Bools.{and_both}
use Rattle.base.proofs.Lists.{filter_append, count_at_most, range_length}
use Rattle.pruning.specs.declared.WordTest.{WordTest}
use Rattle.replay.specs.Blocks.{passing, Selects}

range_more : (first more : ℕ) → range first (suc more) ≡ range first more ++ ((first + more) ∷ [])
range_more first zero = ap (λ (x : ℕ). x ∷ []) (omega arith)
range_more first (suc more) =
    ap (λ (xs : List ℕ). first ∷ xs) (range_more (suc first) more ∙ ap (λ x. range (suc first) more ++ (x ∷ [])) (omega arith))

-- what passes passes
pub all_filtered : {A : Type 0} (p : A → Bool) (xs : List A) → list_all p (filter p xs) ≡ true
all_filtered p [] = refl
all_filtered p (x ∷ xs) = go (p x) refl (all_filtered p xs)
  where
    go : (t : Bool) → p x ≡ t → list_all p (filter p xs) ≡ true → list_all p (cond t (x ∷ filter p xs) (filter p xs)) ≡ true
    go true passed rest = and_both (p x) _ passed rest
    go false failed rest = rest

pub one_at_most : (t : Bool) → bool_byte t ≤ 1
one_at_most true = omega arith
one_at_most false = omega arith

module _ (p : ℕ → Bool) where
  -- of so many places those that pass
  abbrev pub front : ℕ → List ℕ
  front k = filter p (range 0 k)

  front_more : (k : ℕ) (t : Bool) → p k ≡ t → front (suc k) ≡ front k ++ cond t (k ∷ []) []
  front_more k t same =
      let place : 0 + k ≡ k = omega arith in
      ap (filter p) (range_more 0 k)
      ∙ filter_append p (range 0 k) ((0 + k) ∷ [])
      ∙ ap (λ k'. front k ++ filter p (k' ∷ [])) place
      ∙ ap (λ t. front k ++ cond t (k ∷ []) []) same

  pub front_few : (k : ℕ) → length (front k) ≤ k
  front_few k = omega (arith, count_at_most p (range 0 k), range_length 0 k)

  -- on the way
  pub record Selecting (k n : ℕ) (places : List ℕ) : Type 0 where
    pub number : n ≡ length (front k)
    pub stands : take n places ≡ front k
    pub room : length places ≡ 64

  pub selecting_more :
      {k n : ℕ} {places : List ℕ} → Selecting k n places → k < 64 → {t : Bool} → t ≡ p k →
      Selecting (k + 1) (n + bool_byte t) (set places n k)
  selecting_more {k} {n} {places} s low {t} same = go t (sym same)
    where
      few : n ≤ k
      few = omega (arith, s.number, front_few k)

      go : (t : Bool) → p k ≡ t → Selecting (k + 1) (n + bool_byte t) (set places n k)
      go true passed =
          let more = ap front (add-one k) ∙ front_more k true passed in
          record {
            number = omega (arith, s.number, ap length more, length-append (front k) (k ∷ []));
            stands = take_more_set places n k (omega (arith, few, s.room)) ∙ ap (λ xs. xs ++ (k ∷ [])) s.stands ∙ sym more;
            room = length-set places n k ∙ s.room;
          }
      go false failed =
          let more = ap front (add-one k) ∙ front_more k false failed ∙ append-nil (front k) in
          let none : n + 0 ≡ n = omega arith in
          record {
            number = omega (arith, s.number, ap length more);
            stands = ap (λ i. take i (set places n k)) none ∙ take-set places n k ∙ s.stands ∙ sym more;
            room = length-set places n k ∙ s.room;
          }

  -- what stands at the places that pass is what passes
  pub at_front :
      {A : Type 0} (q : A → Bool) (at : ℕ → A) (d : A) (xs : List A) (k : ℕ) → k ≤ length xs → ((i : ℕ) → i < length xs → at i ≡ get_or xs i d) →
      ((i : ℕ) → i < length xs → p i ≡ q (at i)) → map at (front k) ≡ filter q (take k xs)
  at_front q at d xs zero within there same = refl
  at_front {A} q at d xs (suc k) within there same = go (p k) refl (at_front q at d xs k (omega arith) there same)
    where
      here : at k ≡ get_or xs k d
      here = there k (omega arith)

      taken : take (suc k) xs ≡ take k xs ++ (get_or xs k d ∷ [])
      taken = ap (λ n. take n xs) (sym (add-one k)) ∙ take_more xs k d (omega arith)

      one : (t : Bool) → t ≡ q (get_or xs k d) → map at (cond t (k ∷ []) []) ≡ filter q (get_or xs k d ∷ [])
      one true good = ap (λ (x : A). x ∷ []) here ∙ ap (λ t. cond t (get_or xs k d ∷ []) []) good
      one false bad = ap (λ t. cond t (get_or xs k d ∷ []) []) bad

      go : (t : Bool) → p k ≡ t → map at (front k) ≡ filter q (take k xs) → map at (front (suc k)) ≡ filter q (take (suc k) xs)
      go t told before =
          ap (map at) (front_more k t told)
          ∙ map-append at (front k) (cond t (k ∷ []) [])
          ∙ ap₂ ◌++◌ before (one t (sym told ∙ same k (omega arith) ∙ ap q here))
          ∙ sym (ap (filter q) taken ∙ filter_append q (take k xs) (get_or xs k d ∷ []))

pub selecting_all :
    {test : WordTest} {words : List ℕ} {k n : ℕ} {places : List ℕ} → k ≡ length words → Selecting (passing test words) k n places →
    Selects test words n places
selecting_all {test} {words} all s =
    record {
      number = s.number ∙ ap (λ k. length (front (passing test words) k)) all;
      front = s.stands ∙ ap (front (passing test words)) all;
    }

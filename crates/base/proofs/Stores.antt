-- Stores into a list, one after the other.
-- Assumes nothing.
use Prim.Native.Nat.{ℕ, suc, ◌+◌, ◌<◌}
use native.Mathlib.Omega.{arith}
use native.Mathlib.Numerals.{add-one}
use native.Mathlib.Nat.{zero-add, add-zero, add-suc, suc-add}
use mathlib.Core.Path.{◌≡◌, refl, sym, ap, ◌∙◌}
use mathlib.Core.List.{List, [], ◌∷◌, ◌++◌, map}
use lib.ListN.{length, get_or, set, drop, get_or-append}
use lib.Seq.{sets, drop-cons, get_or_at, set_at, append_snoc}
use Rattle.std.proofs.lemmas.List.{length-map, map-append}
use Rattle.base.specs.Lists.{range}
use Rattle.base.proofs.Lists.{range_last, range_length, range_at}

module _ {ℓ} {A : Type ℓ} where
  -- nothing can be stored into no list
  pub sets_none : (i : ℕ) (vs : List A) → ◌≡◌ {A = List A} (sets [] i vs) []
  sets_none i [] = refl
  sets_none i (v ∷ vs) = sets_none (suc i) vs

  -- stores after stores are the stores of both
  pub sets_append : (xs ys l : List A) (i : ℕ) → sets l i (xs ++ ys) ≡ sets (sets l i xs) (i + length xs) ys
  sets_append [] ys l i = rw add-zero
  sets_append (x ∷ xs) ys l i = rw (add-suc, ← (suc-add i (length xs))) (sets_append xs ys (set l i x) (suc i))

-- ## A list whose front is filled

-- the first values of a function, in the place of what there was
abbrev pub filled : {A : Type 0} → (ℕ → A) → ℕ → List A → List A
filled f n there = map f (range 0 n) ++ drop n there

module _ {A : Type 0} (f : ℕ → A) where
  -- one more of them
  pub filled_more : (k : ℕ) (there : List A) → k < length there → set (filled f k there) k (f k) ≡ filled f (k + 1) there
  filled_more k there within =
      let made = map f (range 0 k) in
      let rest = drop (suc k) there in
      let one_more : made ++ f k ∷ [] ≡ map f (range 0 (suc k)) =
      sym (ap (map f) (range_last 0 k ∙ ap (λ n. range 0 k ++ n ∷ []) (zero-add k)) ∙ map-append f (range 0 k) (k ∷ [])) in
      ap (λ there. set (made ++ there) k (f k)) (drop-cons there k (f k) within)
      ∙ set_at made (get_or there k (f k)) rest (f k) k (length-map (range 0 k) f ∙ range_length 0 k)
      ∙ sym (append_snoc made (f k) rest)
      ∙ ap (λ made. made ++ rest) one_more
      ∙ ap (λ n. filled f n there) (sym (add-one k))

  -- and the next is what was there
  pub filled_next : (k : ℕ) (there : List A) (d : A) → k < length there → get_or (filled f k there) k d ≡ get_or there k d
  filled_next k there d within =
      let made = map f (range 0 k) in
      ap (λ there. get_or (made ++ there) k d) (drop-cons there k d within)
      ∙ get_or_at made (get_or there k d) (drop (suc k) there) d k (length-map (range 0 k) f ∙ range_length 0 k)

  pub filled_at : (n : ℕ) (there : List A) (d : A) (k : ℕ) → k < n → get_or (filled f n there) k d ≡ f k
  filled_at n there d k within =
      get_or-append (map f (range 0 n)) (drop n there) d k (omega (arith, length-map (range 0 n) f, range_length 0 n)) ∙ range_at f n k d within

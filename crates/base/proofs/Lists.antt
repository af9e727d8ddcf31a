-- Laws of lists: all, map, find index, filter, count, range, flat map, equality, and parts.
-- Assumes nothing.
use Prim.Native.Nat.{ℕ, zero, suc, ◌+◌, ◌-◌, ◌≤◌, ◌<◌}
use native.Mathlib.Omega.{arith}
use native.Mathlib.Numerals.{add-one}
use native.Mathlib.Decide.{ℕ_discrete}
use native.Mathlib.Nat.{zero-add, add-zero, add-suc, suc-add, not-suc-le-zero, le_of_suc-le-suc}
use mathlib.Core.Path.{◌≡◌, refl, sym, ap, ap₂, subst, ◌∙◌}
use mathlib.Core.Logic.{◌⊎◌, inl, inr, ⊎_elim}
use mathlib.Core.Bool.{Bool, true, false, cond, not, ◌&&◌, and-true, and_assoc, true≢false, false≢true}
use mathlib.Core.List.Memᴰ
use mathlib.Core.List.{List, [], ◌∷◌, ◌++◌, map, append_assoc, append-nil, Memᴰ, Sublistᴰ, Permᴰ}
use borrow.Author.Tests.{eqb-true, eqb-false}
use lib.Dec.{eqb, eqb-zero-suc, eqb-suc-suc}
use lib.ListN.{length, take, drop, get_or, length-append}
use lib.Seq.{slice, take-nil}
use Rattle.std.specs.Prelude.{if◌then◌else◌, Some, None}
use Rattle.std.specs.List.{list_all, position, position_from, range_with_len}
use Rattle.std.proofs.lemmas.Iterator.Adapters.{position_from-zero}
use Rattle.base.specs.Lists.{filter, count, all, find_index, range, flat_map, equal_lists}
use Rattle.base.proofs.Bools.{and_left, and_right, and_both, either, clash}

-- ## Parts

pub take_drop {ℓ} : {A : Type ℓ} (from more : ℕ) (l : List A) → take more (drop from l) ≡ slice from (from + more) l
take_drop zero more l = rw zero-add
take_drop (suc from) more [] = rw suc-add (take-nil more)
take_drop (suc from) more (x ∷ l) = rw suc-add (take_drop from more l)

-- a part that is handed on, from a start to an end, is the slice that the definitions speak of
pub part_slice {ℓ} : {A : Type ℓ} (from to : ℕ) (l : List A) → from ≤ to → take (to - from) (drop from l) ≡ slice from to l
part_slice from to l h =
    let e : from + (to - from) ≡ to = omega arith in
    take_drop from (to - from) l ∙ ap (λ (n : ℕ). slice from n l) e

-- what is so for the empty list, and with a list for one that is longer by a last element, is so for every list
pub from_last {ℓ κ} : {A : Type ℓ} (P : List A → Type κ) → P [] → ((xs : List A) (x : A) → P xs → P (xs ++ x ∷ [])) → (xs : List A) → P xs
from_last {A = A} P start step xs = go [] xs start
  where
    go : (front rest : List A) → P front → P (front ++ rest)
    go front [] h = rw (append-nil front) h
    go front (x ∷ rest) h = rw (← (append_assoc front (x ∷ []) rest)) (go (front ++ x ∷ []) rest (step front x h))

-- ## Equality

module _ {A : Type 0} (equal : A → A → Bool) where
  pub equal_lists_same : ((x y : A) → equal x y ≡ true → x ≡ y) → (xs ys : List A) → equal_lists equal xs ys ≡ true → xs ≡ ys
  equal_lists_same same [] [] h = refl
  equal_lists_same same [] (y ∷ ys) h = absurd (false≢true h)
  equal_lists_same same (x ∷ xs) [] h = absurd (false≢true h)
  equal_lists_same same (x ∷ xs) (y ∷ ys) h =
      ap₂ ◌∷◌ (same x y (and_left (equal x y) (equal_lists equal xs ys) h))
      (equal_lists_same same xs ys (and_right (equal x y) (equal_lists equal xs ys) h))

  pub equal_lists_refl : ((x : A) → equal x x ≡ true) → (xs : List A) → equal_lists equal xs xs ≡ true
  equal_lists_refl same [] = refl
  equal_lists_refl same (x ∷ xs) = and_both (equal x x) (equal_lists equal xs xs) (same x) (equal_lists_refl same xs)

-- ## All

pub all_joined {ℓ} : {A : Type ℓ} (p : A → Bool) (xs ys : List A) → all p (xs ++ ys) ≡ all p xs && all p ys
all_joined p [] ys = refl
all_joined p (x ∷ xs) ys = ap (λ (b : Bool). p x && b) (all_joined p xs ys) ∙ sym (and_assoc (p x) (all p xs) (all p ys))

pub all_append {ℓ} : {A : Type ℓ} (p : A → Bool) (xs ys : List A) → all p xs ≡ true → all p ys ≡ true → all p (xs ++ ys) ≡ true
all_append p xs ys h k = all_joined p xs ys ∙ and_both (all p xs) (all p ys) h k

pub all_last {ℓ} : {A : Type ℓ} (p : A → Bool) (xs : List A) (x : A) → all p (xs ++ x ∷ []) ≡ all p xs && p x
all_last p xs x = all_joined p xs (x ∷ []) ∙ ap (λ (b : Bool). all p xs && b) (and-true (p x))

pub all_weaker {ℓ} : {A : Type ℓ} (p q : A → Bool) → ((x : A) → p x ≡ true → q x ≡ true) → (xs : List A) → all p xs ≡ true → all q xs ≡ true
all_weaker p q f [] h = refl
all_weaker p q f (x ∷ xs) h =
    and_both (q x) (all q xs) (f x (and_left (p x) (all p xs) h)) (all_weaker p q f xs (and_right (p x) (all p xs) h))

pub all_map : {A B : Type 0} (p : B → Bool) (f : A → B) (xs : List A) → all p (map f xs) ≡ all (λ x. p (f x)) xs
all_map p f [] = refl
all_map p f (x ∷ xs) = ap (λ rest. p (f x) && rest) (all_map p f xs)

pub map_map : {A B C : Type 0} (f : B → C) (g : A → B) (l : List A) → map f (map g l) ≡ map (λ x. f (g x)) l
map_map f g [] = refl
map_map f g (x ∷ l) = ap (λ r. f (g x) ∷ r) (map_map f g l)

pub all_take {ℓ} : {A : Type ℓ} (p : A → Bool) (n : ℕ) (xs : List A) → all p xs ≡ true → all p (take n xs) ≡ true
all_take p zero xs h = refl
all_take p (suc n) [] h = refl
all_take p (suc n) (x ∷ xs) h =
    and_both (p x) (all p (take n xs)) (and_left (p x) (all p xs) h) (all_take p n xs (and_right (p x) (all p xs) h))

pub all_drop {ℓ} : {A : Type ℓ} (p : A → Bool) (n : ℕ) (xs : List A) → all p xs ≡ true → all p (drop n xs) ≡ true
all_drop p zero xs h = h
all_drop p (suc n) [] h = refl
all_drop p (suc n) (x ∷ xs) h = all_drop p n xs (and_right (p x) (all p xs) h)

pub all_filter {ℓ} : {A : Type ℓ} (p q : A → Bool) (xs : List A) → all p xs ≡ true → all p (filter q xs) ≡ true
all_filter p q [] h = refl
all_filter p q (x ∷ xs) h = go (q x) (all_filter p q xs (and_right (p x) (all p xs) h))
  where
    go : (t : Bool) → all p (filter q xs) ≡ true → all p (cond t (x ∷ filter q xs) (filter q xs)) ≡ true
    go true rest = and_both (p x) (all p (filter q xs)) (and_left (p x) (all p xs) h) rest
    go false rest = rest

-- ## Find index

module _ {ℓ} {A : Type ℓ} (p : A → Bool) where
  pub find_index_within : (xs : List A) → find_index p xs ≤ length xs
  find_index_within [] = omega arith
  find_index_within (x ∷ xs) = go (p x) _ _ (find_index_within xs)
    where
      go : (t : Bool) (i k : ℕ) → i ≤ k → (if t then 0 else suc i) ≤ suc k
      go true i k h = omega arith
      go false i k h = omega arith

  -- all pass just where the first that does not is behind the last
  pub all_by_index : (xs : List A) → all p xs ≡ eqb (find_index (λ x. not (p x)) xs) (length xs)
  all_by_index [] = refl
  all_by_index (x ∷ xs) = go (p x) (all p xs) _ _ (all_by_index xs)
    where
      go : (t rest : Bool) (i k : ℕ) → rest ≡ eqb i k → t && rest ≡ eqb (if not t then 0 else suc i) (suc k)
      go true rest i k e = e ∙ sym (eqb-suc-suc i k)
      go false rest i k e = sym (eqb-zero-suc k)

  -- where one passes, so does the one at the index, and none stands before it that does
  pub find_index_first :
      (d : A) (xs : List A) (k : ℕ) → k < length xs → p (get_or xs k d) ≡ true →
      (find_index p xs ≤ k) × (p (get_or xs (find_index p xs) d) ≡ true)
  find_index_first d [] k h e = absurd (omega arith)
  find_index_first d (x ∷ xs) k h e = go (p x) refl k h e (find_index_first d xs)
    where
      go :
          (t : Bool) → p x ≡ t → (k : ℕ) → k < length (x ∷ xs) → p (get_or (x ∷ xs) k d) ≡ true →
          ((k : ℕ) → k < length xs → p (get_or xs k d) ≡ true → (find_index p xs ≤ k) × (p (get_or xs (find_index p xs) d) ≡ true)) →
          let i = if t then 0 else suc (find_index p xs) in
          (i ≤ k) × (p (get_or (x ∷ xs) i d) ≡ true)
      go true passes k h e later = (omega arith, passes)
      go false fails zero h e later = absurd (true≢false (sym e ∙ fails))
      go false fails (suc k) h e later = let found = later k (omega arith) e in (omega (arith, found.0), found.1)

module _ {A : Type 0} (p : A → Bool) where
  -- the library's `position` of the first that does not pass, by this index
  place_from :
      (i : ℕ) (xs : List A) →
      position_from (λ x. not (p x)) i xs ≡ cond (list_all p xs) None (Some (i + find_index (λ x. not (p x)) xs))
  place_from i [] = refl
  place_from i (x ∷ xs) = go (p x) (place_from (i + 1) xs)
    where
      go :
          (t : Bool) →
          position_from (λ x. not (p x)) (i + 1) xs ≡ cond (list_all p xs) None (Some (i + 1 + find_index (λ x. not (p x)) xs)) →
          cond (not t) (Some i) (position_from (λ x. not (p x)) (i + 1) xs)
          ≡ cond (t && list_all p xs) None (Some (i + (if not t then 0 else suc (find_index (λ x. not (p x)) xs))))
      go true h = h ∙ ap (λ k. cond (list_all p xs) None (Some k)) (omega arith)
      go false h = ap Some (omega arith)

  pub position_by_index :
      (xs : List A) → position (λ x. not (p x)) xs ≡ cond (list_all p xs) None (Some (find_index (λ x. not (p x)) xs))
  position_by_index xs =
      position_from-zero (λ x. not (p x)) xs ∙ place_from 0 xs
      ∙ ap (λ k. cond (list_all p xs) None (Some k)) (zero-add (find_index (λ x. not (p x)) xs))

-- ## Filter

module _ {A : Type 0} (p : A → Bool) where
  pub filter_member : (x : A) (xs : List A) → Memᴰ x (filter p xs) → Memᴰ x xs × (p x ≡ true)
  filter_member x [] h = absurd (Memᴰ.not-nil h)
  filter_member x (y ∷ xs) h = go (p y) refl h (filter_member x xs)
    where
      below : Memᴰ x xs × (p x ≡ true) → Memᴰ x (y ∷ xs) × (p x ≡ true)
      below k = (Memᴰ.tail k.0, k.1)

      go :
          (t : Bool) → p y ≡ t → Memᴰ x (cond t (y ∷ filter p xs) (filter p xs)) →
          (Memᴰ x (filter p xs) → Memᴰ x xs × (p x ≡ true)) → Memᴰ x (y ∷ xs) × (p x ≡ true)
      go true e h f = ⊎_elim (λ q. (Memᴰ.head q, ap p q ∙ e)) (λ k. below (f k)) (Memᴰ.cases_cons h)
      go false e h f = below (f h)

  pub member_filter : (x : A) (xs : List A) → Memᴰ x xs → p x ≡ true → Memᴰ x (filter p xs)
  member_filter x [] h k = absurd (Memᴰ.not-nil h)
  member_filter x (y ∷ xs) h k = go (p y) refl (Memᴰ.cases_cons h) (λ h. member_filter x xs h k)
    where
      go :
          (t : Bool) → p y ≡ t → (x ≡ y) ⊎ Memᴰ x xs → (Memᴰ x xs → Memᴰ x (filter p xs)) →
          Memᴰ x (cond t (y ∷ filter p xs) (filter p xs))
      go true e (inl q) f = Memᴰ.head q
      go true e (inr h) f = Memᴰ.tail (f h)
      go false e (inl q) f = absurd (true≢false (sym k ∙ ap p q ∙ e))
      go false e (inr h) f = f h

  pub filter_sublist : (xs : List A) → Sublistᴰ (filter p xs) xs
  filter_sublist [] = Sublistᴰ.slnil
  filter_sublist (x ∷ xs) = go (p x) (filter_sublist xs)
    where
      go : (t : Bool) → Sublistᴰ (filter p xs) xs → Sublistᴰ (cond t (x ∷ filter p xs) (filter p xs)) (x ∷ xs)
      go true s = Sublistᴰ.cons-cons refl s
      go false s = Sublistᴰ.cons s

  pub filter_all : (xs : List A) → all p xs ≡ true → filter p xs ≡ xs
  filter_all [] h = refl
  filter_all (x ∷ xs) h =
      rw (and_left (p x) (all p xs) h) (ap (λ (l : List A). x ∷ l) (filter_all xs (and_right (p x) (all p xs) h)))

  pub filter_none : (xs : List A) → ((x : A) → Memᴰ x xs → p x ≡ false) → filter p xs ≡ []
  filter_none [] none = refl
  filter_none (x ∷ xs) none = rw (none x (Memᴰ.head refl)) (filter_none xs (λ y there. none y (Memᴰ.tail there)))

  -- a test that agrees on all of them
  pub filter_same : (q : A → Bool) (xs : List A) → ((x : A) → Memᴰ x xs → p x ≡ q x) → filter p xs ≡ filter q xs
  filter_same q [] same = refl
  filter_same q (x ∷ xs) same =
      rw (same x (Memᴰ.head refl)) (ap (λ (ys : List A). cond (q x) (x ∷ ys) ys) (filter_same q xs (λ y there. same y (Memᴰ.tail there))))

  pub filter_append : (xs ys : List A) → filter p (xs ++ ys) ≡ filter p xs ++ filter p ys
  filter_append [] ys = refl
  filter_append (x ∷ xs) ys = go (p x) (filter_append xs ys)
    where
      go :
          (t : Bool) → filter p (xs ++ ys) ≡ filter p xs ++ filter p ys →
          (cond t (x ∷ filter p (xs ++ ys)) (filter p (xs ++ ys))) ≡ (cond t (x ∷ filter p xs) (filter p xs)) ++ filter p ys
      go true e = ap (λ (l : List A). x ∷ l) e
      go false e = e

-- ## Count

more_if : (p q : Bool) (x y : ℕ) → (p ≡ true → q ≡ true) → x ≤ y → (if p then suc x else x) ≤ (if q then suc y else y)
more_if true q x y f h = rw (f refl) (omega arith)
more_if false true x y f h = omega arith
more_if false false x y f h = h

pub count_cons {ℓ} : {A : Type ℓ} (p : A → Bool) (x : A) (xs : List A) → count p (x ∷ xs) ≡ (if p x then suc (count p xs) else count p xs)
count_cons p x xs = go (p x)
  where
    go : (t : Bool) → length (cond t (x ∷ filter p xs) (filter p xs)) ≡ (if t then suc (count p xs) else count p xs)
    go true = refl
    go false = refl

-- a weaker test is passed by no fewer
pub count_weaker {ℓ} : {A : Type ℓ} (p q : A → Bool) → ((x : A) → p x ≡ true → q x ≡ true) → (xs : List A) → count p xs ≤ count q xs
count_weaker p q f [] = omega arith
count_weaker p q f (x ∷ xs) = rw (count_cons p x xs, count_cons q x xs) (more_if (p x) (q x) _ _ (f x) (count_weaker p q f xs))

-- among those that pass a test, two tests that agree on them are passed by as many
pub count_same {ℓ} :
    {A : Type ℓ} (q p p' : A → Bool) (xs : List A) → all q xs ≡ true → ((x : A) → q x ≡ true → p x ≡ p' x) → count p xs ≡ count p' xs
count_same q p p' [] h same = refl
count_same q p p' (x ∷ xs) h same =
    let here = same x (and_left (q x) (all q xs) h) in
    rw (count_cons p x xs, count_cons p' x xs, here, count_same q p p' xs (and_right (q x) (all q xs) h) same)

-- a test that all pass counts all
pub count_all {ℓ} : {A : Type ℓ} (p : A → Bool) → ((x : A) → p x ≡ true) → (xs : List A) → count p xs ≡ length xs
count_all p h [] = refl
count_all p h (x ∷ xs) = count_cons p x xs ∙ rw (h x, count_all p h xs)

pub count_none {ℓ} : {A : Type ℓ} (xs : List A) → count (λ x. false) xs ≡ 0
count_none [] = refl
count_none (x ∷ xs) = count_none xs

-- what passes a test is among what passes a weaker one
pub filter_within {ℓ} : {A : Type ℓ} (p q : A → Bool) → ((x : A) → p x ≡ true → q x ≡ true) → (xs : List A) → filter p (filter q xs) ≡ filter p xs
filter_within p q h [] = refl
filter_within p q h (x ∷ xs) = go (q x) refl (p x) refl (filter_within p q h xs)
  where
    go :
        (s : Bool) → q x ≡ s → (t : Bool) → p x ≡ t → filter p (filter q xs) ≡ filter p xs →
        filter p (cond s (x ∷ filter q xs) (filter q xs)) ≡ cond (p x) (x ∷ filter p xs) (filter p xs)
    go true e t e' more = ap (λ ys. cond (p x) (x ∷ ys) ys) more
    go false e true e' more = clash (h x e') e
    go false e false e' more = more ∙ sym (ap (λ t. cond t (x ∷ filter p xs) (filter p xs)) e')

-- of those that pass a test, those that pass another pass both
pub count_filter {ℓ} : {A : Type ℓ} (q p : A → Bool) (xs : List A) → count p (filter q xs) ≡ count (λ x. q x && p x) xs
count_filter q p [] = refl
count_filter q p (x ∷ xs) = go (q x) refl (count_filter q p xs)
  where
    go :
        (t : Bool) → q x ≡ t → count p (filter q xs) ≡ count (λ x. q x && p x) xs →
        count p (cond t (x ∷ filter q xs) (filter q xs)) ≡ count (λ x. q x && p x) (x ∷ xs)
    go true e h = count_cons p x (filter q xs) ∙ rw h (sym (count_cons (λ x. q x && p x) x xs ∙ rw e))
    go false e h = h ∙ sym (count_cons (λ x. q x && p x) x xs ∙ rw e)

pub count_append : {A : Type 0} (p : A → Bool) (xs ys : List A) → count p (xs ++ ys) ≡ count p xs + count p ys
count_append p xs ys = ap length (filter_append p xs ys) ∙ length-append (filter p xs) (filter p ys)

pub count_map : {A B : Type 0} (p : B → Bool) (f : A → B) (xs : List A) → count p (map f xs) ≡ count (λ x. p (f x)) xs
count_map p f [] = refl
count_map p f (x ∷ xs) = count_cons p (f x) (map f xs) ∙ rw (count_map p f xs) (sym (count_cons (λ x. p (f x)) x xs))

pub not_counted : {A : Type 0} (p : A → Bool) (xs : List A) → count (λ x. not (p x)) xs + count p xs ≡ length xs
not_counted p [] = refl
not_counted p (x ∷ xs) = rw (count_cons p x xs, count_cons (λ x. not (p x)) x xs) (go (p x) (not_counted p xs))
  where
    go : (t : Bool) → count (λ x. not (p x)) xs + count p xs ≡ length xs →
        (if not t then suc (count (λ x. not (p x)) xs) else count (λ x. not (p x)) xs) + (if t then suc (count p xs) else count p xs) ≡ suc (length xs)
    go true e = omega arith
    go false e = omega arith

pub count_at_most : {A : Type 0} (p : A → Bool) (xs : List A) → count p xs ≤ length xs
count_at_most p xs = omega (arith, not_counted p xs)

either_first : (s t : Bool) (k : ℕ) →
    (if s then suc (if t then suc k else k) else (if t then suc k else k)) ≡ (if t then suc (if s then suc k else k) else (if s then suc k else k))
either_first true true k = refl
either_first true false k = refl
either_first false true k = refl
either_first false false k = refl

pub permuted_length : {A : Type 0} {xs ys : List A} → Permᴰ xs ys → length xs ≡ length ys
permuted_length Permᴰ.nil = refl
permuted_length (Permᴰ.cons e d) = ap suc (permuted_length d)
permuted_length (Permᴰ.swap e f) = refl
permuted_length (Permᴰ.trans d e) = permuted_length d ∙ permuted_length e

module _ {A : Type 0} (p : A → Bool) where
  count_two : (x y : A) (xs : List A) → count p (x ∷ (y ∷ xs)) ≡ (if p x then suc (if p y then suc (count p xs) else count p xs) else (if p y then suc (count p xs) else count p xs))
  count_two x y xs = count_cons p x (y ∷ xs) ∙ ap (λ k. if p x then suc k else k) (count_cons p y xs)

  -- a permutation has as many that pass
  pub permuted_count : {xs ys : List A} → Permᴰ xs ys → count p xs ≡ count p ys
  permuted_count Permᴰ.nil = refl
  permuted_count (Permᴰ.cons {a = a} {b = b} {l₁ = xs} {l₂ = ys} e d) =
      count_cons p a xs ∙ ap₂ (λ x k. if p x then suc k else k) e (permuted_count d) ∙ sym (count_cons p b ys)
  permuted_count (Permᴰ.swap {a = a} {b = b} {a' = a'} {b' = b'} {l = xs} e f) =
      ap₂ (λ x y. count p (x ∷ (y ∷ xs))) e f
      ∙ count_two b' a' xs ∙ either_first (p b') (p a') (count p xs) ∙ sym (count_two a' b' xs)
  permuted_count (Permᴰ.trans d e) = permuted_count d ∙ permuted_count e

-- ## Flat map

module _ {A B : Type 0} (f : A → List B) where
  pub flat_map_member : (y : B) (xs : List A) → Memᴰ y (flat_map xs f) → (x : A) × Memᴰ x xs × Memᴰ y (f x)
  flat_map_member y [] h = absurd (Memᴰ.not-nil h)
  flat_map_member y (x ∷ xs) h = ⊎_elim (λ h. (x, Memᴰ.head refl, h)) (λ h. below (flat_map_member y xs h)) (Memᴰ.append_cases (f x) h)
    where
      below : ((z : A) × Memᴰ z xs × Memᴰ y (f z)) → (z : A) × Memᴰ z (x ∷ xs) × Memᴰ y (f z)
      below k = (k.0, Memᴰ.tail k.1, k.2)

  pub member_flat_map : (y : B) (x : A) (xs : List A) → Memᴰ x xs → Memᴰ y (f x) → Memᴰ y (flat_map xs f)
  member_flat_map y x [] h k = absurd (Memᴰ.not-nil h)
  member_flat_map y x (z ∷ xs) h k =
      ⊎_elim (λ e. Memᴰ.append_left (flat_map xs f) (subst (λ x. Memᴰ y (f x)) e k)) (λ h. Memᴰ.append_right (f z) (member_flat_map y x xs h k)) (Memᴰ.cases_cons h)

pub flat_map_append : {A B : Type 0} (f : A → List B) (xs ys : List A) → flat_map (xs ++ ys) f ≡ flat_map xs f ++ flat_map ys f
flat_map_append f [] ys = refl
flat_map_append f (x ∷ xs) ys = ap (λ l. f x ++ l) (flat_map_append f xs ys) ∙ sym (append_assoc (f x) _ _)

-- ## Range

pub range_member : (x first more : ℕ) → Memᴰ x (range first more) → (first ≤ x) × (x < first + more)
range_member x first zero h = absurd (Memᴰ.not-nil h)
range_member x first (suc more) h =
    ⊎_elim (λ e. omega arith) (λ h. let k = range_member x (suc first) more h in omega arith) (Memᴰ.cases_cons h)

pub member_range : (x first more : ℕ) → first ≤ x → x < first + more → Memᴰ x (range first more)
member_range x first zero low high = absurd (omega arith)
member_range x first (suc more) low high = go (ℕ_discrete x first) (member_range x (suc first) more)
  where
    go : Dec (x ≡ first) → (suc first ≤ x → x < suc first + more → Memᴰ x (range (suc first) more)) → Memᴰ x (range first (suc more))
    go (yes e) f = Memᴰ.head e
    go (no n) f = Memᴰ.tail (f (omega arith) (omega arith))

-- the library's, by its own step
pub range_same : (first more : ℕ) → range first more ≡ range_with_len first more
range_same first zero = refl
range_same first (suc more) = ap (λ l. first ∷ l) (range_same (suc first) more ∙ ap (λ n. range_with_len n more) (sym (add-one first)))

pub range_last : (first more : ℕ) → range first (suc more) ≡ range first more ++ (first + more) ∷ []
range_last first zero = rw add-zero refl
range_last first (suc more) = ap (λ xs. first ∷ xs) (range_last (suc first) more ∙ rw (add-suc, suc-add) refl)

pub range_length : (first more : ℕ) → length (range first more) ≡ more
range_length first zero = refl
range_length first (suc more) = ap suc (range_length (suc first) more)

-- what passes at each number of a range passes at any
pub all_range : (p : ℕ → Bool) (first more n : ℕ) → all p (range first more) ≡ true → first ≤ n → n < first + more → p n ≡ true
all_range p first zero n h low high = absurd (omega arith)
all_range p first (suc more) n h low high =
    let rest = all p (range (suc first) more) in
    either (eqb first n) (λ e. subst (λ k. p k ≡ true) (eqb-true first n e) (and_left (p first) rest h))
    (λ e. all_range p (suc first) more n (and_right (p first) rest h) (omega (arith, eqb-false first n e)) (omega arith))

pub range_at : {A : Type 0} (f : ℕ → A) (more n : ℕ) (d : A) → n < more → get_or (map f (range 0 more)) n d ≡ f n
range_at f more n d h = rw zero-add at (go 0 more n h)
  where
    go : (first more n : ℕ) → n < more → get_or (map f (range first more)) n d ≡ f (first + n)
    go first zero n h = absurd (not-suc-le-zero h)
    go first (suc more) zero h = rw add-zero
    go first (suc more) (suc n) h = rw (add-suc, ← suc-add) (go (suc first) more n (le_of_suc-le-suc h))

pub same_on_range : (f g : ℕ → ℕ) (first more : ℕ) → ((i : ℕ) → i < first + more → f i ≡ g i) → map f (range first more) ≡ map g (range first more)
same_on_range f g first zero same = refl
same_on_range f g first (suc more) same =
    ap₂ ◌∷◌ (same first (omega arith)) (same_on_range f g (suc first) more (λ i h. same i (omega arith)))

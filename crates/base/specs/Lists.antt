-- Lists: non_empty, filter, count, all, find index, range, flat map, equality. `filter` and `all` are for lists of any level; for the lists
-- of this repository they compute to the library's `filter` and `list_all`, in whose names the crates above speak.
-- Assumes nothing.
use Rattle.std.specs.Prelude.{ℕ, zero, suc, Bool, true, false, ◌&&◌, List, [], ◌∷◌, ◌++◌, length, cond}

-- of length 1 or more
abbrev pub non_empty {ℓ} : {A : Type ℓ} → List A → Bool
non_empty [] = false
non_empty (x ∷ xs) = true

-- those that pass a test
abbrev pub filter {ℓ} : {A : Type ℓ} → (A → Bool) → List A → List A
filter p [] = []
filter p (x ∷ xs) = cond (p x) (x ∷ filter p xs) (filter p xs)

abbrev pub count {ℓ} : {A : Type ℓ} → (A → Bool) → List A → ℕ
count p xs = length (filter p xs)

abbrev pub all {ℓ} : {A : Type ℓ} → (A → Bool) → List A → Bool
all p [] = true
all p (x ∷ xs) = p x && all p xs

-- the index of the first that passes a test, and the length where none does
abbrev pub find_index {ℓ} : {A : Type ℓ} → (A → Bool) → List A → ℕ
find_index p [] = 0
find_index p (x ∷ xs) = cond (p x) 0 (suc (find_index p xs))

-- as many numbers as said, from the first on
abbrev pub range : ℕ → ℕ → List ℕ
range first zero = []
range first (suc more) = first ∷ range (suc first) more

abbrev pub flat_map : {A B : Type 0} → List A → (A → List B) → List B
flat_map [] f = []
flat_map (x ∷ xs) f = f x ++ flat_map xs f

-- as long as each other, and equal element by element
abbrev pub equal_lists : {A : Type 0} → (A → A → Bool) → List A → List A → Bool
equal_lists equal [] [] = true
equal_lists equal [] (y ∷ ys) = false
equal_lists equal (x ∷ xs) [] = false
equal_lists equal (x ∷ xs) (y ∷ ys) = equal x y && equal_lists equal xs ys

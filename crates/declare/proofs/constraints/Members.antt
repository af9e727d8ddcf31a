-- The constraints by membership and order: each that there is, in the stated order, once; and how many there are.
-- Assumes nothing.
use Prim.Native.Nat.{ℕ, zero, suc, ◌+◌, ◌*◌, ◌≤◌, ◌<◌}
use mathlib.Core.Path.{◌≡◌, refl, sym, ap, ap₂, subst, ◌∙◌, fun_ext}
use mathlib.Core.Logic.{◌⊎◌, inl, inr, ◌↔◌, ∥∥₁_elim}
use mathlib.Core.Bool.{Bool, true, false, not, Bool-set}
use mathlib.Core.List.Memᴰ
use mathlib.Core.List.Pairwise
use mathlib.Core.List.{List, [], ◌∷◌, ◌++◌, Memᴰ, Mem, Pairwise, Pairwise-singleton, Pairwise-append, rel_of_Pairwise-cons, not-mem-nil, mem-cons_self, mem-cons_of_mem, mem_of_ne_of_mem, mem-cast}
use native.Mathlib.Omega.{arith}
use native.Mathlib.Decide.{ℕ_discrete}
use native.Mathlib.Bridge.{le_prop}
use native.Mathlib.Nat.{ℕ_set, mul_assoc, mul-suc, suc-mul, mul-add, mul-le-mul}
use borrow.Author.Tests.{le-leb, lt-leb, eq-eqb, ne_eqb, lt-ltb, le-ltb}
use lib.Dec.{eqb, ltb}
use lib.ListN.{length, length-append}
use Rattle.std.specs.Prelude.{if◌then◌else◌}
use Rattle.std.specs.List.{filter}
use Rattle.base.specs.Lists.{count, range, flat_map}
use Rattle.base.proofs.Lists.{filter_member, member_filter, filter_sublist, count_cons, not_counted, flat_map_member, member_flat_map, flat_map_append, range_member, member_range, range_length}
use Rattle.declare.specs.declared.constraints.Constraint.{Constraint}
use Rattle.declare.specs.Constraints.{constraint, pairs, constraints, AtMostAll, Over, Precedes, Exactly}

-- the constraints on a and b, on a and any b, and on any a and b
abbrev cell : ℕ → ℕ → ℕ → List Constraint
cell template a b = if pairs template a b then constraint template a b ∷ [] else []

abbrev row : ℕ → ℕ → ℕ → List Constraint
row n template a = flat_map (range 0 n) (cell template a)

abbrev grid : ℕ → ℕ → List Constraint
grid n template = flat_map (range 0 n) (row n template)

-- ## The constraints: cells of a template's grid, a row for each a

record InCell (t a b : ℕ) (c : Constraint) : Type 0 where
  is_template : c.template ≡ t
  is_a : c.a ≡ a
  is_b : c.b ≡ b
  paired : pairs c.template c.a c.b ≡ true

in_cell : (t a b : ℕ) (c : Constraint) → Memᴰ c (cell t a b) → InCell t a b c
in_cell t a b c = go (pairs t a b) refl
  where
    go : (p : Bool) → pairs t a b ≡ p → Memᴰ c (if p then constraint t a b ∷ [] else []) → InCell t a b c
    go true e h =
        let same = Memᴰ.eq_of_singleton h in
        record { is_template = ap (λ c. c.template) same; is_a = ap (λ c. c.a) same; is_b = ap (λ c. c.b) same; paired = ap (λ c. pairs c.template c.a c.b) same ∙ e }
    go false e h = absurd (Memᴰ.not-nil h)

cell_has : (c : Constraint) → pairs c.template c.a c.b ≡ true → Memᴰ c (cell c.template c.a c.b)
cell_has c h = rw h (Memᴰ.head refl)

module _ (n : ℕ) where
  pub constraints_over : (c : Constraint) → Memᴰ c (constraints n) → Over n c
  unfolding constraints
  constraints_over c h =
      let (t, from-t, in-t) = flat_map_member (grid n) c (range 1 24) h in
      let (a, from-a, in-a) = flat_map_member (row n t) c (range 0 n) in-t in
      let (b, from-b, in_b) = flat_map_member (cell t a) c (range 0 n) in-a in
      let here = in_cell t a b c in_b in
      let of-t = range_member t 1 24 from-t in
      let of-a = range_member a 0 n from-a in
      let of-b = range_member b 0 n from-b in
      record { from_1 = omega arith; to_24 = omega arith; a_declared = omega arith; b_declared = omega arith; paired = here.paired }

  over_constraints : (c : Constraint) → Over n c → Memᴰ c (constraints n)
  unfolding constraints
  over_constraints c over =
      let in_row = member_flat_map (cell c.template c.a) c c.b (range 0 n) (member_range c.b 0 n (omega arith) (omega arith)) (cell_has c over.paired) in
      let in-grid = member_flat_map (row n c.template) c c.a (range 0 n) (member_range c.a 0 n (omega arith) (omega arith)) in_row in
      member_flat_map (grid n) c c.template (range 1 24) (member_range c.template 1 24 over.from_1 (omega arith)) in-grid

-- ## Facts of which there is at most one proof

disjoint_prop : {A B : Type 0} → IsProp A → IsProp B → (A → B → ⊥) → IsProp (A ⊎ B)
disjoint_prop p q f (inl x) (inl y) = ap inl (p x y)
disjoint_prop p q f (inl x) (inr y) = absurd (f x y)
disjoint_prop p q f (inr x) (inl y) = absurd (f y x)
disjoint_prop p q f (inr x) (inr y) = ap inr (q x y)

pair_prop : {A B : Type 0} → IsProp A → IsProp B → IsProp (A × B)
pair_prop p q x y = λ i. (p x.0 y.0 i, q x.1 y.1 i)

precedes_prop : (c d : Constraint) → IsProp (Precedes c d)
precedes_prop c d =
    disjoint_prop le_prop
    (pair_prop (ℕ_set _ _) (disjoint_prop le_prop (pair_prop (ℕ_set _ _) le_prop) (λ h k. let e = k.0 in omega arith)))
    (λ h k. let e = k.0 in omega arith)

over_prop : (n : ℕ) (c : Constraint) → IsProp (Over n c)
over_prop n c x y =
    λ i.
    record {
      from_1 = le_prop x.from_1 y.from_1 i;
      to_24 = le_prop x.to_24 y.to_24 i;
      a_declared = le_prop x.a_declared y.a_declared i;
      b_declared = le_prop x.b_declared y.b_declared i;
      paired = Bool-set _ _ x.paired y.paired i;
    }

exactly_prop : (n : ℕ) (c : Constraint) (t : Bool) → IsProp (Over n c × (t ≡ true))
exactly_prop n c t = pair_prop (over_prop n c) (Bool-set t true)

filter_members :
    (n : ℕ) (passes : Constraint → Bool) (c : Constraint) →
    Mem c (filter passes (constraints n)) ↔ (Over n c × (passes c ≡ true))
filter_members n passes c =
    (λ h. ∥∥₁_elim h (exactly_prop n c _) there, λ k. ∣ member_filter passes c (constraints n) (over_constraints n c k.0) k.1 ∣₁)
  where
    there : Memᴰ c (filter passes (constraints n)) → Over n c × (passes c ≡ true)
    there h = let k = filter_member passes c (constraints n) h in (constraints_over n c k.0, k.1)

-- ## Order

module _ {B : Type 0} (S : B → B → Type 0) (one : (c d : B) → IsProp (S c d)) (f : ℕ → List B)
    (within : (x : ℕ) → Pairwise S (f x))
    (across : (x y : ℕ) → x < y → (c d : B) → Memᴰ c (f x) → Memᴰ d (f y) → S c d) where
  flat_map_ordered : (first more : ℕ) → Pairwise S (flat_map (range first more) f)
  flat_map_ordered first zero = Pairwise.nil
  flat_map_ordered first (suc more) =
      (Pairwise-append one).1 (within first, flat_map_ordered (suc first) more, λ c in_c d in-d. ∥∥₁_elim in_c (one c d) (λ in_c. ∥∥₁_elim in-d (one c d) (go c d in_c)))
    where
      go : (c d : B) → Memᴰ c (f first) → Memᴰ d (flat_map (range (suc first) more) f) → S c d
      go c d in_c in-d =
          let (y, from-y, in-y) = flat_map_member f d (range (suc first) more) in-d in
          across first y (range_member y (suc first) more from-y).0 c d in_c in-y

module _ (n : ℕ) where
  row_ordered : (t a : ℕ) → Pairwise Precedes (row n t a)
  row_ordered t a = flat_map_ordered Precedes precedes_prop (cell t a) alone across 0 n
    where
      alone : (b : ℕ) → Pairwise Precedes (cell t a b)
      alone b = go (pairs t a b)
        where
          go : (p : Bool) → Pairwise Precedes (if p then constraint t a b ∷ [] else [])
          go true = Pairwise-singleton Precedes _
          go false = Pairwise.nil

      across : (b b' : ℕ) → b < b' → (c d : Constraint) → Memᴰ c (cell t a b) → Memᴰ d (cell t a b') → Precedes c d
      across b b' h c d in_c in-d =
          let x = in_cell t a b c in_c in
          let y = in_cell t a b' d in-d in
          inr (omega arith, inr (omega arith, omega arith))

  in_row : (t a : ℕ) (c : Constraint) → Memᴰ c (row n t a) → (c.template ≡ t) × (c.a ≡ a)
  in_row t a c h =
      let (b, from-b, in_b) = flat_map_member (cell t a) c (range 0 n) h in
      let here = in_cell t a b c in_b in
      (here.is_template, here.is_a)

  grid_ordered : (t : ℕ) → Pairwise Precedes (grid n t)
  grid_ordered t = flat_map_ordered Precedes precedes_prop (row n t) (row_ordered t) across 0 n
    where
      across : (a a' : ℕ) → a < a' → (c d : Constraint) → Memᴰ c (row n t a) → Memᴰ d (row n t a') → Precedes c d
      across a a' h c d in_c in-d =
          let x = in_row t a c in_c in
          let y = in_row t a' d in-d in
          inr (omega arith, inl (omega arith))

  in-grid : (t : ℕ) (c : Constraint) → Memᴰ c (grid n t) → c.template ≡ t
  in-grid t c h =
      let (a, from-a, in-a) = flat_map_member (row n t) c (range 0 n) h in
      (in_row t a c in-a).0

  constraints_ordered : Pairwise Precedes (constraints n)
  unfolding constraints
  constraints_ordered = flat_map_ordered Precedes precedes_prop (grid n) grid_ordered across 1 24
    where
      across : (t t' : ℕ) → t < t' → (c d : Constraint) → Memᴰ c (grid n t) → Memᴰ d (grid n t') → Precedes c d
      across t t' h c d in_c in-d =
          let x = in-grid t c in_c in
          let y = in-grid t' d in-d in
          inl (omega arith)

pub filter_exactly : (n : ℕ) (passes : Constraint → Bool) → Exactly n passes (filter passes (constraints n))
filter_exactly n passes =
    record {
      members = filter_members n passes;
      in_order = Pairwise.sublistᴰ (filter_sublist passes (constraints n)) (constraints_ordered n);
    }

-- ## No other list is exactly this one

never_both : (c d : Constraint) → Precedes c d → Precedes d c → ⊥
never_both c d (inl h) (inl k) = omega arith
never_both c d (inl h) (inr k) = omega (arith, k.0)
never_both c d (inr h) (inl k) = omega (arith, h.0)
never_both c d (inr h) (inr k) = go h.1 k.1
  where
    go : (c.a < d.a) ⊎ ((c.a ≡ d.a) × (c.b < d.b)) → (d.a < c.a) ⊎ ((d.a ≡ c.a) × (d.b < c.b)) → ⊥
    go (inl h) (inl k) = omega arith
    go (inl h) (inr k) = omega (arith, k.0)
    go (inr h) (inl k) = omega (arith, h.0)
    go (inr h) (inr k) = omega (arith, h.1, k.1)

equal? : (c d : Constraint) → Dec (c ≡ d)
equal? c d = go (ℕ_discrete c.template d.template) (ℕ_discrete c.a d.a) (ℕ_discrete c.b d.b)
  where
    go : Dec (c.template ≡ d.template) → Dec (c.a ≡ d.a) → Dec (c.b ≡ d.b) → Dec (c ≡ d)
    go (yes p) (yes q) (yes r) = yes (λ i. record { template = p i; a = q i; b = r i })
    go (yes p) (yes q) (no n) = no (λ e. n (ap (λ c. c.b) e))
    go (yes p) (no n) r = no (λ e. n (ap (λ c. c.a) e))
    go (no n) q r = no (λ e. n (ap (λ c. c.template) e))

-- past the heads
past : (c : Constraint) (cs ds : List Constraint) → Pairwise Precedes (c ∷ cs) → ((x : Constraint) → Mem x (c ∷ cs) → Mem x (c ∷ ds)) →
    (x : Constraint) → Mem x cs → Mem x ds
past c cs ds order within x h = mem_of_ne_of_mem (λ e. never_both c c (self e) (self e)) (within x (mem-cons_of_mem c h))
  where
    self : x ≡ c → Precedes c c
    self e = rel_of_Pairwise-cons order (mem-cast (sym e) h)

ordered_equal :
    (cs ds : List Constraint) → Pairwise Precedes cs → Pairwise Precedes ds →
    ((x : Constraint) → Mem x cs → Mem x ds) → ((x : Constraint) → Mem x ds → Mem x cs) → cs ≡ ds
ordered_equal [] [] p q f g = refl
ordered_equal [] (d ∷ ds) p q f g = absurd (not-mem-nil (g d mem-cons_self))
ordered_equal (c ∷ cs) [] p q f g = absurd (not-mem-nil (f c mem-cons_self))
ordered_equal (c ∷ cs) (d ∷ ds) p q f g = go (equal? c d) (ordered_equal cs ds (Pairwise.of_cons p) (Pairwise.of_cons q))
  where
    head_is : {y z : Constraint} → y ≡ z → (x : Constraint) (l : List Constraint) → Mem x (y ∷ l) → Mem x (z ∷ l)
    head_is e x l = subst (λ z. Mem x (z ∷ l)) e

    go :
        Dec (c ≡ d) →
        (((x : Constraint) → Mem x cs → Mem x ds) → ((x : Constraint) → Mem x ds → Mem x cs) → cs ≡ ds) →
        c ∷ cs ≡ d ∷ ds
    go (yes e) rest =
        ap₂ ◌∷◌ e (rest (past c cs ds p (λ x h. head_is (sym e) x ds (f x h))) (past d ds cs q (λ x h. head_is e x cs (g x h))))
    go (no n) rest =
        absurd
        (never_both c d (rel_of_Pairwise-cons p (mem_of_ne_of_mem (λ e. n (sym e)) (g d mem-cons_self)))
        (rel_of_Pairwise-cons q (mem_of_ne_of_mem n (f c mem-cons_self))))

pub exactly_one : (n : ℕ) (passes : Constraint → Bool) (cs ds : List Constraint) → Exactly n passes cs → Exactly n passes ds → cs ≡ ds
exactly_one n passes cs ds p q =
    ordered_equal cs ds p.in_order q.in_order (λ x h. (q.members x).1 ((p.members x).0 h)) (λ x h. (p.members x).1 ((q.members x).0 h))

-- ## How many constraints there are

module _ {B : Type 0} (f : ℕ → List B) where
  next_length : (first more : ℕ) → length (flat_map (range first (suc more)) f) ≡ length (f first) + length (flat_map (range (suc first) more) f)
  next_length first more = length-append (f first) _

  -- lists of which each is as long
  even_lengths :
      (m c d first more : ℕ) → ((x : ℕ) → first ≤ x → x < first + more → m * length (f x) + c ≡ d) →
      m * length (flat_map (range first more) f) + more * c ≡ more * d
  even_lengths m c d first zero h = omega arith
  even_lengths m c d first (suc more) h =
      rw (next_length first more, mul-add, suc-mul more c, suc-mul more d)
      (omega (arith, h first (omega arith) (omega arith), even_lengths m c d (suc first) more (λ x low high. h x (omega arith) (omega arith))))

  -- lists of which each is one shorter than the one before, to nothing
  falling_lengths :
      (first more : ℕ) → ((x : ℕ) → first ≤ x → x < first + more → length (f x) + suc x ≡ first + more) →
      2 * length (flat_map (range first more) f) + more ≡ more * more
  falling_lengths first zero h = refl
  falling_lengths first (suc more) h =
      let shorter : (x : ℕ) → suc first ≤ x → x < suc first + more → length (f x) + suc x ≡ suc first + more =
      λ x low high. omega (arith, h x (omega arith) (omega arith)) in
      rw (next_length first more, suc-mul more (suc more), mul-suc more more)
      (omega (arith, h first (omega arith) (omega arith), falling_lengths (suc first) more shorter))

module _ (p : ℕ → Bool) (make : ℕ → Constraint) where
  cells_count : (first more : ℕ) → length (flat_map (range first more) (λ b. if p b then make b ∷ [] else [])) ≡ count p (range first more)
  cells_count first zero = refl
  cells_count first (suc more) = go (p first) (cells_count (suc first) more)
    where
      go :
          (t : Bool) → length (flat_map (range (suc first) more) (λ b. if p b then make b ∷ [] else [])) ≡ count p (range (suc first) more) →
          length ((if t then make first ∷ [] else []) ++ flat_map (range (suc first) more) (λ b. if p b then make b ∷ [] else []))
          ≡ length (if t then first ∷ filter p (range (suc first) more) else filter p (range (suc first) more))
      go true e = ap suc e
      go false e = e

equal_below : (a first more : ℕ) → a < first → count (eqb a) (range first more) ≡ 0
equal_below a first zero h = refl
equal_below a first (suc more) h =
    rw (count_cons (eqb a) first (range (suc first) more), ne_eqb a first (omega arith)) (equal_below a (suc first) more (omega arith))

equal_once : (a first more : ℕ) → first ≤ a → a < first + more → count (eqb a) (range first more) ≡ 1
equal_once a first zero low high = absurd (omega arith)
equal_once a first (suc more) low high = rw (count_cons (eqb a) first (range (suc first) more)) (go (ℕ_discrete a first) (equal_once a (suc first) more))
  where
    go : Dec (a ≡ first) → (suc first ≤ a → a < suc first + more → count (eqb a) (range (suc first) more) ≡ 1) →
        (if eqb a first then suc (count (eqb a) (range (suc first) more)) else count (eqb a) (range (suc first) more)) ≡ 1
    go (yes e) f = rw (eq-eqb a first e, equal_below a (suc first) more (omega arith))
    go (no n) f = rw (ne_eqb a first n) (f (omega arith) (omega arith))

above_all : (a first more : ℕ) → a < first → count (ltb a) (range first more) ≡ more
above_all a first zero h = refl
above_all a first (suc more) h =
    rw (count_cons (ltb a) first (range (suc first) more), lt-ltb a first h) (ap suc (above_all a (suc first) more (omega arith)))

above_count : (a first more : ℕ) → first ≤ a → a < first + more → count (ltb a) (range first more) + suc a ≡ first + more
above_count a first zero low high = absurd (omega arith)
above_count a first (suc more) low high = rw (count_cons (ltb a) first (range (suc first) more), le-ltb a first low) (go (ℕ_discrete a first) (above_count a (suc first) more))
  where
    go : Dec (a ≡ first) → (suc first ≤ a → a < suc first + more → count (ltb a) (range (suc first) more) + suc a ≡ suc first + more) →
        count (ltb a) (range (suc first) more) + suc a ≡ first + suc more
    go (yes e) f = omega (arith, above_all a (suc first) more (omega arith))
    go (no n) f = omega (arith, f (omega arith) (omega arith))

module _ (n : ℕ) where
  row_length : (t a : ℕ) (q : ℕ → Bool) → ((b : ℕ) → pairs t a b ≡ q b) → length (row n t a) ≡ count q (range 0 n)
  row_length t a q e =
      cells_count (pairs t a) (λ b. constraint t a b) 0 n ∙ ap (λ q. count q (range 0 n)) (fun_ext e)

  -- templates 1 to 8, 9 to 12, and 13 to 24
  one_each : (t : ℕ) → t ≤ 8 → 1 * length (grid n t) + 0 ≡ n
  one_each t h = omega (arith, even_lengths (row n t) 1 0 1 0 n one)
    where
      one : (a : ℕ) → 0 ≤ a → a < 0 + n → 1 * length (row n t a) + 0 ≡ 1
      one a low high = omega (arith, row_length t a (eqb a) (λ b. rw (le-leb t 8 h)), equal_once a 0 n low high)

  half : (t : ℕ) → 9 ≤ t → t ≤ 12 → 2 * length (grid n t) + n ≡ n * n
  half t low high = falling_lengths (row n t) 0 n above
    where
      above : (a : ℕ) → 0 ≤ a → a < 0 + n → length (row n t a) + suc a ≡ 0 + n
      above a low-a high-a =
          omega (arith, row_length t a (ltb a) (λ b. rw (lt-leb t 8 (omega arith), le-leb t 12 high)), above_count a 0 n low-a high-a)

  all_but_one : (t : ℕ) → 13 ≤ t → 1 * length (grid n t) + n ≡ n * n
  all_but_one t low = omega (arith, even_lengths (row n t) 1 1 n 0 n others)
    where
      others : (a : ℕ) → 0 ≤ a → a < 0 + n → 1 * length (row n t a) + 1 ≡ n
      others a low-a high-a =
          omega (arith, row_length t a (λ b. not (eqb a b)) (λ b. rw (lt-leb t 8 (omega arith), lt-leb t 12 (omega arith))), equal_once a 0 n low-a high-a, not_counted (eqb a) (range 0 n), range_length 0 n)

  -- 8 n and 2 n (n - 1) and 12 n (n - 1) of them
  pub constraints_number : length (constraints n) + 6 * n ≡ 14 * n * n
  unfolding constraints
  constraints_number =
      let ones = even_lengths (grid n) 1 0 n 1 8 (λ t low high. one_each t (omega arith)) in
      let halves = even_lengths (grid n) 2 n (n * n) 9 4 (λ t low high. half t low (omega arith)) in
      let others = even_lengths (grid n) 1 n (n * n) 13 12 (λ t low high. all_but_one t low) in
      let split : flat_map (range 1 24) (grid n) ≡ flat_map (range 1 8) (grid n) ++ (flat_map (range 9 4) (grid n) ++ flat_map (range 13 12) (grid n)) =
      flat_map_append (grid n) (range 1 8) (range 9 16) ∙ ap (λ l. flat_map (range 1 8) (grid n) ++ l) (flat_map_append (grid n) (range 9 4) (range 13 12)) in
      rw (mul_assoc 14 n n)
      (omega (arith, ap length split ∙ length-append (flat_map (range 1 8) (grid n)) _, length-append (flat_map (range 9 4) (grid n)) (flat_map (range 13 12) (grid n))))

-- all constraints over 32 activities are few
pub few_numbers : (n k : ℕ) → n ≤ 32 → AtMostAll n k → k ≤ 14336
few_numbers n k few all = let fewer : 14 * n ≤ 448 = omega arith in omega (arith, all, mul-le-mul fewer few)

-- The constraints (document 01: the rules) over n activities: which there are, and their order.
-- Assumes nothing.
use Rattle.std.specs.Prelude.{ℕ, ◌+◌, ◌*◌, ◌≤◌, ◌<◌, ◌≡◌, ◌⊎◌, ◌↔◌, Bool, true, not, eqb, leb, ltb, if◌then◌else◌}
use mathlib.Core.List.{List, [], ◌∷◌, Mem, Pairwise}
use Rattle.base.specs.Lists.{range, flat_map}
use Rattle.declare.specs.declared.constraints.Constraint.{Constraint}

abbrev pub constraint : ℕ → ℕ → ℕ → Constraint
constraint template a b = record { template = template; a = a; b = b }

-- templates 1 to 8 give a constraint for each a below n, 9 to 12 for each a < b below n, 13 to 24 for each a and b below n, a and b
-- different; b repeats a for templates 1 to 8
abbrev pub pairs : ℕ → ℕ → ℕ → Bool
pairs template a b = if leb template 8 then eqb a b else if leb template 12 then ltb a b else not (eqb a b)

-- the constraints over n activities; order: template, then a, then b, rising
unfoldable pub constraints : ℕ → List Constraint
constraints n =
    flat_map (range 1 24) λ template.
    flat_map (range 0 n) λ a.
    flat_map (range 0 n) λ b.
    if pairs template a b then constraint template a b ∷ [] else []

-- no more than all of them, 14 n n - 6 n
abbrev pub AtMostAll : ℕ → ℕ → Type 0
AtMostAll n k = k + 6 * n ≤ 14 * n * n

-- ## The same by membership and order

-- what the constraints over n activities are
pub record Over (n : ℕ) (c : Constraint) : Type 0 where
  pub from_1 : 1 ≤ c.template
  pub to_24 : c.template ≤ 24
  pub a_declared : c.a < n
  pub b_declared : c.b < n
  pub paired : pairs c.template c.a c.b ≡ true

-- the stated order, in which nothing stands twice: template, then a, then b, rising
abbrev pub Precedes : Constraint → Constraint → Type 0
Precedes c d =
    (c.template < d.template)
    ⊎ ((c.template ≡ d.template) × ((c.a < d.a) ⊎ ((c.a ≡ d.a) × (c.b < d.b))))

-- the list has exactly the constraints over n activities that pass, in the stated order, each once
pub record Exactly (n : ℕ) (passes : Constraint → Bool) (cs : List Constraint) : Type 0 where
  pub members : (c : Constraint) → Mem c cs ↔ (Over n c × (passes c ≡ true))
  pub in_order : Pairwise Precedes cs

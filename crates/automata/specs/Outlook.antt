-- What is still open for a constraint (document 02: a rule) while its trace grows: one of four states.
-- Assumes nothing.
use Rattle.std.specs.Prelude.{ℕ, zero, suc, ◌≡◌, Bool, true, false, List, ◌++◌}
use Rattle.declare.specs.declared.constraints.Constraint.{Constraint}
use Rattle.declare.specs.Meaning.{holds}
use Rattle.declare.specs.Traces.{all_below}

-- "holds" is the rule's meaning without activation
abbrev pub holds_on : Constraint → List ℕ → Bool
holds_on c trace = holds c.template c.a c.b trace

-- continuations are lists of declared steps, of any length: with every one of them it holds, or with every one of them it doesn't
abbrev pub Every : ℕ → Constraint → List ℕ → Bool → Type 0
Every n c trace truth = (more : List ℕ) → all_below n more ≡ true → holds_on c (trace ++ more) ≡ truth

-- with some continuation it holds, or with some it doesn't
abbrev pub Some : ℕ → Constraint → List ℕ → Bool → Type 0
Some n c trace truth = (more : List ℕ) × (all_below n more ≡ true) × (holds_on c (trace ++ more) ≡ truth)

-- the state, with n declared activities, after a trace; in the field's words 0 permanently satisfied, 1 temporarily satisfied,
-- 2 temporarily violated, 3 permanently violated
abbrev pub State : ℕ → Constraint → List ℕ → ℕ → Type 0
-- holds and every continuation holds
State n c trace zero = (holds_on c trace ≡ true) × Every n c trace true
-- holds, some continuation doesn't
State n c trace (suc zero) = (holds_on c trace ≡ true) × Some n c trace false
-- doesn't hold, some continuation does
State n c trace (suc (suc zero)) = (holds_on c trace ≡ false) × Some n c trace true
-- doesn't hold, none does
State n c trace (suc (suc (suc zero))) = (holds_on c trace ≡ false) × Every n c trace false
State n c trace (suc (suc (suc (suc s)))) = ⊥

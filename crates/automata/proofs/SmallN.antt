-- Where the number of declared activities matters: only where there is one, for template 8 (End) after a step.
-- Assumes nothing.
use Prim.Native.Nat.{ℕ, ◌≤◌, ◌<◌}
use native.Mathlib.Omega.{arith}
use mathlib.Core.Path.{◌≡◌, refl, sym, ap, subst, ◌∙◌}
use mathlib.Core.Bool.{Bool, true, false, ◌&&◌, ◌||◌}
use mathlib.Core.List.{List, [], ◌∷◌}
use borrow.Author.Tests.{eqb-true, eqb-false, ne_eqb}
use lib.Dec.{eqb}
use Rattle.std.specs.List.{list_all}
use Rattle.base.specs.Lists.{range}
use Rattle.base.proofs.Bools.{either}
use Rattle.declare.specs.declared.constraints.Constraint.{Constraint}
use Rattle.declare.specs.Constraints.{constraint, Over}
use Rattle.declare.specs.Traces.{all_below}
use Rattle.automata.specs.Outlook.{State}
use Rattle.automata.specs.Ahead.{outlook_in, state_number, outlook}
use Rattle.automata.proofs.Shifting.{at_every_state, follow_small}
use Rattle.declare.proofs.Occurrence.{below_more}
use Rattle.automata.proofs.Outlooks.{exclude, outlook_right}

-- ## One test: in which states it matters whether another activity is declared

abbrev same_anyway : ℕ → ℕ → Bool
same_anyway t k = (eqb t 8 && eqb k 1) || eqb (outlook_in true t k) (outlook_in false t k)

all_same_anyway : list_all (λ t. list_all (same_anyway t) (range 0 8)) (range 1 24) ≡ true
unfolding outlook_in
all_same_anyway = refl

same_outlook : (template k : ℕ) → 1 ≤ template → template ≤ 24 → k < 8 → eqb template 8 && eqb k 1 ≡ false
    → outlook_in true template k ≡ outlook_in false template k
same_outlook template k low high small other =
    eqb-true _ _ (rw other at (at_every_state same_anyway all_same_anyway template k low high small))

-- ## The law

-- Declaring more activities changes no state, but for template 8 where there was one activity and a step was taken.
pub more_declared : (n n' : ℕ) (c : Constraint) (trace : List ℕ) (s : ℕ) → n ≤ n' → Over n c → all_below n trace ≡ true
    → (n ≡ 1 → c.template ≡ 8 → trace ≡ []) → State n c trace s → State n' c trace s
more_declared n n' c trace s more over within unless h =
    let over' : Over n' c = record { from_1 = over.from_1; to_24 = over.to_24; a_declared = omega (arith, over.a_declared); b_declared = omega (arith, over.b_declared); paired = over.paired } in
    subst (State n' c trace) (sym (exclude n c trace s (outlook n c trace) h (outlook_right n c over trace within) ∙ unchanged))
    (outlook_right n' c over' trace (below_more n n' more trace within))
  where
    small : state_number c trace < 8
    small = follow_small c.template over.from_1 over.to_24 c.a c.b 0 trace (omega arith)

    other : n ≡ 1 → eqb c.template 8 && eqb (state_number c trace) 1 ≡ false
    other one =
        either (eqb c.template 8)
        (λ e. rw e (ne_eqb (state_number c trace) 1 (λ f. none (ap (state_number c) (unless one (eqb-true c.template 8 e))) f)))
        (λ e. rw e)
      where
        none : state_number c trace ≡ 0 → state_number c trace ≡ 1 → ⊥
        none e f = omega arith

    unchanged : outlook n c trace ≡ outlook n' c trace
    unchanged =
        either (eqb n 1)
        (λ e. either (eqb n' 1) (λ e'. rw (e, e')) (λ e'. rw (e, e') (same_outlook c.template (state_number c trace) over.from_1 over.to_24 small (other (eqb-true n 1 e)))))
        (λ e. rw (e, ne_eqb n' 1 (λ f. eqb-false n 1 e (omega (arith, over.a_declared)))))

-- ## The exception

abbrev end_of_0 : Constraint
end_of_0 = constraint 8 0 0

end_over : (n : ℕ) → 1 ≤ n → Over n end_of_0
end_over n some = record { from_1 = omega arith; to_24 = omega arith; a_declared = some; b_declared = some; paired = refl }

-- with one activity every step is it: after a step template 8 holds with every continuation
pub alone_settled : State 1 end_of_0 (0 ∷ []) 0
unfolding outlook_in
alone_settled = outlook_right 1 end_of_0 (end_over 1 (omega arith)) (0 ∷ []) refl

-- with two a step of the other kind ends that
pub beside_another : State 2 end_of_0 (0 ∷ []) 1
unfolding outlook_in
beside_another = outlook_right 2 end_of_0 (end_over 2 (omega arith)) (0 ∷ []) refl

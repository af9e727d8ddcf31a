-- Replay by shifting tells the verdict of the definitions.
-- Assumes nothing.
use Prim.Native.Nat.{ℕ, ◌≤◌, ◌<◌}
use native.Mathlib.Omega.{arith}
use mathlib.Core.Path.{◌≡◌, refl, sym, ap, ◌∙◌}
use mathlib.Core.Bool.{Bool, true, false}
use mathlib.Core.List.{List, [], ◌∷◌, ◌++◌, map}
use borrow.Author.Tests.{leb-true, ltb-true, eqb-true, not-true, ne_eqb}
use lib.Dec.{eqb, leb, ltb}
use lib.ListN.{get_or}
use Rattle.base.specs.Lists.{range}
use Rattle.base.proofs.Lists.{range_at}
use Rattle.base.proofs.Bools.{and_left, and_right, either, clash}
use Rattle.declare.specs.declared.constraints.Constraint.{Constraint}
use Rattle.declare.specs.Meaning.{meanings, holds, activated, verdict}
use Rattle.automata.specs.Automata.{next_of, verdict_of, letter, follow, stands, automaton, moves_of, start, advance_all, verdict_by}
use Rattle.declare.specs.Constraints.{pairs, Over}
use Rattle.declare.proofs.Occurrence.{below_more}
use Rattle.declare.specs.Traces.{all_below}
use Rattle.automata.proofs.Agreement.{follow_right, follow_holds}
use Rattle.automata.proofs.Shifting.{shifted}

-- what is the same for templates 1 to 8
up_to_8 : {A : Type 0} (f g : ℕ → A) → map f (range 0 9) ≡ map g (range 0 9) → (template : ℕ) → template ≤ 8 → f template ≡ g template
up_to_8 f g same template h =
    sym (range_at f 9 template (f 0) (omega arith)) ∙ ap (λ l. get_or l template (f 0)) same ∙ range_at g 9 template (f 0) (omega arith)

-- for them b does not matter
alone_verdict : (template a b c : ℕ) (trace : List ℕ) → template ≤ 8 → verdict template a b trace ≡ verdict template a c trace
unfolding verdict activated holds meanings
alone_verdict template a b c trace h = up_to_8 (λ t. verdict t a b trace) (λ t. verdict t a c trace) refl template h

alone_holds : (template a b c : ℕ) (trace : List ℕ) → template ≤ 8 → holds template a b trace ≡ holds template a c trace
unfolding holds meanings
alone_holds template a b c trace h = up_to_8 (λ t. holds t a b trace) (λ t. holds t a c trace) refl template h

-- only templates 1 to 8 take a beside itself
low : (template a b : ℕ) → pairs template a b ≡ true → eqb a b ≡ true → template ≤ 8
low template a b takes e =
    either (leb template 8) (leb-true template 8)
    (λ h. either (leb template 12) (λ k. absurd (omega (arith, eqb-true a b e, ltb-true a b (rw (h, k) at takes))))
    (λ k. clash e (not-true _ (rw (h, k) at takes))))

-- more events on
pub follow_append : (template a b k : ℕ) (trace more : List ℕ)
    → follow template a b k (trace ++ more) ≡ follow template a b (follow template a b k trace) more
follow_append template a b k [] more = refl
follow_append template a b k (x ∷ trace) more = follow_append template a b (next_of template k (letter a b x)) trace more

-- a beside itself is as a beside what no event is
beside_none : (template n a k : ℕ) (trace : List ℕ) → all_below n trace ≡ true → follow template a a k trace ≡ follow template a n k trace
beside_none template n a k [] within = refl
beside_none template n a k (x ∷ trace) within =
    let rest = all_below n trace in
    let small = ltb-true x n (and_left (ltb x n) rest within) in
    ap (λ l. follow template a a (next_of template k l) trace) (same_letter small (eqb x a) refl)
    ∙ beside_none template n a (next_of template k (letter a n x)) trace (and_right (ltb x n) rest within)
  where
    same_letter : x < n → (p : Bool) → eqb x a ≡ p → letter a a x ≡ letter a n x
    same_letter small true e = rw e
    same_letter small false e = rw (e, ne_eqb x n (λ f. omega arith))

-- What is read off the state that a trace leads to: known where b is not a, it is known of every constraint over n activities, since
-- templates 1 to 8, which alone take a beside itself, do not look at b.
module _ {A : Type 0} (read : ℕ → ℕ → A) (meant : ℕ → ℕ → ℕ → List ℕ → A)
    (apart : (template a b : ℕ) → 1 ≤ template → template ≤ 24 → eqb a b ≡ false → (trace : List ℕ)
    → read template (follow template a b 0 trace) ≡ meant template a b trace)
    (alone : (template a b c : ℕ) (trace : List ℕ) → template ≤ 8 → meant template a b trace ≡ meant template a c trace) where
  of_constraint : (n : ℕ) (c : Constraint) → Over n c → (trace : List ℕ) → all_below n trace ≡ true
      → read c.template (follow c.template c.a c.b 0 trace) ≡ meant c.template c.a c.b trace
  of_constraint n c over trace within =
      either (eqb c.a c.b)
      (λ e.
      ap (λ b. read c.template (follow c.template c.a b 0 trace)) (sym (eqb-true c.a c.b e))
      ∙ ap (read c.template) (beside_none c.template n c.a 0 trace within)
      ∙ apart c.template c.a n over.from_1 over.to_24 (ne_eqb c.a n (λ f. omega (arith, over.a_declared))) trace
      ∙ alone c.template c.a n c.b trace (low c.template c.a c.b over.paired e))
      (λ e. apart c.template c.a c.b over.from_1 over.to_24 e trace)

module _ (n : ℕ) (c : Constraint) (over : Over n c) (trace : List ℕ) (within : all_below n trace ≡ true) where
  -- by the tables, the state that a trace leads to tells whether a constraint over n activities holds
  pub follow_holds_constraint :
      stands (verdict_of c.template (follow c.template c.a c.b 0 trace)) ≡ holds c.template c.a c.b trace
  follow_holds_constraint = of_constraint (λ t k. stands (verdict_of t k)) holds follow_holds alone_holds n c over trace within

  -- and shifting tells its verdict
  pub followed_constraint :
      n ≤ 32
      → verdict_by (automaton c.template).verdicts (advance_all (moves_of (automaton c.template) c.a c.b) start trace)
      ≡ verdict c.template c.a c.b trace
  followed_constraint few =
      shifted c.template over.from_1 over.to_24 c.a c.b (omega (arith, over.a_declared)) (omega (arith, over.b_declared)) trace
      (below_more n 32 few trace within)
      ∙ of_constraint verdict_of verdict follow_right alone_verdict n c over trace within

-- Whether an activity occurs, by the library's word for a list; in traces joined, and in traces of declared activities. What is declared beside
-- more.
-- Assumes nothing.
use Prim.Native.Nat.{◌≤◌}
use borrow.Author.Tests.{ltb-true, lt-ltb, ne_eqb}
use native.Mathlib.Omega.{arith}
use Rattle.std.proofs.Common.{ℕ, ◌≡◌, refl, sym, ap, ap₂, ◌∙◌, ◌++◌, ◌∷◌, [], ◌||◌, true, false, List, eqb, ltb}
use Rattle.std.specs.List.{list_any, list_all}
use Rattle.std.proofs.lemmas.List.Folds.{list_any-append}
use Rattle.base.proofs.Bools.{and_left, and_right}
use Rattle.base.proofs.Lists.{all_weaker}
use Rattle.declare.specs.Meaning.{occurs, some_on}
use Rattle.declare.specs.Traces.{all_below}

some_any : (a : ℕ) (before trace : List ℕ) → some_on before trace (λ before x after. eqb x a) ≡ list_any (λ x. eqb x a) trace
some_any a before [] = refl
some_any a before (x ∷ trace) = ap (λ rest. eqb x a || rest) (some_any a (before ++ (x ∷ [])) trace)

pub occurs_any : (a : ℕ) (trace : List ℕ) → occurs a trace ≡ list_any (λ x. eqb x a) trace
occurs_any a trace = some_any a [] trace

pub occurs_append : (a : ℕ) (xs ys : List ℕ) → occurs a (xs ++ ys) ≡ occurs a xs || occurs a ys
occurs_append a xs ys =
    occurs_any a (xs ++ ys) ∙ list_any-append (λ x. eqb x a) xs ys ∙ ap₂ (λ p q. p || q) (sym (occurs_any a xs)) (sym (occurs_any a ys))

-- what is declared is so beside more
pub below_more : (n n' : ℕ) → n ≤ n' → (trace : List ℕ) → all_below n trace ≡ true → all_below n' trace ≡ true
below_more n n' h = all_weaker (λ x. ltb x n) (λ x. ltb x n') (λ x small. lt-ltb x n' (omega (arith, ltb-true x n small)))

pub all_below_more :
    (n n' : ℕ) → n ≤ n' → (traces : List (List ℕ)) → list_all (all_below n) traces ≡ true → list_all (all_below n') traces ≡ true
all_below_more n n' h = all_weaker (all_below n) (all_below n') (below_more n n' h)

-- no undeclared activity occurs in a trace of declared ones
pub undeclared_nowhere : (n a : ℕ) (trace : List ℕ) → n ≤ a → all_below n trace ≡ true → occurs a trace ≡ false
undeclared_nowhere n a trace above declared = occurs_any a trace ∙ go trace declared
  where
    go : (trace : List ℕ) → all_below n trace ≡ true → list_any (λ x. eqb x a) trace ≡ false
    go [] declared = refl
    go (x ∷ trace) declared =
        let below = ltb-true x n (and_left (ltb x n) (all_below n trace) declared) in
        rw (ne_eqb x a (λ same. omega arith)) (go trace (and_right (ltb x n) (all_below n trace) declared))

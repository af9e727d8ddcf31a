-- What the words of the definitions say of a trace with one more activity, at its front or at its end.
-- Assumes nothing.
use Prim.Native.Nat.{ℕ}
use mathlib.Core.Path.{◌≡◌, refl, sym, ap, ◌∙◌}
use mathlib.Core.Bool.{Bool, true, false, not, ◌&&◌, ◌||◌}
use mathlib.Core.List.{List, [], ◌∷◌, ◌++◌}
use lib.Dec.{eqb}
use Rattle.declare.specs.Meaning.{Test, some_on, some, occurs, ends_with}
use Rattle.base.proofs.Bools.{agree, by_cases}

-- what stood before does not matter to whether an activity occurs
pub occurs_on : (a : ℕ) (before trace : List ℕ) → some_on before trace (λ before x after. eqb x a) ≡ occurs a trace
occurs_on a before [] = refl
occurs_on a before (x ∷ trace) =
    ap (λ (q : Bool). eqb x a || q) (occurs_on a (before ++ (x ∷ [])) trace ∙ sym (occurs_on a (x ∷ []) trace))

pub occurs_cons : (a x : ℕ) (trace : List ℕ) → occurs a (x ∷ trace) ≡ eqb x a || occurs a trace
occurs_cons a x trace = ap (λ (q : Bool). eqb x a || q) (occurs_on a (x ∷ []) trace)

pub occurs_snoc : (a x : ℕ) (trace : List ℕ) → occurs a (trace ++ (x ∷ [])) ≡ occurs a trace || eqb x a
unfolding agree
occurs_snoc a x [] = by_cases 1 (λ p. p || false) (λ p. p) refl (eqb x a)
occurs_snoc a x (y ∷ trace) =
    occurs_cons a y (trace ++ (x ∷ []))
    ∙ ap (λ (q : Bool). eqb y a || q) (occurs_snoc a x trace)
    ∙ by_cases 3 (λ p q r. p || (q || r)) (λ p q r. (p || q) || r) refl (eqb y a) (occurs a trace) (eqb x a)
    ∙ ap (λ (q : Bool). q || eqb x a) (sym (occurs_cons a y trace))

pub ends_snoc : (a x : ℕ) (trace : List ℕ) → ends_with a (trace ++ (x ∷ [])) ≡ eqb x a
ends_snoc a x [] = refl
ends_snoc a x (y ∷ []) = refl
ends_snoc a x (y ∷ (z ∷ trace)) = ends_snoc a x (z ∷ trace)

-- a b comes before any a
abbrev pub b_before_a : ℕ → ℕ → Test
b_before_a a b between y rest = eqb y b && not (occurs a between)

-- an a that stands before has no b after it
abbrev pub unanswered : ℕ → ℕ → Test
unanswered a b start y between = eqb y a && not (occurs b between)

pub b_before_a_on : (a b : ℕ) (before trace : List ℕ)
    → some_on before trace (b_before_a a b) ≡ not (occurs a before) && some trace (b_before_a a b)
unfolding agree
b_before_a_on a b before [] = by_cases 1 (λ p. false) (λ p. not p && false) refl (occurs a before)
b_before_a_on a b before (x ∷ trace) =
    rw (b_before_a_on a b (before ++ (x ∷ [])) trace, b_before_a_on a b (x ∷ []) trace, occurs_snoc a x before)
    (by_cases 4 (λ is_a is_b p r. (is_b && not p) || (not (p || is_a) && r))
    (λ is_a is_b p r. not p && ((is_b && true) || (not (is_a || false) && r)))
    refl
    (eqb x a)
    (eqb x b)
    (occurs a before)
    (some trace (b_before_a a b)))

pub b_before_a_cons : (a b x : ℕ) (trace : List ℕ)
    → some (x ∷ trace) (b_before_a a b) ≡ eqb x b || (not (eqb x a) && some trace (b_before_a a b))
unfolding agree
b_before_a_cons a b x trace =
    rw (b_before_a_on a b (x ∷ []) trace)
    (by_cases 3 (λ is_a is_b r. (is_b && true) || (not (is_a || false) && r)) (λ is_a is_b r. is_b || (not is_a && r)) refl
    (eqb x a)
    (eqb x b)
    (some trace (b_before_a a b)))

pub unanswered_snoc : (a b x : ℕ) (start trace : List ℕ)
    → some_on start (trace ++ (x ∷ [])) (unanswered a b) ≡ eqb x a || (some_on start trace (unanswered a b) && not (eqb x b))
unfolding agree
unanswered_snoc a b x start [] = by_cases 2 (λ p q. (p && true) || false) (λ p q. p || (false && not q)) refl (eqb x a) (eqb x b)
unanswered_snoc a b x start (y ∷ trace) =
    rw (unanswered_snoc a b x (start ++ (y ∷ [])) trace, occurs_snoc b x trace)
    (by_cases 5 (λ y-a o x-a x-b r. (y-a && not (o || x-b)) || (x-a || (r && not x-b)))
    (λ y-a o x-a x-b r. x-a || (((y-a && not o) || r) && not x-b))
    refl
    (eqb y a)
    (occurs b trace)
    (eqb x a)
    (eqb x b)
    (some_on (start ++ (y ∷ [])) trace (unanswered a b)))

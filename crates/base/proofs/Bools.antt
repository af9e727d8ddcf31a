-- Laws of tests: taken apart, joined, and equations in n truth values, which hold where they hold at each choice of them.
-- Assumes nothing.
use Prim.Native.Nat.{ℕ, zero, suc}
use mathlib.Core.Path.{◌≡◌, refl, sym, ◌∙◌}
use mathlib.Core.Bool.{Bool, true, false, not, beq, ◌&&◌, ◌||◌, true≢false, false≢true}
use Rattle.base.specs.Logic.{◌implies◌}

pub either {ℓ} : {P : Type ℓ} (b : Bool) → (b ≡ true → P) → (b ≡ false → P) → P
either true yes-case no-case = yes-case refl
either false yes-case no-case = no-case refl

pub clash {ℓ} : {P : Type ℓ} {b : Bool} → b ≡ true → b ≡ false → P
clash p q = absurd (true≢false (sym p ∙ q))

pub not_itself {ℓ} : {P : Type ℓ} (truth : Bool) → truth ≡ not truth → P
not_itself true e = absurd (true≢false e)
not_itself false e = absurd (false≢true e)

-- ## Joined

pub and_left : (p q : Bool) → p && q ≡ true → p ≡ true
and_left true q h = refl
and_left false q h = h

pub and_right : (p q : Bool) → p && q ≡ true → q ≡ true
and_right true q h = h
and_right false q h = cc

pub and_both : (p q : Bool) → p ≡ true → q ≡ true → p && q ≡ true
and_both p q h k = rw (h, k)

-- what passes for both truth values passes for each
pub at_both : (p : Bool → Bool) → p true && p false ≡ true → (truth : Bool) → p truth ≡ true
at_both p h true = and_left (p true) (p false) h
at_both p h false = and_right (p true) (p false) h

pub neither : (p q : Bool) → p || q ≡ false → (p ≡ false) × (q ≡ false)
neither true q e = clash refl e
neither false q e = (refl, e)

pub implied : (p q : Bool) → p implies q ≡ true → p ≡ true → q ≡ true
implied true q h k = h
implied false q h k = absurd (false≢true k)

pub fails_too : (p q : Bool) → (p ≡ true → q ≡ true) → q ≡ false → p ≡ false
fails_too true q f h = sym (f refl) ∙ h
fails_too false q f h = refl

-- ## Equations in n truth values

-- an expression in n truth values
abbrev pub Expression : ℕ → Type 0
Expression zero = Bool
Expression (suc n) = Bool → Expression n

pub equal_same : (p q : Bool) → beq p q ≡ true → p ≡ q
equal_same true true h = refl
equal_same true false h = cc
equal_same false true h = cc
equal_same false false h = refl

-- the two agree at each choice
unfoldable pub agree : (n : ℕ) → Expression n → Expression n → Bool
agree zero f g = beq f g
agree (suc n) f g = agree n (f true) (g true) && agree n (f false) (g false)

-- the two are equal for all truth values
abbrev pub Equal : (n : ℕ) → Expression n → Expression n → Type 0
Equal zero f g = f ≡ g
Equal (suc n) f g = (p : Bool) → Equal n (f p) (g p)

pub by_cases : (n : ℕ) (f g : Expression n) → agree n f g ≡ true → Equal n f g
unfolding agree
by_cases zero f g h = equal_same f g h
by_cases (suc n) f g h =
    λ p.
    elim p as (λ k. Equal n (f k) (g k)) [
      | true ↦ by_cases n (f true) (g true) (and_left (agree n (f true) (g true)) (agree n (f false) (g false)) h)
      | false ↦ by_cases n (f false) (g false) (and_right (agree n (f true) (g true)) (agree n (f false) (g false)) h)
    ]

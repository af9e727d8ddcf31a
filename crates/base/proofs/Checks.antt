-- The theory of checks: what a reply tells of them, lists of checks joined, and a property that each check of a list has.
-- Assumes nothing.
use Prim.Native.Nat.{ℕ}
use mathlib.Core.Path.{◌≡◌, refl, sym, ◌∙◌}
use mathlib.Core.Bool.{false}
use mathlib.Core.List.{List, [], ◌∷◌, ◌++◌}
use native.Mathlib.Omega.{arith}
use Rattle.base.specs.Checks.{Check, Reply, gives, refused, reply, when_passed}
use Rattle.base.proofs.Bools.{either}

-- an answer is not accepted and refused
pub never_both {ℓ} : {P : Type ℓ} {values : List ℕ} {number detail : ℕ} → gives values ≡ refused number detail → P
never_both e = let z : ◌≡◌ {A = ℕ} 0 1 = cc in absurd (omega arith)

-- ## Every check passes

abbrev pub NoneFail : List Check → Type 0
NoneFail [] = Unit
NoneFail (c ∷ checks) = (c.fails ≡ false) × NoneFail checks

pub none_fail : (checks : List Check) (values given : List ℕ) → reply checks values ≡ gives given → NoneFail checks
none_fail [] values given e = tt
none_fail (c ∷ checks) values given e =
    either c.fails (λ h. never_both (sym (rw h at e))) (λ h. (h, none_fail checks values given (rw h at e)))

pub none_fail_reply : (checks : List Check) (values : List ℕ) → NoneFail checks → reply checks values ≡ gives values
none_fail_reply [] values n = refl
none_fail_reply (c ∷ checks) values n = rw n.0 (none_fail_reply checks values n.1)

none_fail_new {ℓ} : {A : Type ℓ} (checks : List Check) (new old : A) → NoneFail checks → when_passed checks new old ≡ new
none_fail_new [] new old n = refl
none_fail_new (c ∷ checks) new old n = rw n.0 (none_fail_new checks new old n.1)

pub none_fail_both : (xs ys : List Check) → NoneFail (xs ++ ys) → NoneFail xs × NoneFail ys
none_fail_both [] ys n = (tt, n)
none_fail_both (c ∷ xs) ys n = let both = none_fail_both xs ys n.1 in ((n.0, both.0), both.1)

-- ## What a reply tells

module _ (checks : List Check) (values given : List ℕ) (e : reply checks values ≡ gives given) where
  pub given_values : values ≡ given
  given_values = let same = sym (none_fail_reply checks values (none_fail checks values given e)) ∙ e in cc

  pub given-new {ℓ} : {A : Type ℓ} (new old : A) → when_passed checks new old ≡ new
  given-new new old = none_fail_new checks new old (none_fail checks values given e)

pub refused_old {ℓ} :
    {A : Type ℓ} (checks : List Check) (values : List ℕ) (number detail : ℕ) → reply checks values ≡ refused number detail →
    (new old : A) → when_passed checks new old ≡ old
refused_old [] values number detail e new old = never_both e
refused_old (c ∷ checks) values number detail e new old =
    either c.fails (λ h. rw h) (λ h. rw h (refused_old checks values number detail (rw h at e) new old))

-- what is refused does not hang on the values
pub refused_same :
    (checks : List Check) (values values' : List ℕ) (number detail : ℕ) → reply checks values ≡ refused number detail →
    reply checks values' ≡ refused number detail
refused_same [] values values' number detail e = never_both e
refused_same (c ∷ checks) values values' number detail e =
    either c.fails (λ h. rw h (rw h at e)) (λ h. rw h (refused_same checks values values' number detail (rw h at e)))

-- what is left where all pass need be known only there
pub when_passed_same {ℓ} :
    {A : Type ℓ} (checks : List Check) (new new' old : A) → (NoneFail checks → new ≡ new') →
    when_passed checks new old ≡ when_passed checks new' old
when_passed_same [] new new' old f = f tt
when_passed_same (c ∷ checks) new new' old f =
    either c.fails (λ h. rw h) (λ h. rw h (when_passed_same checks new new' old (λ n. f (h, n))))

-- two values that are left by the same checks are related as the old ones are, and, where all pass, the new ones
pub both_left :
    {A B : Type 0} (R : A → B → Type 0) (checks : List Check) {new old : A} {new' old' : B} → (NoneFail checks → R new new') → R old old' →
    R (when_passed checks new old) (when_passed checks new' old')
both_left R [] f k = f tt
both_left R (c ∷ checks) f k = either c.fails (λ h. rw h k) (λ h. rw h (both_left R checks (λ n. f (h, n)) k))

-- ## What checks decide, whatever the values

abbrev pub decision : List Check → Reply
decision checks = reply checks []

-- the first decision, or the next where nothing is refused
abbrev pub followed_by : Reply → Reply → Reply
followed_by (gives none) next = next
followed_by (refused number detail) next = refused number detail

pub decision_append : (checks more : List Check) → decision (checks ++ more) ≡ followed_by (decision checks) (decision more)
decision_append [] more = refl
decision_append (c ∷ checks) more = either c.fails (λ h. rw h) (λ h. rw h (decision_append checks more))

-- behind checks that pass the others decide
module _ (more : List Check) where
  pub reply_after : (checks : List Check) (values : List ℕ) → NoneFail checks → reply (checks ++ more) values ≡ reply more values
  reply_after [] values n = refl
  reply_after (c ∷ checks) values n = rw n.0 (reply_after checks values n.1)

  pub left_after :
      {A : Type 0} (checks : List Check) (new old : A) → NoneFail checks → when_passed (checks ++ more) new old ≡ when_passed more new old
  left_after [] new old n = refl
  left_after (c ∷ checks) new old n = rw n.0 (left_after checks new old n.1)

pub passed_giving :
    (checks : List Check) (values given : List ℕ) → gives given ≡ reply checks values → (decision checks ≡ gives []) × (given ≡ values)
passed_giving checks values given e =
    (none_fail_reply checks [] (none_fail checks values given (sym e)), sym (given_values checks values given (sym e)))

-- ## A property of each check

-- each check's refusal is so, where those before it pass
abbrev pub Each : (ℕ → ℕ → Type 0) → List Check → Type 0
Each P [] = Unit
Each P (c ∷ checks) = P c.number c.detail × (c.fails ≡ false → Each P checks)

module _ (P : ℕ → ℕ → Type 0) where
  pub each_append : (xs ys : List Check) → Each P xs → (NoneFail xs → Each P ys) → Each P (xs ++ ys)
  each_append [] ys e f = f tt
  each_append (c ∷ xs) ys e f = (e.0, λ passes. each_append xs ys (e.1 passes) (λ n. f (passes, n)))

  -- then so is the refusal that they come to
  pub refused_each :
      (checks : List Check) (values : List ℕ) (number detail : ℕ) → Each P checks → reply checks values ≡ refused number detail →
      P number detail
  refused_each [] values number detail e r = never_both r
  refused_each (c ∷ checks) values number detail e r =
      either c.fails
      (λ h.
      let same = rw h at r in
      let same_number : c.number ≡ number = cc in
      let same-detail : c.detail ≡ detail = cc in
      rw (← same_number, ← same-detail) e.0)
      (λ h. refused_each checks values number detail (e.1 h) (rw h at r))

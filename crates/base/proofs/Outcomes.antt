-- Outcomes of calls: how one is shown, that there is one, and what follows from one. A refused call changes nothing, an accepted one gives
-- the values and leaves the new, and no call has two outcomes.
-- Assumes nothing.
use Prim.Native.Nat.{ℕ}
use mathlib.Core.Path.{◌≡◌, refl, sym, ◌∙◌}
use mathlib.Core.Bool.{false}
use mathlib.Core.List.{List, ◌∷◌}
use Rattle.base.specs.Checks.{Check, Reply, gives, refused, reply, when_passed, Outcome}
use Rattle.base.proofs.Checks.{NoneFail, none_fail, given_values, given-new, refused_old}

module _ {A : Type 0} {checks : List Check} {values : List ℕ} {new old : A} where
  -- ## How one is shown: the reply is known, and then what is left

  pub outcome_refused :
      {said : Reply} {number detail : ℕ} → said ≡ reply checks values → said ≡ refused number detail → Outcome checks values new old said old
  outcome_refused says e = record { says = says; leaves = sym (refused_old checks values _ _ (sym says ∙ e) new old) }

  pub outcome_accepted :
      {said : Reply} {given : List ℕ} {left : A} → said ≡ reply checks values → said ≡ gives given → left ≡ new →
      Outcome checks values new old said left
  outcome_accepted {given = given} says e new-left =
      record { says = says; leaves = new-left ∙ sym (given-new checks values given (sym says ∙ e) new old) }

  -- there always is one
  pub some_outcome : Outcome checks values new old (reply checks values) (when_passed checks new old)
  some_outcome = record { says = refl; leaves = refl }

  -- ## What follows from one

  pub one_outcome :
      {said said' : Reply} {left left' : A} → Outcome checks values new old said left → Outcome checks values new old said' left' →
      (said ≡ said') × (left ≡ left')
  one_outcome o o' = (o.says ∙ sym o'.says, o.leaves ∙ sym o'.leaves)

  module _ {said : Reply} {left : A} (o : Outcome checks values new old said left) where
    pub refused_keeps : {number detail : ℕ} → said ≡ refused number detail → left ≡ old
    refused_keeps e = o.leaves ∙ refused_old checks values _ _ (sym o.says ∙ e) new old

    pub accepted_passes : {given : List ℕ} → said ≡ gives given → NoneFail checks
    accepted_passes {given} e = none_fail checks values given (sym o.says ∙ e)

    pub accepted_gives : {given : List ℕ} → said ≡ gives given → values ≡ given
    accepted_gives {given} e = given_values checks values given (sym o.says ∙ e)

    pub accepted_leaves : {given : List ℕ} → said ≡ gives given → left ≡ new
    accepted_leaves {given} e = o.leaves ∙ given-new checks values given (sym o.says ∙ e) new old

-- behind a check that passes the others decide
pub past_check :
    {A : Type 0} {c : Check} {checks : List Check} {values : List ℕ} {new old : A} {said : Reply} {left : A} → c.fails ≡ false →
    Outcome (c ∷ checks) values new old said left → Outcome checks values new old said left
past_check passes o = record { says = rw passes at o.says; leaves = rw passes at o.leaves }

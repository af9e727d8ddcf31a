-- The order of checks: each has a condition, and a number and a detail to refuse with; the first condition that holds decides. A call's
-- outcome follows from them.
-- Assumes nothing.
use Rattle.std.specs.Prelude.{ℕ, ◌≡◌, Bool, List, [], ◌∷◌, cond, if◌then◌else◌}

pub record Check : Type 0 where
  pub fails : Bool
  pub number : ℕ
  pub detail : ℕ

infix 15 ◌refuses◌with◌
abbrev pub ◌refuses◌with◌ : Bool → ℕ → ℕ → Check
fails refuses number with detail = record { fails = fails; number = number; detail = detail }

-- What a call answers: the values that it gives, or the number and the detail of a refusal.
pub data Reply : Type 0 where
  gives : List ℕ → Reply
  refused : ℕ → ℕ → Reply

abbrev pub reply : List Check → List ℕ → Reply
reply [] values = gives values
reply (c ∷ checks) values = if c.fails then refused c.number c.detail else reply checks values

-- the new value where every check passes, and else the old one
abbrev pub when_passed {ℓ} : {A : Type ℓ} → List Check → A → A → A
when_passed [] new old = new
when_passed (c ∷ checks) new old = cond c.fails old (when_passed checks new old)

-- What a call says and leaves: by its checks, the values that it gives, what is new and what was there. A call's contract is one of these.
pub record Outcome {A : Type 0} (checks : List Check) (values : List ℕ) (new old : A) (said : Reply) (left : A) : Type 0 where
  pub says : said ≡ reply checks values
  pub leaves : left ≡ when_passed checks new old

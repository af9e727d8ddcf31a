-- The calls for C: what each returns and leaves, by the contracts of the calls.
-- Assumes nothing.
use Rattle.std.specs.Prelude.{ℕ, ◌≡◌, List, [], ◌∷◌, ◌++◌, take}
use Rattle.base.specs.Checks.{Reply, gives, refused}

-- ## Answers in numbers

-- what a call returns: 0 where it is accepted, else the refusal's number
abbrev pub number_of : Reply → ℕ
number_of (gives values) = 0
number_of (refused number detail) = number

-- values, and then zeros, four numbers in all
abbrev pub four : List ℕ → List ℕ
four values = take 4 (values ++ 0 ∷ 0 ∷ 0 ∷ 0 ∷ [])

-- the four numbers that it hands back: the values that it gives, or the detail
abbrev pub answer_of : Reply → List ℕ
answer_of (gives values) = four values
answer_of (refused number detail) = four (detail ∷ [])

-- what is said, in numbers
pub record InNumbers (said : Reply) (number : ℕ) (answer : List ℕ) : Type 0 where
  pub returns : number ≡ number_of said
  pub answers : answer ≡ answer_of said

-- ## The calls: each is the call itself, by that call's own contract, with what it says in numbers

pub record Replied {A : Type 0} (contract : Reply → A → Type 0) (number : ℕ) (left : A) (answer : List ℕ) : Type 0 where
  pub said : Reply
  pub outcome : contract said left
  pub numbers : InNumbers said number answer

-- open and the watcher's calls hand back no detail: it is always 0
pub record Returned {A : Type 0} (contract : Reply → A → Type 0) (number : ℕ) (left : A) : Type 0 where
  pub said : Reply
  pub outcome : contract said left
  pub returns : number ≡ number_of said

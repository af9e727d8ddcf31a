-- Start's and step's refusals, and what is told of one constraint, from the definitions.
-- Assumes nothing.
use Rattle.std.specs.Prelude.{ℕ, ◌≡◌, refl, List, [], ◌∷◌, replicate}
use Rattle.std.proofs.lemmas.Bool.{false≢true, true≢false}
use Rattle.base.specs.Checks.{gives, refused, reply}
use Rattle.declare.specs.Constraints.{constraint}
use Rattle.declare.specs.Meaning.{holds}
use Rattle.watcher.specs.declared.Watcher.{Watcher}
use Rattle.watcher.specs.Calls.{given, start_checks, step_checks, taking, checks_of_step}
use Rattle.watcher.specs.Watching.{Tells}

-- 1 to 32 activities are declared, or it is 2
how_many_declared :
    (reply (start_checks 0 []) [] ≡ refused 2 0)
    × (reply (start_checks 1 []) [] ≡ gives [])
    × (reply (start_checks 32 []) [] ≡ gives [])
    × (reply (start_checks 33 []) [] ≡ refused 2 0)
unfolding given
how_many_declared = (refl, refl, refl, refl)

-- 2, 14, 13: no activity declared; more than 256 constraints, which are no constraints either; one that is cut short
order :
    (reply (start_checks 0 (replicate 769 0)) [] ≡ refused 2 0)
    × (reply (start_checks 1 (replicate 769 0)) [] ≡ refused 14 0)
    × (reply (start_checks 1 (replicate 768 0)) [] ≡ refused 13 0)
    × (reply (start_checks 1 (1 ∷ 0 ∷ 0 ∷ 1 ∷ [])) [] ≡ refused 13 0)
unfolding given
order = (refl, refl, refl, refl)

-- 13: no template 1 to 24, an undeclared step, a wrong pair; and what is accepted
proper_ones :
    (reply (start_checks 2 (0 ∷ 0 ∷ 0 ∷ [])) [] ≡ refused 13 0)
    × (reply (start_checks 2 (25 ∷ 0 ∷ 1 ∷ [])) [] ≡ refused 13 0)
    × (reply (start_checks 2 (13 ∷ 0 ∷ 2 ∷ [])) [] ≡ refused 13 0)
    × (reply (start_checks 2 (8 ∷ 0 ∷ 1 ∷ [])) [] ≡ refused 13 0)
    × (reply (start_checks 2 (9 ∷ 1 ∷ 0 ∷ [])) [] ≡ refused 13 0)
    × (reply (start_checks 2 (24 ∷ 1 ∷ 1 ∷ [])) [] ≡ refused 13 0)
    × (reply (start_checks 2 (8 ∷ 1 ∷ 1 ∷ 9 ∷ 0 ∷ 1 ∷ 24 ∷ 1 ∷ 0 ∷ [])) [] ≡ gives [])
unfolding given
proper_ones = (refl, refl, refl, refl, refl, refl, refl)

-- the 4096th step is taken, the one after it is not; an undeclared one is 6 even then; what is refused is not among those accepted
steps :
    (reply (step_checks 2 4095 1) [] ≡ gives [])
    × (reply (step_checks 2 4096 1) [] ≡ refused 7 0)
    × (reply (step_checks 2 4096 2) [] ≡ refused 6 0)
    × (taking 2 (0 ∷ []) 1 ≡ 0 ∷ 1 ∷ [])
    × (taking 2 (0 ∷ []) 2 ≡ 0 ∷ [])
steps = (refl, refl, refl, refl, refl)

-- in any memory a step goes by the sizes of its record first, then by the activity, and then by the activities taken
abbrev a_record : ℕ → ℕ → ℕ → Watcher
a_record activities constraints taken = record { activities = activities; constraints = constraints; taken = taken }

any_record :
    (reply (checks_of_step (a_record 33 1 0) 3 0) [] ≡ refused 1 0)
    × (reply (checks_of_step (a_record 2 257 0) 771 0) [] ≡ refused 1 0)
    × (reply (checks_of_step (a_record 2 1 0) 6 0) [] ≡ refused 1 0)
    × (reply (checks_of_step (a_record 2 1 4097) 3 2) [] ≡ refused 1 0)
    × (reply (checks_of_step (a_record 2 1 4096) 3 2) [] ≡ refused 6 0)
    × (reply (checks_of_step (a_record 2 1 4096) 3 1) [] ≡ refused 7 0)
    × (reply (checks_of_step (a_record 0 0 0) 0 0) [] ≡ refused 6 0)
    × (reply (checks_of_step (a_record 32 256 4095) 768 31) [] ≡ gives [])
any_record = (refl, refl, refl, refl, refl, refl, refl, refl)

-- of every constraint one of the four states is told: before the first step it does not hold that 0 occurs, and then it may
abbrev existence_told : List ℕ → Type 0
existence_told told = Tells 2 (constraint 1 0 0 ∷ []) [] told

told :
    (existence_told [] → ⊥)
    × (existence_told (0 ∷ []) → ⊥)
    × (existence_told (1 ∷ []) → ⊥)
    × existence_told (2 ∷ [])
    × (existence_told (3 ∷ []) → ⊥)
    × (existence_told (4 ∷ []) → ⊥)
unfolding holds
told = (
  λ h. h,
  λ h. false≢true h.0.0,
  λ h. false≢true h.0.0,
  ((refl, (0 ∷ [], refl, refl)), tt),
  λ h. true≢false (h.0.1 (0 ∷ []) refl),
  λ h. h.0,
)

-- The run of samples/watch.c, by the definition: what it prints before the first step, and where it stops; and a watching of two steps.
-- Assumes nothing.
use Prim.Native.Nat.{ℕ, ◌≤◌}
use native.Mathlib.Omega.{arith}
use mathlib.Core.Path.{◌≡◌, refl}
use mathlib.Core.Bool.{true}
use mathlib.Core.List.{List, [], ◌∷◌}
use lib.ListN.{length, drop}
use Rattle.base.specs.Checks.{gives, refused}
use Rattle.declare.specs.Traces.{all_below}
use Rattle.automata.specs.Ahead.{outlook_in}
use Rattle.watcher.specs.Calls.{given, Watched, watched_after, Starts, taking, Made}
use Rattle.watcher.specs.Watching.{Tells, Untouched, Seen, Watching, Started}
use Rattle.watcher.proofs.Claim.{tells_each}
use Rattle.watcher.proofs.Existence.{made_steps, watchings_exist}

abbrev rules : List ℕ
rules = 7 ∷ 0 ∷ 0 ∷ 14 ∷ 0 ∷ 1 ∷ 17 ∷ 1 ∷ 2 ∷ 1 ∷ 3 ∷ 3 ∷ 16 ∷ 4 ∷ 1 ∷ 8 ∷ 3 ∷ 3 ∷ 23 ∷ 3 ∷ 0 ∷ []

-- the steps accepted of those that are tried: 9 is not declared
abbrev accepted : List ℕ → List ℕ → List ℕ
accepted trace [] = trace
accepted trace (activity ∷ more) = accepted (taking 5 trace activity) more

pub told_before : Tells 5 (given rules) [] (2 ∷ 1 ∷ 1 ∷ 2 ∷ 1 ∷ 2 ∷ 1 ∷ [])
unfolding given outlook_in
told_before = tells_each 5 [] refl (given rules) [] refl

-- the last rule, that no pack has a later tip, can no longer hold
pub told_at_the_stop :
    Tells 5 (given rules) (accepted [] (0 ∷ 1 ∷ 2 ∷ 4 ∷ 9 ∷ 1 ∷ 2 ∷ 3 ∷ 0 ∷ [])) (0 ∷ 2 ∷ 0 ∷ 0 ∷ 1 ∷ 2 ∷ 3 ∷ [])
unfolding given outlook_in
told_at_the_stop = tells_each 5 (0 ∷ 1 ∷ 2 ∷ 4 ∷ 1 ∷ 2 ∷ 3 ∷ 0 ∷ []) refl (given rules) [] refl

-- ## A start and two steps by the contracts, the second of which is not declared, in whatever there was

module _ (there : Watched) where
  abbrev after : List ℕ → Watched
  after trace = watched_after 5 rules there.slots trace

  pub start_taken : Starts 5 rules there (gives (5 ∷ 7 ∷ 0 ∷ [])) (after [])
  unfolding given
  start_taken = record { says = refl; leaves = refl }

  made : (trace : List ℕ) → all_below 5 trace ≡ true → length trace ≤ 4096 → Made 5 rules there.slots trace (after trace)
  unfolding given
  made trace declared short = record { accepted = refl; declared = declared; short = short; is = refl }

  pub two_steps :
      Watching rules (after []) (0 ∷ 9 ∷ [])
      (record { said = gives []; left = after (0 ∷ []) } ∷ record { said = refused 6 0; left = after (0 ∷ []) } ∷ [])
  two_steps = (
    made_steps 5 rules there.slots [] (after []) 0 (made [] refl (omega arith)),
    (made_steps 5 rules there.slots (0 ∷ []) (after (0 ∷ [])) 9 (made (0 ∷ []) refl (omega arith)), tt),
  )

  pub two_told :
      ((after []).slots.told ≡ 2 ∷ 1 ∷ 1 ∷ 2 ∷ 1 ∷ 2 ∷ 1 ∷ drop 7 there.slots.told)
      × ((after (0 ∷ [])).slots.told ≡ 0 ∷ 2 ∷ 1 ∷ 2 ∷ 1 ∷ 2 ∷ 1 ∷ drop 7 there.slots.told)
  unfolding given outlook_in
  two_told = (refl, refl)

  -- of seven constraints all but the first seven bytes are as they were
  rest_untouched :
      (left : Watched) → Untouched rules there.slots left.slots →
      (drop 7 left.slots.states ≡ drop 7 there.slots.states) × (drop 7 left.slots.told ≡ drop 7 there.slots.told)
  unfolding given
  rest_untouched left u = (u.states, u.told)

  -- and by the theorem that there are such
  some_start : (s : Started) × (s.n ≡ 5) × (s.numbers ≡ rules) × (s.before ≡ there)
  unfolding given
  some_start = watchings_exist.start 5 rules there refl

  some_watching : (seen : List Seen) × Watching rules there (0 ∷ 9 ∷ []) seen
  some_watching = watchings_exist.watching rules there (0 ∷ 9 ∷ [])

-- After each step what is told of every constraint is its state by the definition.
-- Assumes nothing.
use Prim.Native.Nat.{ℕ, suc}
use native.Mathlib.Omega.{arith}
use mathlib.Core.Path.{◌≡◌, refl, sym, ap, subst}
use mathlib.Core.Bool.{true, ◌||◌}
use mathlib.Core.List.{List, [], ◌∷◌, ◌++◌, map}
use lib.Dec.{eqb}
use lib.ListN.{length, drop, length-map}
use lib.Seq.{drop_at}
use Rattle.std.specs.List.{list_all}
use Rattle.base.proofs.Bools.{and_left, and_right}
use Rattle.base.specs.Checks.{Reply, refused}
use Rattle.base.proofs.Checks.{none_fail_reply, refused_each, both_left}
use Rattle.base.proofs.Outcomes.{one_outcome, refused_keeps, accepted_passes, accepted_leaves}
use Rattle.declare.specs.declared.constraints.Constraint.{Constraint}
use Rattle.declare.specs.Traces.{all_below}
use Rattle.automata.specs.Ahead.{outlook}
use Rattle.automata.proofs.Outlooks.{exclude, outlook_right}
use Rattle.watcher.specs.Table.{state_after}
use Rattle.watcher.specs.Calls.{given, proper, Slots, Watched, slots_after, start_checks, Starts, step_checks, taking, Made, checks_of_step, Steps}
use Rattle.watcher.specs.Watching.{Tells, Seen, Watching, Untouched, RightStep, EachRight, Started, StatesTold}
use Rattle.watcher.proofs.Making.{proper_over, all_proper}
use Rattle.watcher.proofs.Stepping.{step_made}

-- ## What is told, and what lies past it

pub tells_each : (n : ℕ) (trace : List ℕ) → all_below n trace ≡ true → (cs : List Constraint) (rest : List ℕ) → list_all (proper n) cs ≡ true
    → Tells n cs trace (map (λ c. outlook n c trace) cs ++ rest)
tells_each n trace within [] rest h = tt
tells_each n trace within (c ∷ cs) rest h =
    let others = list_all (proper n) cs in
    (outlook_right n c (proper_over n c (and_left (proper n c) others h)) trace within, tells_each n trace within cs rest (and_right (proper n c) others h))

module _ (n : ℕ) (numbers : List ℕ) (before : Slots) (trace : List ℕ) where
  untouched_after : Untouched numbers before (slots_after n numbers before trace)
  untouched_after =
      record {
        states = past (λ c. state_after c trace) before.states;
        told = past (λ c. outlook n c trace) before.told;
      }
    where
      past : (f : Constraint → ℕ) (l : List ℕ)
          → drop (length (given numbers)) (map f (given numbers) ++ drop (length (given numbers)) l) ≡ drop (length (given numbers)) l
      past f l = drop_at (map f (given numbers)) (drop (length (given numbers)) l) (length (given numbers)) (length-map (given numbers) f)

  module _ (m : Watched) (made : Made n numbers before trace m) where
    made_tells : Tells n (given numbers) trace m.slots.told
    made_tells =
        subst (λ (m : Watched). Tells n (given numbers) trace m.slots.told) (sym made.is)
        (tells_each n trace made.declared (given numbers) _ (all_proper n numbers made.accepted))

    made_untouched : Untouched numbers before m.slots
    made_untouched = subst (λ (m : Watched). Untouched numbers before m.slots) (sym made.is) untouched_after

-- ## A start

start_made : (s : Started) → Made s.n s.numbers s.before.slots [] s.left
start_made s =
    record {
      accepted = none_fail_reply (start_checks s.n s.numbers) [] (accepted_passes s.starts refl);
      declared = refl;
      short = omega arith;
      is = accepted_leaves s.starts refl;
    }

-- ## A step

module _ (n : ℕ) (numbers : List ℕ) (before : Slots) where
  next_made : (trace : List ℕ) (m : Watched) (activity : ℕ) (s : Seen) → Made n numbers before trace m → Steps numbers m activity s.said s.left
      → Made n numbers before (taking n trace activity) s.left
  next_made trace m activity s made steps =
      rw (steps.made n before trace made).leaves
      (both_left (λ m trace. Made n numbers before trace m) (step_checks n (length trace) activity) (step_made n numbers before trace m made activity) made)

  step_right : (trace : List ℕ) (m : Watched) (activity : ℕ) (s : Seen) → Made n numbers before trace m → Steps numbers m activity s.said s.left
      → RightStep n numbers before trace m activity s
  step_right trace m activity s made steps =
      let o = steps.made n before trace made in
      let made' = next_made trace m activity s made steps in
      record {
        says = o.says;
        tells = made_tells n numbers before (taking n trace activity) s.left made';
        watcher = ap (λ (m : Watched). m.watcher) made'.is;
        untouched = made_untouched n numbers before (taking n trace activity) s.left made';
        refused_same = λ number detail e. refused_keeps o e;
      }

  each_right : (trace : List ℕ) (m : Watched) (activities : List ℕ) (seen : List Seen) → Made n numbers before trace m
      → Watching numbers m activities seen → EachRight n numbers before trace m activities seen
  each_right trace m [] [] made w = tt
  each_right trace m [] (s ∷ seen) made w = w
  each_right trace m (activity ∷ more) [] made w = w
  each_right trace m (activity ∷ more) (s ∷ seen) made w = (
    step_right trace m activity s made w.0,
    each_right (taking n trace activity) s.left more seen (next_made trace m activity s made w.0) w.1,
  )

pub states_told : StatesTold
states_told =
    record {
      refused_start = λ n numbers there left number detail starts. refused_keeps starts refl;
      at_first =
          λ s. (
            made_tells s.n s.numbers s.before.slots [] s.left (start_made s),
            made_untouched s.n s.numbers s.before.slots [] s.left (start_made s),
          );
      after_each = λ s activities seen w. each_right s.n s.numbers s.before.slots [] s.left activities seen (start_made s) w;
      one_is = λ n c trace over within. (outlook n c trace, outlook_right n c over trace within);
      no_other = exclude;
    }

-- ## Of any memory

-- a refused step has number 1, 6 or 7 and detail 0, and changes nothing
pub refused_step :
    {numbers : List ℕ} {m m' : Watched} {activity number detail : ℕ} → Steps numbers m activity (refused number detail) m' →
    (eqb number 1 || eqb number 6 || eqb number 7 ≡ true) × (detail ≡ 0) × (m' ≡ m)
refused_step {numbers} {m} {activity = activity} {number = number} {detail = detail} steps =
    let ends : ℕ → ℕ → Type 0 = λ number detail. (eqb number 1 || eqb number 6 || eqb number 7 ≡ true) × (detail ≡ 0) in
    let end = refused_each ends (checks_of_step m.watcher (length numbers) activity) [] number detail
    ((refl, refl), λ usable. ((refl, refl), λ declared. ((refl, refl), λ short. tt))) (sym steps.says) in
    (end.0, end.1, steps.refused_keeps number detail refl)

-- a watching has so many steps as are tried
pub watching_length :
    (numbers : List ℕ) (m : Watched) (activities : List ℕ) (seen : List Seen) → Watching numbers m activities seen →
    length seen ≡ length activities
watching_length numbers m [] [] w = refl
watching_length numbers m [] (s ∷ seen) w = absurd w
watching_length numbers m (activity ∷ more) [] w = absurd w
watching_length numbers m (activity ∷ more) (s ∷ seen) w = ap suc (watching_length numbers s.left more seen w.1)

-- ## Nothing is left to the program: a start in any memory, and a step in one that a start and steps made, has one outcome

pub start_one :
    (n : ℕ) (numbers : List ℕ) (there : Watched) {said said' : Reply} {left left' : Watched} → Starts n numbers there said left →
    Starts n numbers there said' left' → (said ≡ said') × (left ≡ left')
start_one n numbers there = one_outcome

pub step_one :
    (n : ℕ) (numbers : List ℕ) (before : Slots) (trace : List ℕ) (m : Watched) (activity : ℕ) {said said' : Reply} {left left' : Watched} →
    Made n numbers before trace m → Steps numbers m activity said left → Steps numbers m activity said' left' → (said ≡ said') × (left ≡ left')
step_one n numbers before trace m activity made steps steps' = one_outcome (steps.made n before trace made) (steps'.made n before trace made)

-- What step answers decides what it leaves; of a memory that a start and steps made, the next one.
-- Assumes nothing.
use Prim.Native.Nat.{ℕ, ◌+◌, ◌*◌, ◌/◌, ◌≤◌, ◌<◌}
use native.Mathlib.Omega.{arith}
use mathlib.Core.Path.{◌≡◌, refl, sym, ap, ap₂, ◌∙◌}
use mathlib.Core.Bool.{true, ◌&&◌}
use mathlib.Core.List.{List, [], ◌∷◌, ◌++◌}
use borrow.Author.Tests.{eqb-true, leb-true, leb-false, ltb-true, not-false, le-leb, eq-eqb}
use lib.Dec.{eqb, leb, ltb}
use lib.ListN.{length, length-append}
use Rattle.base.specs.Checks.{Reply, gives, refused, reply}
use Rattle.base.proofs.Bools.{and_left, and_right, and_both}
use Rattle.base.proofs.Lists.{all_append}
use Rattle.base.proofs.Checks.{NoneFail, none_fail, never_both}
use Rattle.base.proofs.Outcomes.{outcome_refused, outcome_accepted}
use Rattle.declare.specs.Traces.{most_activities, longest_trace}
use Rattle.watcher.specs.declared.Watcher.{Watcher}
use Rattle.watcher.specs.Calls.{most_constraints, Slots, Watched, watcher_after, watched_after, step_checks, Made, checks_of_step, usable, Steps}
use Rattle.watcher.specs.Table.{table}
use Rattle.watcher.specs.Loops.{each_of, turn_by}
use Rattle.watcher.proofs.Making.{not_many, none_cut, few_activities, stepping}

-- ## What is known where every check passes

pub record Fits (w : Watcher) (numbers activity : ℕ) : Type 0 where
  pub activities : w.activities ≤ 32
  pub constraints : w.constraints ≤ 256
  pub whole : 3 * w.constraints ≡ numbers
  pub declared : activity < w.activities
  pub short : w.taken < 4096

pub fits : (w : Watcher) (numbers activity : ℕ) → gives [] ≡ reply (checks_of_step w numbers activity) [] → Fits w numbers activity
fits w numbers activity said =
    let passed = none_fail (checks_of_step w numbers activity) [] [] (sym said) in
    let few = leb w.activities most_activities in
    let room = leb w.constraints most_constraints in
    let sized = eqb (3 * w.constraints) numbers in
    let short = leb w.taken longest_trace in
    let all-four = not-false (usable w numbers) passed.0 in
    let three = and_left (few && room && sized) short all-four in
    let two = and_left (few && room) sized three in
    record {
      activities = leb-true _ _ (and_left few room two);
      constraints = leb-true _ _ (and_right few room two);
      whole = eqb-true _ _ (and_right (few && room) sized three);
      declared = ltb-true activity w.activities (not-false _ passed.1.0);
      short = leb-false longest_trace w.taken passed.1.1.0;
    }

-- ## A memory that a start and steps made

module _ (n : ℕ) (numbers : List ℕ) (before : Slots) (trace : List ℕ) (m : Watched) (made : Made n numbers before trace m) where
  same_watcher : m.watcher ≡ watcher_after n numbers trace
  same_watcher = ap (λ (m : Watched). m.watcher) made.is

  made_usable : usable m.watcher (length numbers) ≡ true
  made_usable =
      let many = not_many n numbers made.accepted in
      let whole = none_cut n numbers made.accepted in
      let w = watcher_after n numbers trace in
      ap (λ (w : Watcher). usable w (length numbers)) same_watcher
      ∙ and_both (leb n most_activities && leb w.constraints most_constraints && eqb (3 * w.constraints) (length numbers)) (leb (length trace) longest_trace)
      (and_both (leb n most_activities && leb w.constraints most_constraints) (eqb (3 * w.constraints) (length numbers))
      (and_both (leb n most_activities) (leb w.constraints most_constraints)
      (le-leb n most_activities (few_activities n numbers made.accepted))
      (le-leb w.constraints most_constraints (omega arith)))
      (eq-eqb (3 * w.constraints) (length numbers) whole))
      (le-leb (length trace) longest_trace made.short)

  -- there the two checks of a step decide
  made_reply : (activity : ℕ) → reply (checks_of_step m.watcher (length numbers) activity) [] ≡ reply (step_checks n (length trace) activity) []
  made_reply activity = rw made_usable (ap (λ (w : Watcher). reply (step_checks w.activities w.taken activity) []) same_watcher)

  -- what is accepted makes the next one
  pub step_made :
      (activity : ℕ) → NoneFail (step_checks n (length trace) activity) →
      Made n numbers before (trace ++ (activity ∷ [])) (watched_after n numbers before (trace ++ (activity ∷ [])))
  step_made activity (declared, (short, _)) =
      let below = leb-false longest_trace (length trace) short in
      let one_more = length-append trace (activity ∷ []) in
      record {
        accepted = made.accepted;
        declared = all_append (λ x. ltb x n) trace (activity ∷ []) made.declared (rw (not-false (ltb activity n) declared) refl);
        short = omega arith;
        is = refl;
      }

-- ## Both answers

-- a step that is refused leaves all as it was
pub steps_refused :
    {numbers : List ℕ} {m : Watched} {activity : ℕ} {said : Reply} {number detail : ℕ} →
    said ≡ reply (checks_of_step m.watcher (length numbers) activity) [] → said ≡ refused number detail → Steps numbers m activity said m
steps_refused {numbers} {m} {activity} said e =
    record {
      says = said;
      refused_keeps = λ number detail e. refl;
      made = λ n before trace made. outcome_refused (said ∙ made_reply n numbers before trace m made activity) e;
    }

-- the record after a step that is taken
abbrev pub one_taken : Watcher → Watcher
one_taken w = record { activities = w.activities; constraints = w.constraints; taken = w.taken + 1 }

pub steps_taken :
    {numbers : List ℕ} {m : Watched} {activity : ℕ} {l : Slots} → gives [] ≡ reply (checks_of_step m.watcher (length numbers) activity) [] →
    l ≡ each_of (turn_by (table (eqb m.watcher.activities 1)) numbers activity) m.watcher.constraints 0 m.slots →
    Steps numbers m activity (gives []) (record { watcher = one_taken m.watcher; slots = l })
steps_taken {numbers} {m} {activity} {l} said turned =
    record {
      says = said;
      refused_keeps = λ number detail e. never_both e;
      made = λ n before trace made. outcome_accepted (said ∙ made_reply n numbers before trace m made activity) refl (next_is n before trace made);
    }
  where
    -- what is left where a start and steps made the memory
    next_is :
        (n : ℕ) (before : Slots) (trace : List ℕ) → Made n numbers before trace m →
        record { watcher = one_taken m.watcher; slots = l } ≡ watched_after n numbers before (trace ++ (activity ∷ []))
    next_is n before trace made =
        let taken : length trace + 1 ≡ length (trace ++ (activity ∷ [])) = sym (length-append trace (activity ∷ [])) in
        ap₂ (λ (w : Watcher) (l : Slots). record { watcher = w; slots = l })
        (ap one_taken (same_watcher n numbers before trace m made)
        ∙ ap (λ k. record { activities = n; constraints = length numbers / 3; taken = k }) taken)
        (turned
        ∙ ap (λ (m : Watched). each_of (turn_by (table (eqb m.watcher.activities 1)) numbers activity) m.watcher.constraints 0 m.slots) made.is
        ∙ stepping n numbers made.accepted before trace activity)

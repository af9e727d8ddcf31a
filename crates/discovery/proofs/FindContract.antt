-- What find answers, check by check, and what passing over all constraints makes of the list.
-- Assumes nothing.
use Prim.Native.Nat.{ℕ, ◌*◌, ◌/◌, ◌≤◌, ◌<◌}
use mathlib.Core.Path.{◌≡◌, refl, sym, ap, ◌∙◌}
use mathlib.Core.Bool.{Bool, true, false}
use mathlib.Core.List.{List, [], ◌∷◌}
use native.Mathlib.Omega.{arith}
use borrow.Author.Tests.{ltb-false, lt-ltb, le-ltb, ne_eqb, not-false}
use lib.Dec.{eqb, ltb}
use lib.ListN.{length}
use Rattle.base.specs.Checks.{◌refuses◌with◌, gives, reply}
use Rattle.std.specs.Prelude.{if◌then◌else◌}
use Rattle.base.proofs.Checks.{NoneFail, none_fail, refused_same, decision, followed_by, decision_append}
use Rattle.base.proofs.Outcomes.{outcome_refused, outcome_accepted}
use Rattle.base.proofs.Lists.{count_at_most}
use Rattle.base.proofs.Stores.{sets_none}
use Rattle.eventlog.specs.Store.{Memory, sound}
use Rattle.answers.specs.declared.Reason.TheVariants.{ListTooShort}
use Rattle.answers.specs.declared.Refusal.{Refusal}
use Rattle.answers.specs.Answers.{refusal_said}
use Rattle.std.specs.Prelude.{Result, Ok, Err}
use Rattle.discovery.specs.declared.list.Tally.{Tally}
use Rattle.pruning.specs.declared.Settings.{Settings}
use Rattle.declare.specs.Constraints.{constraints}
use Rattle.pruning.specs.Question.{Question, asked, trace_count}
use Rattle.discovery.specs.Listing.{is_listed, listed, replayed, events_read, numbers, layout}
use Rattle.pruning.specs.Question.{threshold_in_range, confidence_in_range}
use Rattle.discovery.specs.Calls.{Finds, settings_checks, find_checks, checks_of_find, find_values, with_list}
use Rattle.discovery.specs.Passes.{Considers, none_yet, fit_of}

-- ## Passing over all constraints

module _ {q : Question} {list list' : List ℕ} {t : Tally} (p : Considers q (constraints q.activities) none_yet list t list') where
  pub passed_listed : t.listed ≡ length (listed q)
  unfolding listed
  passed_listed = omega (arith, p.passes.listed)

  pub passed_replayed : t.replayed ≡ length (replayed q)
  unfolding replayed
  passed_replayed = omega (arith, p.replayed)

  pub passed_read : t.events_read ≡ events_read q (replayed q)
  unfolding replayed
  passed_read = omega (arith, p.read)

  pub passed_written : list' ≡ with_list q list
  unfolding listed layout
  passed_written = p.passes.written

  -- a slice of no numbers stays so
  pub passed_none : list ≡ [] → list' ≡ []
  passed_none none = p.passes.written ∙ rw (none, sets_none)

-- ## Whether the list fits

module _ (k : ℕ) (list : List ℕ) where
  pub list_fits : numbers * k ≤ length list → Ok tt ≡ fit_of k list
  list_fits fits = rw (le-ltb (length list) (numbers * k) fits)

  pub list_short : length list < numbers * k → Err (record { reason = ListTooShort; detail = k }) ≡ fit_of k list
  list_short short = rw (lt-ltb (length list) (numbers * k) short)

  pub fits_told : {u : Unit {0}} → fit_of k list ≡ Ok u → numbers * k ≤ length list
  fits_told {u = u} e = go (ltb (length list) (numbers * k)) refl e
    where
      short : Result (Unit {0}) Refusal
      short = Err (record { reason = ListTooShort; detail = k })

      go : (t : Bool) → ltb (length list) (numbers * k) ≡ t → (if t then short else Ok tt) ≡ Ok u → numbers * k ≤ length list
      go true h e = let z : ◌≡◌ {A = ℕ} 0 1 = cc in absurd (omega arith)
      go false h e = ltb-false _ _ h

-- room for all constraints is enough
pub all_fit : (q : Question) (list : List ℕ) → length (constraints q.activities) ≤ length list / numbers → Ok tt ≡ fit_of (length (listed q)) list
unfolding listed
all_fit q list fits = list_fits _ list (omega (arith, count_at_most (is_listed q) (constraints q.activities)))

-- ## Answers

-- what the settings refuse is the answer
pub settings_refused :
    (m : Memory) (settings : Settings) (list : List ℕ) (refusal : Refusal) → sound m ≡ true →
    refusal_said refusal ≡ reply (settings_checks settings) [] → Finds m settings list (refusal_said refusal) list
settings_refused m settings list refusal is_sound e =
    let q = asked m settings in
    let rest =
    (eqb (trace_count q) 0 refuses 11 with 0) ∷ (ltb (length list) (numbers * length (listed q)) refuses 10 with length (listed q)) ∷ [] in
    let decides : decision (checks_of_find m settings list) ≡ refusal_said refusal =
    rw is_sound (decision_append (settings_checks settings) rest ∙ ap (λ said. followed_by said (decision rest)) (sym e)) in
    outcome_refused (sym (refused_same (checks_of_find m settings list) [] (find_values q) _ _ decides)) refl

-- where each check passes, find answers by what passing over the constraints makes of the list
module _ (m : Memory) (settings : Settings) {list list' : List ℕ} {t : Tally} {traces : ℕ} {u : Unit {0}} where
  pub finds_listed :
      sound m ≡ true → gives [] ≡ reply (settings_checks settings) [] → traces ≡ trace_count (asked m settings) → (traces ≡ 0 → ⊥) →
      fit_of (length (listed (asked m settings))) list ≡ Ok u →
      Considers (asked m settings) (constraints m.store.activities) none_yet list t list' →
      Finds m settings list (gives (t.listed ∷ t.replayed ∷ traces ∷ t.events_read ∷ [])) list'
  finds_listed is_sound settings_pass same some fit p =
      let q = asked m settings in
      let (ranged, (confidence, _)) = none_fail (settings_checks settings) [] [] (sym settings_pass) in
      let not_none = ne_eqb (trace_count q) 0 (λ none. some (same ∙ none)) in
      let says : reply (checks_of_find m settings list) (find_values q) ≡ gives (find_values q) =
      simp (is_sound, ranged, confidence, not_none, le-ltb (length list) _ (fits_told _ list fit)) in
      let values : t.listed ∷ t.replayed ∷ traces ∷ t.events_read ∷ [] ≡ find_values q =
      cc (passed_listed p, passed_replayed p, same, passed_read p) in
      outcome_accepted (ap gives values ∙ sym says) refl (passed_written p)

-- what is known where every check of find passes
pub record FindPassed (q : Question) (list : List ℕ) : Type 0 where
  pub threshold : threshold_in_range q.settings ≡ true
  pub confidence : confidence_in_range q.settings ≡ true
  pub some : eqb (trace_count q) 0 ≡ false
  pub fits : numbers * length (listed q) ≤ length list

pub find_passed : (q : Question) (list : List ℕ) → NoneFail (find_checks q list) → FindPassed q list
find_passed q list (ranged, (confidence, (some, (fits, _)))) =
    record { threshold = not-false _ ranged; confidence = not-false _ confidence; some = some; fits = ltb-false _ _ fits }

-- The log read into an empty store, and the find after it: what the two calls' checks come to.
-- Assumes nothing.
use Prim.Native.Nat.{ℕ, ◌*◌, ◌≤◌}
use native.Mathlib.Omega.{arith}
use mathlib.Core.Path.{◌≡◌, refl, sym, ap, ◌∙◌}
use mathlib.Core.Bool.{true}
use mathlib.Core.List.{List, [], ◌∷◌}
use lib.ListN.{length, length-replicate}
use lib.Seq.{length-sets}
use Rattle.std.specs.Prelude.{Result, Ok, Err}
use Rattle.base.specs.Lists.{non_empty}
use Rattle.base.proofs.Lists.{filter_all}
use Rattle.base.specs.Checks.{Check, Reply, gives, reply, when_passed, Outcome}
use Rattle.base.proofs.Checks.{NoneFail, refused_old, refused_same, decision, decision_append, reply_after, left_after}
use Rattle.base.proofs.Outcomes.{outcome_refused, refused_keeps, accepted_passes, accepted_gives, accepted_leaves, past_check}
use Rattle.answers.specs.declared.Refusal.{Refusal}
use Rattle.answers.specs.Answers.{refusal_said}
use Rattle.declare.specs.Traces.{declarable}
use Rattle.eventlog.specs.declared.Room.{Room}
use Rattle.eventlog.specs.Store.{Memory, last_end, sound, room}
use Rattle.eventlog.proofs.Laws.{sound_facts, fresh_sound, fresh_kept}
use Rattle.columns.specs.Log.{log_checks, spelled}
use Rattle.eventlog.specs.Calls.{with_traces}
use Rattle.columns.specs.Calls.{Reads}
use Rattle.columns.proofs.Laws.{grown_read, spelled_non_empty}
use Rattle.discovery.specs.declared.Found.{Found}
use Rattle.pruning.specs.declared.Settings.{Settings}
use Rattle.pruning.specs.Question.{Question, asked}
use Rattle.discovery.specs.Listing.{listed, numbers, layout}
use Rattle.discovery.specs.Calls.{find_checks, find_values, with_list, find_said, Finds}
use Rattle.discovery.proofs.FindContract.{find_passed}
use Rattle.report.specs.declared.Arrays.{Arrays}
use Rattle.report.specs.Report.{lent_space, lent_constraints, lent_list, log_question, then_find, room_lent, empty_store}
use Rattle.report.specs.Stages.{number_listed, Decides}

-- the buffers are as long as those that the program lends
pub record Buffers (arrays : Arrays) : Type 0 where
  pub events : length arrays.events ≡ lent_space.events
  pub ends : length arrays.ends ≡ lent_space.ends
  pub words : length arrays.words ≡ lent_space.words

length_lent : length lent_list ≡ numbers * lent_constraints
unfolding lent_list
length_lent = length-replicate {A = ℕ} (numbers * lent_constraints) 0

-- what the checks up to the find refuse is the answer
pub refusal_decides :
    {checks : List Check} {n : ℕ} {settings : Settings} {log : List ℕ} {arrays : Arrays} {refusal : Refusal} →
    decision checks ≡ refusal_said refusal → Decides checks n settings log arrays (Err refusal) arrays
refusal_decides {checks} {n} {settings} {log} {refusal = refusal} e =
    let q = log_question n settings log in
    let all : decision (then_find checks q) ≡ refusal_said refusal = decision_append checks (find_checks q lent_list) ∙ rw e in
    record {
      finds = outcome_refused (sym (refused_same (then_find checks q) [] (find_values q) _ _ all)) refl;
      events = rw (refused_old checks [] _ _ e);
      ends = rw (refused_old checks [] _ _ e);
      words = rw (refused_old checks [] _ _ e);
      fits = omega arith;
    }

-- a log spells no empty trace: what is asked over it has all that it spells
pub asked_of_all : (n : ℕ) (settings : Settings) (log : List ℕ) → (log_question n settings log).traces ≡ spelled log
asked_of_all n settings log = filter_all non_empty (spelled log) (spelled_non_empty log)

-- ## The find, after checks that pass

found_fits :
    (m : Memory) (settings : Settings) (list : List ℕ) (answer : Result Found Refusal) (list' : List ℕ) → Finds m settings list (find_said answer) list' →
    numbers * number_listed answer ≤ length list'
found_fits m settings list (Ok found) list' f =
    let q = asked m settings in
    let given = accepted_gives f refl in
    let needed : found.constraints ≡ length (listed q) = cc in
    rw (accepted_leaves f refl, length-sets list 0 (layout q (listed q)))
    (omega (arith, needed, (find_passed q list (accepted_passes f refl).1).fits))
found_fits m settings list (Err refusal) list' f = omega arith

-- a memory that the question is asked of
pub record Filled (q : Question) (m : Memory) : Type 0 where
  pub is_sound : sound m ≡ true
  pub asks : asked m q.settings ≡ q
  pub fits : last_end m ≤ lent_space.events

module _ (q : Question) (m : Memory) (f : Filled q m) (checks : List Check) (none : NoneFail checks)
    (list : List ℕ) (room : length list ≡ numbers * lent_constraints) where
  -- the find's outcome is that of the checks before it and its own
  found_outcome :
      {said : Reply} {list' : List ℕ} → Finds m q.settings list said list' →
      Outcome (then_find checks q) (find_values q) (with_list q list) list said list'
  found_outcome finds =
      let o = past_check (rw f.is_sound) finds in
      let long = room ∙ sym length_lent in
      record {
        says =
            o.says
            ∙ ap (λ (x : Question). reply (find_checks x list) (find_values x)) f.asks
            ∙ rw long (sym (reply_after (find_checks q lent_list) checks (find_values q) none));
        leaves =
            o.leaves
            ∙ ap (λ (x : Question). when_passed (find_checks x list) (with_list x list) list) f.asks
            ∙ rw long (sym (left_after (find_checks q lent_list) checks (with_list q list) list none));
      }

-- ## The read

module _ (n : ℕ) (settings : Settings) (log : List ℕ) (declared : declarable n ≡ true) (arrays : Arrays) (buffers : Buffers arrays) where
  abbrev checks : List Check
  checks = log_checks (room_lent n) log

  abbrev q : Question
  q = log_question n settings log

  abbrev fresh : Memory
  fresh = empty_store n arrays

  abbrev filled_store : Memory
  filled_store = with_traces fresh (spelled log)

  room_is_lent : room fresh ≡ room_lent n
  unfolding last_end
  room_is_lent = rw (buffers.events, buffers.ends, buffers.words)

  is_sound : sound fresh ≡ true
  is_sound = fresh_sound n arrays.events arrays.ends arrays.words declared

  -- the checks of a read that is lent all this are the log's
  read_outcome :
      {said : Reply} {after : Memory} → Reads fresh log said after → Outcome checks (length (spelled log) ∷ []) filled_store fresh said after
  read_outcome reads = rw room_is_lent at (past_check (rw is_sound) reads)

  pub filled : NoneFail checks → Filled q filled_store
  filled passed =
      let g = grown_read fresh log is_sound (rw room_is_lent passed) in
      record {
        is_sound = g.still_sound;
        fits =
            omega (
              arith,
              (sound_facts filled_store g.still_sound).fits,
              ap (λ (r : Room). r.space.events) g.room_left,
              ap (λ (r : Room). r.space.events) room_is_lent,
            );
        asks = rw (ap (λ (r : Room). r.activities) g.room_left, g.keeps, fresh_kept n arrays.events arrays.ends arrays.words);
      }

  module _ (after : Memory) where
    -- an accepted read, and the find after it
    pub added_decides :
        (added : ℕ) (answer : Result Found Refusal) (list' : List ℕ) → length arrays.list ≡ numbers * lent_constraints →
        Reads fresh log (gives (added ∷ [])) after → Finds after settings arrays.list (find_said answer) list' →
        Decides checks n settings log arrays answer (record { events = after.events; ends = after.ends; words = after.words; list = list' })
    added_decides added answer list' room reads finds =
        let o = read_outcome reads in
        let none = accepted_passes o refl in
        let f : Filled q after = rw (accepted_leaves o refl) (filled none) in
        record {
          finds = found_outcome q after f checks none arrays.list room finds;
          events = ap (λ (m : Memory). m.events) o.leaves;
          ends = ap (λ (m : Memory). m.ends) o.leaves;
          words = ap (λ (m : Memory). m.words) o.leaves;
          fits = found_fits after settings arrays.list answer list' finds;
        }

    -- a refused read
    pub not_added_decides :
        (refusal : Refusal) → Reads fresh log (refusal_said refusal) after →
        Decides checks n settings log arrays (Err refusal) (record { events = after.events; ends = after.ends; words = after.words; list = arrays.list })
    not_added_decides refusal reads =
        let o = read_outcome reads in
        rw (refused_keeps o refl) (refusal_decides (refused_same checks (length (spelled log) ∷ []) [] _ _ (sym o.says)))

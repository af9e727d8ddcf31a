-- The checks of an input before its log: each refuses, or leaves the rest to the stages after it.
-- Assumes nothing.
use Prim.Native.Nat.{ℕ, ◌≤◌, ◌<◌}
use mathlib.Core.Path.{◌≡◌, refl, sym, ap, ◌∙◌}
use mathlib.Core.Bool.{true, false}
use mathlib.Core.List.{List, [], ◌∷◌, ◌++◌}
use borrow.Author.Tests.{not-false, lt-ltb, le-ltb}
use lib.ListN.{length}
use Rattle.std.specs.Prelude.{Result, Err, None}
use Rattle.base.specs.Checks.{Check, gives, refused, reply}
use Rattle.base.proofs.Checks.{none_fail, refused_same, decision, followed_by, decision_append}
use Rattle.base.proofs.Outcomes.{accepted_passes, accepted_leaves}
use Rattle.eventlog.specs.declared.Store.{Store}
use Rattle.answers.specs.declared.Reason.{Reason}
use Rattle.answers.specs.declared.Refusal.{Refusal}
use Rattle.answers.specs.Answers.{reason_number, refusal_said}
use Rattle.declare.specs.Traces.{declarable}
use Rattle.eventlog.specs.Calls.{open_checks, Opens}
use Rattle.columns.specs.Log.{log_checks}
use Rattle.discovery.specs.declared.Found.{Found}
use Rattle.pruning.specs.declared.Settings.{Settings}
use Rattle.discovery.specs.Calls.{settings_checks}
use Rattle.report.specs.declared.Arrays.{Arrays}
use Rattle.report.specs.Report.{most_input, settings_set, log_of, room_lent, checks_to_read}
use Rattle.report.specs.Stages.{settings_of, Decides, Decided}
use Rattle.report.proofs.Setting.{LaidOut, malformed_by}
use Rattle.report.proofs.Reading.{refusal_decides}

pub record OpenedStore (n : ℕ) (store : Store) : Type 0 where
  pub declared : declarable n ≡ true
  pub same : store.activities ≡ n
  pub no_trace : store.traces ≡ 0

pub open_accepted : {n : ℕ} {there store : Store} {values : List ℕ} → Opens n there (gives values) store → OpenedStore n store
open_accepted {n = n} o =
    let is-empty = accepted_leaves o refl in
    record {
      declared = not-false (declarable n) (accepted_passes o refl).0;
      same = ap (λ (s : Store). s.activities) is-empty;
      no_trace = ap (λ (s : Store). s.traces) is-empty;
    }

check_passes :
    {c : Check} {checks : List Check} {n : ℕ} {settings : Settings} {log : List ℕ} {arrays : Arrays} {answer : Result Found Refusal} {arrays' : Arrays} →
    c.fails ≡ false → Decides checks n settings log arrays answer arrays' → Decides (c ∷ checks) n settings log arrays answer arrays'
check_passes passes d =
    record {
      finds = record { says = rw passes d.finds.says; leaves = rw passes d.finds.leaves };
      events = rw passes d.events;
      ends = rw passes d.ends;
      words = rw passes d.words;
      fits = d.fits;
    }

module _ (input : List ℕ) (arrays : Arrays) where
  pub too_long : most_input < length input → Decided input arrays (Err (record { reason = Reason.TooMuchInput; detail = 0 })) arrays
  unfolding checks_to_read
  too_long long = refusal_decides (rw (lt-ltb _ _ long))

  module _ (fits : length input ≤ most_input) where
    pub malformed : settings_of input ≡ None → Decided input arrays (Err (record { reason = Reason.Malformed; detail = 0 })) arrays
    unfolding checks_to_read
    malformed e = refusal_decides (rw (le-ltb _ _ fits, malformed_by input e))

    module _ (n : ℕ) (settings : Settings) (l : LaidOut input n settings) where
      pub undeclarable : (refusal : Refusal) {there : Store} → Opens n there (refusal_said refusal) there → Decided input arrays (Err refusal) arrays
      unfolding checks_to_read
      undeclarable refusal o =
          let more = settings_checks (settings_set input) ++ log_checks (room_lent n) (log_of input) in
          let refuses : decision (open_checks n) ≡ refused (reason_number refusal.reason) refusal.detail = refused_same (open_checks n) _ [] _ _ (sym o.says) in
          refusal_decides (rw (le-ltb _ _ fits, l.laid_out, ← l.activities) (decision_append (open_checks n) more ∙ rw refuses))

      module _ (declared : declarable n ≡ true) where
        pub refused_settings :
            (refusal : Refusal) → refusal_said refusal ≡ reply (settings_checks settings) [] → Decided input arrays (Err refusal) arrays
        unfolding checks_to_read
        refused_settings refusal e =
            let read = log_checks (room_lent n) (log_of input) in
            refusal_decides
            (rw (le-ltb _ _ fits, l.laid_out, ← l.activities, ← l.settings_are, declared)
            (decision_append (settings_checks settings) read ∙ ap (λ said. followed_by said (decision read)) (sym e)))

        -- they pass, and the answer is that to the log
        pub goes_on :
            (log : List ℕ) {answer : Result Found Refusal} {arrays' : Arrays} → gives [] ≡ reply (settings_checks settings) [] → log ≡ log_of input →
            Decides (log_checks (room_lent n) log) n settings log arrays answer arrays' → Decided input arrays answer arrays'
        unfolding checks_to_read
        goes_on log passes e d =
            let d' = rw (e, l.activities, l.settings_are) at d in
            let (threshold, (confidence, _)) = none_fail (settings_checks settings) [] [] (sym passes) in
            check_passes (le-ltb _ _ fits)
            (check_passes (rw l.laid_out)
            (check_passes (rw (← l.activities, declared))
            (check_passes (rw (← l.settings_are) threshold) (check_passes (rw (← l.settings_are) confidence) d'))))

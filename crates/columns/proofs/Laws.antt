-- Laws of read, for what comes above: after an accepted read the store has grown by the traces that the log spells, in order. A log
-- spells no empty trace.
-- Assumes nothing.
use Prim.Native.Nat.{ℕ}
use mathlib.Core.Path.{◌≡◌, refl, sym, ◌∙◌}
use mathlib.Core.Bool.{Bool, true, false}
use mathlib.Core.List.{List, [], ◌∷◌, ◌++◌}
use native.Mathlib.Omega.{arith}
use lib.ListN.{length}
use Rattle.std.specs.Prelude.{Result, Ok, Err, IsOk, if◌then◌else◌}
use Rattle.std.specs.List.{list_all}
use Rattle.base.specs.Lists.{non_empty}
use Rattle.base.specs.Checks.{gives, reply}
use Rattle.eventlog.specs.Store.{Memory, sound, room}
use Rattle.answers.specs.declared.Refusal.{Refusal}
use Rattle.columns.specs.Log.{Line, lines, same_trace, extend_last, Before, nothing_read, with_line, log_checks, spelled_from, spelled}
use Rattle.columns.specs.Survey.{Bounded, survey_of, at_start}
use Rattle.answers.specs.Answers.{count_said}
use Rattle.eventlog.specs.Calls.{with_traces}
use Rattle.eventlog.proofs.Laws.{sound_facts, last_end_bound}
use Rattle.base.proofs.Bools.{and_left, and_right, and_both}
use Rattle.base.proofs.Lists.{all_append}
use Rattle.base.proofs.Checks.{NoneFail, none_fail_reply}
use Rattle.columns.proofs.Agree.{no_line, agree, numbered_lines, fitting}
use Rattle.eventlog.proofs.Traces.{Fitting, Grown, grown}

pub bounded_start : (m : Memory) → sound m ≡ true → Bounded (room m) (at_start (room m))
bounded_start m h =
    let s = sound_facts m h in
    record {
      few = omega (arith, s.few_traces);
      has_ends = omega (arith, s.has_ends);
      has_words = omega (arith, s.has_words);
      has_events = s.fits;
      in_reach = omega (arith, last_end_bound m h);
    }

pub given_accepted : (answer : Result ℕ Refusal) (values : List ℕ) → count_said answer ≡ gives values → IsOk answer
given_accepted (Ok traces) values e = refl
given_accepted (Err refusal) values e = absurd cc

module _ (m : Memory) (log : List ℕ) (h : sound m ≡ true) where
  -- the code's answer, in the words of the contract
  pub survey_said :
      count_said (survey_of (room m) (at_start (room m)) 1 (lines log)) ≡
      reply (log_checks (room m) log) (length (spelled log) ∷ [])
  unfolding log_checks spelled
  survey_said = sym (agree (room m) (lines log) no_line 1 tt (bounded_start m h) (numbered_lines log))

  pub fitting_accepted : IsOk (survey_of (room m) (at_start (room m)) 1 (lines log)) → Fitting (room m) (spelled log)
  unfolding spelled
  fitting_accepted a = fitting (room m) (lines log) no_line 1 tt (bounded_start m h) (numbered_lines log) a

  module _ (none : NoneFail (log_checks (room m) log)) where
    pub fitting_read : Fitting (room m) (spelled log)
    fitting_read =
        fitting_accepted
        (given_accepted (survey_of (room m) (at_start (room m)) 1 (lines log)) (length (spelled log) ∷ [])
        (survey_said ∙ none_fail_reply (log_checks (room m) log) (length (spelled log) ∷ []) none))

    pub grown_read : Grown m (spelled log) (with_traces m (spelled log))
    grown_read = grown (spelled log) m h fitting_read

-- ## Empty traces can't be written

longer_non_empty : (trace : List ℕ) (x : ℕ) → non_empty (trace ++ (x ∷ [])) ≡ true
longer_non_empty [] x = refl
longer_non_empty (y ∷ trace) x = refl

extended_non_empty : (traces : List (List ℕ)) (x : ℕ) → list_all non_empty traces ≡ true → list_all non_empty (extend_last traces x) ≡ true
extended_non_empty [] x h = refl
extended_non_empty (trace ∷ []) x h = rw (longer_non_empty trace x)
extended_non_empty (trace ∷ (next ∷ traces)) x h =
    let rest = list_all non_empty (next ∷ traces) in
    and_both (non_empty trace) (list_all non_empty (extend_last (next ∷ traces) x)) (and_left (non_empty trace) rest h)
    (extended_non_empty (next ∷ traces) x (and_right (non_empty trace) rest h))

spelled_from_non_empty : (before : Before) (rest : List Line) → list_all non_empty before.traces ≡ true → list_all non_empty (spelled_from before rest) ≡ true
spelled_from_non_empty before [] h = h
spelled_from_non_empty before (line ∷ rest) h = spelled_from_non_empty (with_line before line) rest (go (same_trace before.line line))
  where
    go :
        (t : Bool) →
        list_all non_empty (if t then extend_last before.traces line.activity else before.traces ++ ((line.activity ∷ []) ∷ [])) ≡ true
    go true = extended_non_empty before.traces line.activity h
    go false = all_append non_empty before.traces ((line.activity ∷ []) ∷ []) h refl

pub spelled_non_empty : (log : List ℕ) → list_all non_empty (spelled log) ≡ true
unfolding spelled
spelled_non_empty log = spelled_from_non_empty nothing_read (lines log) refl

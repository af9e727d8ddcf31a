-- What read's parts give to read: the answer, and what is written where it is accepted.
-- Assumes nothing.
use Prim.Native.Nat.{ℕ, ◌+◌, ◌≤◌}
use mathlib.Core.Path.{◌≡◌, sym, ap, ◌∙◌}
use mathlib.Core.Bool.{true}
use mathlib.Core.List.{List, [], ◌∷◌}
use native.Mathlib.Omega.{arith}
use lib.ListN.{length}
use Rattle.std.specs.Prelude.{Result, Ok, IsOk, is_ok}
use Rattle.base.specs.Checks.{reply}
use Rattle.base.proofs.Checks.{given_values}
use Rattle.answers.specs.declared.Refusal.{Refusal}
use Rattle.answers.specs.Answers.{count_said}
use Rattle.eventlog.specs.declared.Room.{Room}
use Rattle.eventlog.specs.declared.sound_store.SoundStore.{SoundStore}
use Rattle.eventlog.specs.SoundStore.{memory_of}
use Rattle.eventlog.specs.Store.{Memory, memory, with_store, most_traces, sound, room}
use Rattle.eventlog.specs.Calls.{with_traces}
use Rattle.eventlog.proofs.Traces.{Fitting, grown}
use Rattle.columns.specs.declared.Progress.{Progress}
use Rattle.columns.specs.Log.{lines, log_checks, spelled}
use Rattle.columns.specs.Survey.{at_start, survey_of, memory_in, lines_written}
use Rattle.columns.specs.Calls.{checks_of_read}
use Rattle.columns.proofs.Agree.{no_line, numbered_lines}
use Rattle.columns.proofs.Laws.{bounded_start, survey_said, fitting_accepted}
use Rattle.columns.proofs.Written.{written}

-- What is known before the first line: the memory is sound, and the log is read into its room from the start.
pub record Begun (m : Memory) (r : Room) (p : Progress) : Type 0 where
  pub is_sound : sound m ≡ true
  pub there : r ≡ room m
  pub start : p ≡ at_start (room m)

pub begun :
    {m : Memory} {r : Room} {p : Progress} (s : SoundStore) → memory_of s ≡ m → r ≡ room (memory_of s) →
    p ≡ at_start (room (memory_of s)) → Begun m r p
begun s same there start =
    record {
      is_sound = ap sound (sym same) ∙ s.is_sound;
      there = there ∙ ap room same;
      start = start ∙ ap (λ (b : Memory). at_start (room b)) same;
    }

module _ {m : Memory} {r : Room} {p : Progress} (b : Begun m r p) (log : List ℕ) where
  at_room : survey_of r p 1 (lines log) ≡ survey_of (room m) (at_start (room m)) 1 (lines log)
  at_room =
      ap (λ (q : Room). survey_of q p 1 (lines log)) b.there ∙ ap (λ (q : Progress). survey_of (room m) q 1 (lines log)) b.start

  pub says :
      {answer : Result ℕ Refusal} → answer ≡ survey_of r p 1 (lines log) →
      count_said answer ≡ reply (checks_of_read m log) (length (spelled log) ∷ [])
  says e = ap count_said (e ∙ at_room) ∙ rw b.is_sound (survey_said m log b.is_sound)

  module _ (added : ℕ) (e : Ok added ≡ survey_of r p 1 (lines log)) where
    accepted : IsOk (survey_of (room m) (at_start (room m)) 1 (lines log))
    accepted = ap is_ok (sym (e ∙ at_room))

    fits : Fitting (room m) (spelled log)
    fits = fitting_accepted m log b.is_sound accepted

    count : length (spelled log) ≡ added
    count =
        let same =
        given_values (log_checks (room m) log) (length (spelled log) ∷ []) (added ∷ [])
        (sym (survey_said m log b.is_sound) ∙ ap count_said (sym (e ∙ at_room))) in
        cc

    pub few_added : m.store.traces + added ≤ most_traces
    few_added = omega (arith, fits.few, count)

    -- what the second pass writes, with the record's new count, is the memory with the log's traces
    pub appended :
        (events ends words : List ℕ) →
        memory_in r events ends words ≡ lines_written p (memory_in r m.events m.ends m.words) (lines log) →
        memory (record { activities = m.store.activities; traces = m.store.traces + added }) events ends words ≡
        with_traces m (spelled log)
    unfolding spelled
    appended events ends words w =
        let all = with_traces m (spelled log) in
        let left : memory m.store events ends words ≡ with_store m.store all =
        ap (λ (q : Room). memory_in q events ends words) (sym b.there) ∙ w
        ∙ ap (λ (q : Room). lines_written p (memory_in q m.events m.ends m.words) (lines log)) b.there
        ∙ ap (λ (q : Progress). lines_written q m (lines log)) b.start
        ∙ written m b.is_sound (lines log) no_line 1 tt (bounded_start m b.is_sound) (numbered_lines log) accepted in
        let room_left = (grown (spelled log) m b.is_sound fits).room_left in
        let activities : m.store.activities ≡ all.store.activities = sym (ap (λ (q : Room). q.activities) room_left) in
        let traces : m.store.traces + added ≡ all.store.traces = omega (arith, count, ap (λ (q : Room). q.traces) room_left) in
        λ i.
        record {
          store = record { activities = activities i; traces = traces i };
          events = (left i).events;
          ends = (left i).ends;
          words = (left i).words;
        }

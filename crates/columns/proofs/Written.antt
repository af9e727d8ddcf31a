-- Laws of the second pass: on an accepted log each line's event has its place, and what is written is the log's traces, added one after
-- the other.
-- Assumes nothing.
use Prim.Native.Nat.{ℕ, ◌+◌, ◌-◌, ◌≤◌, ◌<◌}
use mathlib.Core.Path.{◌≡◌, refl, sym, ap, ◌∙◌}
use mathlib.Core.Bool.{true}
use mathlib.Core.List.{List, [], ◌∷◌, ◌++◌}
use native.Mathlib.Omega.{arith}
use lib.Dec.{eqb}
use lib.ListN.{length, get_or, set, length-append}
use lib.Seq.{set-set}
use Rattle.std.proofs.lemmas.List.{get_or-set_same}
use borrow.Author.Tests.{eqb-true, eqb-false, eq-eqb, ne_eqb}
use Rattle.base.proofs.Bools.{either}
use Rattle.base.proofs.Stores.{sets_append}
use Rattle.eventlog.specs.declared.Room.{Room}
use Rattle.eventlog.specs.declared.Store.{Store}
use Rattle.eventlog.specs.Store.{Memory, memory, with_store, last_end, sound, room}
use Rattle.eventlog.specs.Calls.{with_trace, with_traces}
use Rattle.eventlog.specs.Words.{word_of, with_bit}
use Rattle.eventlog.proofs.WordBits.{one_more, word_of_none}
use Rattle.std.specs.Prelude.{Some, None, Ok, IsOk, is_ok}
use Rattle.columns.specs.declared.Entry.{Entry}
use Rattle.columns.specs.declared.Progress.{Progress}
use Rattle.columns.specs.Log.{Line, Before, with_line, spelled_from}
use Rattle.columns.specs.Survey.{event_of, entry_of, Bounded, fault_of, next_progress, survey_of, line_written, lines_written}
use Rattle.columns.proofs.LineSteps.{faultless, bounded_next}
use Rattle.columns.proofs.Agree.{Prefix, no_line, ending_in, before_of, progress_of, extended, goes_on, fitting, Numbered, LinePasses, line_passes}
use Rattle.eventlog.proofs.Traces.{Acceptable, Fitting, grown, with_last, total_last, acceptable_front}

-- ## One line of an accepted log

module _ (o : Room) (p : Progress) (place : ℕ) {all : List Line} {line : Line} {rest : List Line} (e : all ≡ line ∷ rest) (a : IsOk (survey_of o p place all)) where
  passes_here : LinePasses o p place line rest
  passes_here = line_passes o p place line rest (rw e at a)

  pub not_malformed {ℓ} : {P : Type ℓ} → None ≡ entry_of line → P
  not_malformed m = let z : None ≡ Some (event_of line) = rw passes_here.laid at m in absurd cc

  module _ {entry : Entry} (is : Some entry ≡ entry_of line) where
    same_entry : event_of line ≡ entry
    same_entry = let z : Some entry ≡ Some (event_of line) = rw passes_here.laid at is in cc

    pub passes_fault : fault_of o p entry ≡ Ok tt
    passes_fault = ap (fault_of o p) (sym same_entry) ∙ passes_here.no_fault

    pub passes_on : IsOk (survey_of o (next_progress p entry.number) (place + 1) rest)
    passes_on = ap (λ (x : Entry). is_ok (survey_of o (next_progress p x.number) (place + 1) rest)) (sym same_entry) ∙ passes_here.on

    pub written_on : (m : Memory) → lines_written p m all ≡ lines_written (next_progress p entry.number) (line_written p (Some entry) m) rest
    written_on m = ap (lines_written p m) e ∙ rw (sym is)

-- ## What is written

first_word : (x : ℕ) → with_bit 0 x ≡ word_of (x ∷ [])
first_word x = ap (λ before. with_bit before x) (sym word_of_none) ∙ one_more [] x

module _ (store : Store) (m : Memory) (x place end value : ℕ) where
  -- an event more in a trace that was added last
  event_more :
      (trace : List ℕ) → place ≡ last_end m + length trace → end ≡ m.store.traces → value ≡ last_end m + length trace + 1 →
      m.store.traces < length m.words →
      (let before = with_trace m trace in
      memory store (set before.events place x) (set before.ends end value) (set before.words end (with_bit (get_or before.words end 0) x)) ≡
      with_store store (with_trace m (trace ++ (x ∷ []))))
  event_more trace p e v has_word =
      let long : last_end m + length trace + 1 ≡ last_end m + length (trace ++ (x ∷ [])) = omega (arith, length-append trace (x ∷ [])) in
      rw (
        p,
        e,
        v,
        sym (sets_append trace (x ∷ []) m.events (last_end m)),
        set-set m.ends m.store.traces (last_end m + length trace) (last_end m + length trace + 1),
        long,
        get_or-set_same m.words m.store.traces (word_of trace) 0 has_word,
        one_more trace x,
        set-set m.words m.store.traces (word_of trace) (word_of (trace ++ (x ∷ []))),
      )

  -- a trace of one event more
  trace_more :
      place ≡ last_end m → end ≡ m.store.traces → value ≡ last_end m + 1 →
      memory store (set m.events place x) (set m.ends end value) (set m.words end (with_bit 0 x)) ≡
      with_store store (with_trace m (x ∷ []))
  trace_more p e v = rw (p, e, v, first_word x)

module _ (m : Memory) (h : sound m ≡ true) (line : Line) where
  abbrev written_line : Progress → Memory → Memory
  written_line p b = line_written p (Some (event_of line)) b

  -- a line's event, written behind what stands before it
  abbrev Written : Prefix → Type 0
  Written s =
      written_line (progress_of (room m) s) (with_store m.store (with_traces m (before_of s).traces)) ≡
      with_store m.store (with_traces m (with_line (before_of s) line).traces)

  start_written : 1 ≤ line.number → Written no_line
  start_written positive =
      rw (ne_eqb line.number 0 (λ z. omega arith))
      (trace_more m.store m line.activity (last_end m) (m.store.traces + 1 - 1) (last_end m + 1) refl (omega arith) refl)

  module _ (before : Line) (traces : List (List ℕ)) (trace : List ℕ) (f : Fitting (room m) (traces ++ (trace ∷ []))) where
    front_fits : Fitting (room m) traces
    front_fits =
        let long = length-append traces (trace ∷ []) in
        let all = total_last traces trace in
        record {
          each = (acceptable_front m.store.activities traces trace f.each).0;
          few = omega (arith, f.few);
          has_ends = omega (arith, f.has_ends);
          has_words = omega (arith, f.has_words);
          fits = omega (arith, f.fits);
        }

    same_written :
        line.number ≡ before.number →
        Written (ending_in before traces trace)
    same_written same =
        let x = line.activity in
        let left = (grown traces m h front_fits).room_left in
        let last = ap (λ (r : Room). r.last) left in
        let count = ap (λ (r : Room). r.traces) left in
        let words = ap (λ (r : Room). r.space.words) left in
        let long = length-append traces (trace ∷ []) in
        rw (eq-eqb line.number before.number same, extended traces trace x, with_last traces trace m, with_last traces (trace ++ (x ∷ [])) m)
        (event_more m.store (with_traces m traces) x _ _ _ trace
        (omega (arith, total_last traces trace)) (omega arith) (omega (arith, total_last traces trace)) (omega (arith, f.has_words)))

    other_written :
        (line.number ≡ before.number → ⊥) →
        Written (ending_in before traces trace)
    other_written other =
        let left = (grown (traces ++ (trace ∷ [])) m h f).room_left in
        let last = ap (λ (r : Room). r.last) left in
        let count = ap (λ (r : Room). r.traces) left in
        rw (ne_eqb line.number before.number other, with_last (traces ++ (trace ∷ [])) (line.activity ∷ []) m)
        (trace_more m.store (with_traces m (traces ++ (trace ∷ []))) line.activity _ _ _ (sym last) (omega arith) (omega arith))

    going_written :
        Written (ending_in before traces trace)
    going_written =
        either (eqb line.number before.number)
        (λ q. same_written (eqb-true line.number before.number q))
        (λ q. other_written (eqb-false line.number before.number q))

  line_is_written : (s : Prefix) → Fitting (room m) (before_of s).traces → 1 ≤ line.number → Written s
  line_is_written no_line f positive = start_written positive
  line_is_written (ending_in before traces trace) f positive = going_written before traces trace f

-- the second pass, one line on, where the line is laid out
lines_written_on :
    (p q : Progress) (b c : Memory) (line : Line) (rest : List Line) → line.laid_out ≡ true →
    next_progress p line.number ≡ q → line_written p (Some (event_of line)) b ≡ c →
    lines_written p b (line ∷ rest) ≡ lines_written q c rest
lines_written_on p q b c line rest laid moves writes =
    rw laid
    (ap (λ (d : Memory). lines_written (next_progress p line.number) d rest) writes ∙ ap (λ (r : Progress). lines_written r c rest) moves)

-- what is written is the log's traces, added one after the other
pub written :
    (m : Memory) → sound m ≡ true → (rest : List Line) (s : Prefix) (place : ℕ) → Acceptable m.store.activities (before_of s).traces →
    Bounded (room m) (progress_of (room m) s) → Numbered rest →
    IsOk (survey_of (room m) (progress_of (room m) s) place rest) →
    lines_written (progress_of (room m) s) (with_store m.store (with_traces m (before_of s).traces)) rest ≡
    with_store m.store (with_traces m (spelled_from (before_of s) rest))
written m h [] s place e w n a = refl
written m h (line ∷ rest) s place e w n a =
    let o = room m in
    let p = progress_of o s in
    let l = line_passes o p place line rest a in
    let k = faultless o p w (event_of line) l.no_fault in
    let g = goes_on o line s e (n.0 l.laid) k in
    let w' = bounded_next o p w (event_of line) k in
    let f = fitting o [] s place e w tt refl in
    let writes : written_line m h line p (with_store m.store (with_traces m (before_of s).traces)) ≡ with_store m.store (with_traces m (before_of g.next).traces) =
    line_is_written m h line s f (n.0 l.laid)
    ∙ ap (λ (b : Before). with_store m.store (with_traces m b.traces)) g.read in
    lines_written_on p (progress_of o g.next) _ _ line rest l.laid g.counted writes
    ∙ written m h rest g.next (place + 1) g.each (rw g.counted at w') n.1 (rw g.counted at l.on)
    ∙ ap (λ (b : Before). with_store m.store (with_traces m (spelled_from b rest))) (sym g.read)

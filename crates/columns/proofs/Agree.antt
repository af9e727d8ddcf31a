-- The way over the lines with numbers comes to the checks and the traces of the definitions.
-- Assumes nothing.
use Prim.Native.Nat.{ℕ, zero, suc, ◌+◌, ◌-◌, ◌≤◌, ◌<◌}
use mathlib.Core.Path.{◌≡◌, refl, sym, ap, ◌∙◌}
use mathlib.Core.Bool.{Bool, true, false, not, ◌&&◌}
use mathlib.Core.List.{List, [], ◌∷◌, ◌++◌}
use mathlib.Core.Option.{Option, some}
use native.Mathlib.Omega.{arith}
use native.Mathlib.Nat.{add-zero}
use lib.Dec.{eqb, leb, ltb}
use lib.ListN.{length, get_or, take, drop, length-append}
use lib.Seq.{slice}
use borrow.Author.Tests.{lt-ltb, le-ltb, eq-eqb, ne_eqb, leb-true, leb-false, eqb-true, eqb-false}
use Rattle.std.specs.Prelude.{Result, Ok, Err, IsOk, if◌then◌else◌}
use Rattle.base.specs.Checks.{Check, ◌refuses◌with◌, Reply, gives, refused, reply}
use Rattle.declare.specs.Traces.{longest_trace, all_below}
use Rattle.eventlog.specs.declared.Room.{Room}
use Rattle.eventlog.specs.Store.{total, after_traces, full}
use Rattle.columns.specs.declared.Progress.{Progress}
use Rattle.fields.specs.Field.{line_feed, well_formed, value}
use Rattle.columns.specs.Log.{Line, line_of, lines_within, lines, Before, nothing_read, with_line, last?, length_of, extend_last, line_checks, log_checks_from, spelled_from}
use Rattle.columns.specs.Survey.{event_of, Bounded, fault_of, next_progress, survey_of, at_start}
use Rattle.answers.specs.Answers.{reason_number, count_said}
use Rattle.answers.specs.declared.Reason.{Reason}
use Rattle.base.proofs.Bools.{either, clash, and_left, and_right}
use Rattle.columns.proofs.LineSteps.{Faultless, faultless, bounded_next}
use Rattle.eventlog.proofs.Traces.{Acceptable, Fitting, total_last, acceptable_last, acceptable_front}
use Rattle.base.proofs.Lists.{all_append}

-- ## What stands before a line, in numbers

-- What stands before a line: nothing, or a last line, with the traces that the lines spell, the last of them apart.
pub data Prefix : Type 0 where
  no_line : Prefix
  ending_in : Line → List (List ℕ) → List ℕ → Prefix

abbrev pub before_of : Prefix → Before
before_of no_line = nothing_read
before_of (ending_in line traces trace) = record { line = some line; traces = traces ++ (trace ∷ []) }

abbrev pub progress_of : Room → Prefix → Progress
progress_of o no_line = at_start o
progress_of o (ending_in line traces trace) =
    record {
      number = line.number;
      left = longest_trace - length trace;
      added = length (traces ++ (trace ∷ []));
      last = o.last + total (traces ++ (trace ∷ []));
    }

added_of : (o : Room) (s : Prefix) → (progress_of o s).added ≡ length (before_of s).traces
added_of o no_line = refl
added_of o (ending_in line traces trace) = refl

last_number : (o : Room) (s : Prefix) → (progress_of o s).last ≡ o.last + total (before_of s).traces
last_number o no_line = omega arith
last_number o (ending_in line traces trace) = refl

last_of : (traces : List (List ℕ)) (trace : List ℕ) → last? (traces ++ (trace ∷ [])) ≡ some trace
last_of [] trace = refl
last_of (t ∷ []) trace = refl
last_of (t ∷ (u ∷ traces)) trace = last_of (u ∷ traces) trace

pub extended : (traces : List (List ℕ)) (trace : List ℕ) (x : ℕ) → extend_last (traces ++ (trace ∷ [])) x ≡ traces ++ ((trace ++ (x ∷ [])) ∷ [])
extended [] trace x = refl
extended (t ∷ []) trace x = refl
extended (t ∷ (u ∷ traces)) trace x = ap (λ (l : List (List ℕ)). t ∷ l) (extended (u ∷ traces) trace x)

-- ## The checks of one line

-- what a line is refused for
abbrev refusal : Room → Progress → Line → Result (Unit {0}) Reason
refusal o p line = if line.laid_out then fault_of o p (event_of line) else Err Reason.Malformed

abbrev decided : Result (Unit {0}) Reason → ℕ → Reply → Reply
decided (Ok passed) place on = on
decided (Err reason) place on = refused (reason_number reason) place

-- the order of the checks, as such
in_order :
    (laid falls undeclared same long full no_room : Bool) (place : ℕ) (more : List Check) (values : List ℕ) →
    reply
    ((not laid refuses 4 with place) ∷ (falls refuses 5 with place) ∷ (undeclared refuses 6 with place) ∷
    ((same && long) refuses 7 with place) ∷ ((not same && full) refuses 8 with place) ∷ (no_room refuses 9 with place) ∷ more) values ≡
    decided
    (if laid then
    if falls then Err Reason.NumberFalls else if undeclared then Err Reason.Undeclared
    else if same then (if long then Err Reason.TooLong else if no_room then Err Reason.NoSpace else Ok tt)
    else if full then Err Reason.Full else if no_room then Err Reason.NoSpace else Ok tt
    else Err Reason.Malformed) place (reply more values)
in_order false falls undeclared same long full no_room place more values = refl
in_order true true undeclared same long full no_room place more values = refl
in_order true false true same long full no_room place more values = refl
in_order true false false true true full no_room place more values = refl
in_order true false false true false full true place more values = refl
in_order true false false true false full false place more values = refl
in_order true false false false long true no_room place more values = refl
in_order true false false false long false true place more values = refl
in_order true false false false long false false place more values = refl

no_room_same : (room last : ℕ) → ltb room (last + 1) ≡ leb room last
no_room_same room last =
    either (leb room last)
    (λ q. let h = leb-true room last q in lt-ltb room (last + 1) (omega arith) ∙ sym q)
    (λ q. let h = leb-false room last q in le-ltb room (last + 1) (omega arith) ∙ sym q)

module _ (o : Room) (place : ℕ) (line : Line) (more : List Check) (values : List ℕ) (numbered : line.laid_out ≡ true → 1 ≤ line.number) where
  start_line :
      reply (line_checks o nothing_read place line ++ more) values ≡
      decided (refusal o (at_start o) line) place (reply more values)
  start_line =
      in_order line.laid_out false (leb o.activities line.activity) false false (full (after_traces o []))
      (ltb o.space.events (o.last + 0 + 1)) place more values
      ∙ ap (λ (r : Result (Unit {0}) Reason). decided r place (reply more values)) same
    where
      same :
          (if line.laid_out then
          if leb o.activities line.activity then Err Reason.Undeclared
          else if full (after_traces o []) then Err Reason.Full
          else if ltb o.space.events (o.last + 0 + 1) then Err Reason.NoSpace else Ok tt
          else Err Reason.Malformed) ≡ refusal o (at_start o) line
      same =
          either line.laid_out
          (λ q.
          let some = numbered q in
          rw (
            q,
            le-ltb line.number (at_start o).number (omega arith),
            ne_eqb line.number (at_start o).number (λ z. omega arith),
            no_room_same o.space.events (o.last + 0),
            add-zero o.last,
          ))
          (λ q. rw q)

  going_line :
      (before : Line) (traces : List (List ℕ)) (trace : List ℕ) → length trace ≤ longest_trace →
      reply (line_checks o (before_of (ending_in before traces trace)) place line ++ more) values ≡
      decided (refusal o (progress_of o (ending_in before traces trace)) line) place (reply more values)
  going_line before traces trace h =
      let falls = ltb line.number before.number in
      let same = eqb line.number before.number in
      let long = eqb (longest_trace - length trace) 0 in
      let undeclared = leb o.activities line.activity in
      let count = length (traces ++ (trace ∷ [])) in
      let last = o.last + total (traces ++ (trace ∷ [])) in
      let as_long : eqb (length_of (last? (traces ++ (trace ∷ [])))) longest_trace ≡ long =
      ap (λ (t : Option (List ℕ)). eqb (length_of t) longest_trace) (last_of traces trace)
      ∙ either (eqb (longest_trace - length trace) 0)
      (λ q. eq-eqb (length trace) longest_trace (omega (arith, eqb-true (longest_trace - length trace) 0 q)) ∙ sym q)
      (λ q. let apart = eqb-false (longest_trace - length trace) 0 q in ne_eqb (length trace) longest_trace (λ z. omega arith) ∙ sym q) in
      rw (as_long, no_room_same o.space.events last)
      (in_order line.laid_out falls undeclared same long (full (after_traces o (traces ++ (trace ∷ [])))) (leb o.space.events last) place more values)

  checked :
      (s : Prefix) → Acceptable o.activities (before_of s).traces →
      reply (line_checks o (before_of s) place line ++ more) values ≡
      decided (refusal o (progress_of o s) line) place (reply more values)
  checked no_line e = start_line
  checked (ending_in before traces trace) e = going_line before traces trace (acceptable_front o.activities traces trace e).2

-- ## One line on

-- What stands before the next line: the line, and the traces with its event, in numbers too.
pub record GoesOn (o : Room) (line : Line) (s : Prefix) : Type 0 where
  pub next : Prefix
  pub read : with_line (before_of s) line ≡ before_of next
  pub counted : next_progress (progress_of o s) line.number ≡ progress_of o next
  pub each : Acceptable o.activities (before_of next).traces

declared_one : (n x : ℕ) → x < n → all_below n (x ∷ []) ≡ true
declared_one n x h = rw (lt-ltb x n h)

module _ (o : Room) (line : Line) where
  start_on : 1 ≤ line.number → line.activity < o.activities → GoesOn o line no_line
  start_on positive declared =
      record {
        next = ending_in line [] (line.activity ∷ []);
        read = refl;
        counted = rw (ne_eqb line.number 0 (λ z. omega arith));
        each = (declared_one o.activities line.activity declared, omega arith, tt);
      }

  module _ (before : Line) (traces : List (List ℕ)) (trace : List ℕ) (e : Acceptable o.activities (traces ++ (trace ∷ []))) where
    same_on :
        line.number ≡ before.number → 1 ≤ longest_trace - length trace → line.activity < o.activities →
        GoesOn o line (ending_in before traces trace)
    same_on same room declared =
        let f = acceptable_front o.activities traces trace e in
        let x = line.activity in
        let one_more : length (trace ++ (x ∷ [])) ≡ length trace + 1 = length-append trace (x ∷ []) in
        let left : longest_trace - length trace - 1 ≡ longest_trace - length (trace ++ (x ∷ [])) = omega arith in
        let added : length (traces ++ (trace ∷ [])) ≡ length (traces ++ ((trace ++ (x ∷ [])) ∷ [])) =
        length-append traces (trace ∷ []) ∙ sym (length-append traces ((trace ++ (x ∷ [])) ∷ [])) in
        let last : o.last + total (traces ++ (trace ∷ [])) + 1 ≡ o.last + total (traces ++ ((trace ++ (x ∷ [])) ∷ [])) =
        omega (arith, total_last traces trace, total_last traces (trace ++ (x ∷ []))) in
        record {
          next = ending_in line traces (trace ++ (x ∷ []));
          read = rw (eq-eqb line.number before.number same, extended traces trace x);
          counted = rw (eq-eqb line.number before.number same, left, added, last);
          each =
              acceptable_last o.activities traces (trace ++ (x ∷ [])) f.0
              (all_append (λ y. ltb y o.activities) trace (x ∷ []) f.1 (declared_one o.activities x declared)) (omega arith);
        }

    other_on :
        (line.number ≡ before.number → ⊥) → line.activity < o.activities →
        GoesOn o line (ending_in before traces trace)
    other_on other declared =
        let x = line.activity in
        let added : length (traces ++ (trace ∷ [])) + 1 ≡ length ((traces ++ (trace ∷ [])) ++ ((x ∷ []) ∷ [])) =
        sym (length-append (traces ++ (trace ∷ [])) ((x ∷ []) ∷ [])) in
        let last : o.last + total (traces ++ (trace ∷ [])) + 1 ≡ o.last + total ((traces ++ (trace ∷ [])) ++ ((x ∷ []) ∷ [])) =
        omega (arith, total_last (traces ++ (trace ∷ [])) (x ∷ [])) in
        record {
          next = ending_in line (traces ++ (trace ∷ [])) (x ∷ []);
          read = rw (ne_eqb line.number before.number other);
          counted = rw (ne_eqb line.number before.number other, added, last);
          each = acceptable_last o.activities (traces ++ (trace ∷ [])) (x ∷ []) e (declared_one o.activities x declared) (omega arith);
        }

    going_on :
        Faultless o (progress_of o (ending_in before traces trace)) (event_of line) →
        GoesOn o line (ending_in before traces trace)
    going_on h =
        either (eqb line.number before.number)
        (λ q. let same = eqb-true line.number before.number q in same_on same (h.goes_on same) h.declared)
        (λ q. other_on (eqb-false line.number before.number q) h.declared)

  pub goes_on :
      (s : Prefix) → Acceptable o.activities (before_of s).traces → 1 ≤ line.number →
      Faultless o (progress_of o s) (event_of line) → GoesOn o line s
  goes_on no_line e positive h = start_on positive h.declared
  goes_on (ending_in before traces trace) e positive h = going_on before traces trace e h

-- ## The whole log

-- a laid_out line's number is at least 1
abbrev pub Numbered : List Line → Type 0
Numbered [] = Unit
Numbered (line ∷ rest) = (line.laid_out ≡ true → 1 ≤ line.number) × Numbered rest

one_line :
    (o : Room) (p : Progress) (place : ℕ) (line : Line) (rest : List Line) (on : Reply) →
    (line.laid_out ≡ true → fault_of o p (event_of line) ≡ Ok tt →
    on ≡ count_said (survey_of o (next_progress p line.number) (place + 1) rest)) →
    decided (refusal o p line) place on ≡ count_said (survey_of o p place (line ∷ rest))
one_line o p place line rest on f =
    either line.laid_out
    (λ q. by q (fault_of o p (event_of line)) refl)
    (λ q. rw (q, survey_of))
  where
    by :
        line.laid_out ≡ true → (r : Result (Unit {0}) Reason) → fault_of o p (event_of line) ≡ r →
        decided (refusal o p line) place on ≡ count_said (survey_of o p place (line ∷ rest))
    by q (Ok passed) e = rw (q, e, survey_of) (f q e)
    by q (Err reason) e = rw (q, e, survey_of)

abbrev answered : Room → Before → ℕ → List Line → Reply
answered o before place rest = reply (log_checks_from o before place rest) (length (spelled_from before rest) ∷ [])

-- the code's answer is that of the checks
pub agree :
    (o : Room) (rest : List Line) (s : Prefix) (place : ℕ) → Acceptable o.activities (before_of s).traces →
    Bounded o (progress_of o s) → Numbered rest →
    answered o (before_of s) place rest ≡ count_said (survey_of o (progress_of o s) place rest)
agree o [] s place e w n = ap (λ (k : ℕ). gives (k ∷ [])) (sym (added_of o s))
agree o (line ∷ rest) s place e w n =
    let p = progress_of o s in
    let after = with_line (before_of s) line in
    checked o place line (log_checks_from o after (place + 1) rest) (length (spelled_from after rest) ∷ []) n.0 s e
    ∙ one_line o p place line rest (answered o after (place + 1) rest)
    (λ laid fault.
    let h = faultless o p w (event_of line) fault in
    let g = goes_on o line s e (n.0 laid) h in
    let w' = bounded_next o p w (event_of line) h in
    rw (g.read, g.counted) (agree o rest g.next (place + 1) g.each (rw g.counted at w') n.1))

numbered_line : (bytes : List ℕ) → (line_of bytes).laid_out ≡ true → 1 ≤ (line_of bytes).number
numbered_line bytes e =
    let front = eqb (length bytes) 10 && well_formed (slice 0 6 bytes) in
    let positive = leb 1 (value (slice 0 6 bytes)) in
    let activity = well_formed (slice 6 9 bytes) in
    leb-true 1 (value (slice 0 6 bytes))
    (and_right front positive
    (and_left (front && positive) activity (and_left (front && positive && activity) (eqb (get_or bytes 9 0) line_feed) e)))

numbered_within : (most : ℕ) (log : List ℕ) → Numbered (lines_within most log)
numbered_within zero log = tt
numbered_within (suc most) [] = tt
numbered_within (suc most) (b ∷ bs) = (numbered_line (take 10 (b ∷ bs)), numbered_within most (drop 10 (b ∷ bs)))

pub numbered_lines : (log : List ℕ) → Numbered (lines log)
unfolding lines
numbered_lines log = numbered_within _ log

-- ## What an accepted log spells can be added

pub record LinePasses (o : Room) (p : Progress) (place : ℕ) (line : Line) (rest : List Line) : Type 0 where
  pub laid : line.laid_out ≡ true
  pub no_fault : fault_of o p (event_of line) ≡ Ok tt
  pub on : IsOk (survey_of o (next_progress p line.number) (place + 1) rest)

pub line_passes :
    (o : Room) (p : Progress) (place : ℕ) (line : Line) (rest : List Line) →
    IsOk (survey_of o p place (line ∷ rest)) → LinePasses o p place line rest
line_passes o p place line rest a =
    either line.laid_out
    (λ q. by q (fault_of o p (event_of line)) refl)
    (λ q. clash (rw (q, survey_of) at a) refl)
  where
    by :
        line.laid_out ≡ true → (r : Result (Unit {0}) Reason) → fault_of o p (event_of line) ≡ r → LinePasses o p place line rest
    by q (Ok passed) e = record { laid = q; no_fault = e; on = rw (q, e, survey_of) at a }
    by q (Err reason) e = clash (rw (q, e, survey_of) at a) refl

pub fitting :
    (o : Room) (rest : List Line) (s : Prefix) (place : ℕ) → Acceptable o.activities (before_of s).traces →
    Bounded o (progress_of o s) → Numbered rest → IsOk (survey_of o (progress_of o s) place rest) →
    Fitting o (spelled_from (before_of s) rest)
fitting o [] s place e w n a =
    let added = added_of o s in
    let last = last_number o s in
    record {
      each = e;
      few = omega (arith, w.few);
      has_ends = omega (arith, w.has_ends);
      has_words = omega (arith, w.has_words);
      fits = omega (arith, w.has_events);
    }
fitting o (line ∷ rest) s place e w n a =
    let p = progress_of o s in
    let l = line_passes o p place line rest a in
    let h = faultless o p w (event_of line) l.no_fault in
    let g = goes_on o line s e (n.0 l.laid) h in
    let w' = bounded_next o p w (event_of line) h in
    rw g.read (fitting o rest g.next (place + 1) g.each (rw g.counted at w') n.1 (rw g.counted at l.on))

-- Laws of the column layout: what is written is read back, line by line, a log that is laid out is the writing of what it spells, and it
-- passes where there is room.
-- Assumes nothing.
use Prim.Native.Nat.{ℕ, zero, suc, ◌+◌, ◌^◌, ◌≤◌, ◌<◌}
use mathlib.Core.Path.{◌≡◌, refl, sym, ap, ap₂, subst, ◌∙◌}
use mathlib.Core.Bool.{Bool, true, false, not, ◌&&◌}
use mathlib.Core.List.{List, [], ◌∷◌, ◌++◌, append_assoc, append-nil}
use mathlib.Core.Option.{Option, none, some}
use native.Mathlib.Omega.{arith}
use lib.Dec.{eqb, leb, ltb}
use lib.ListN.{length, get_or, take, drop, length-append, length-drop, take-append-drop}
use lib.Seq.{slice, take_at, drop_at, get_or_at, take-add, length-take-le, length-slice, drop-cons}
use Rattle.std.proofs.lemmas.List.{drop_all}
use borrow.Author.Tests.{le-leb, lt-leb, lt-ltb, le-ltb, eq-eqb, ne_eqb, leb-true, ltb-true, eqb-true, eqb-false, ltb-false, not-true, not-false}
use Rattle.std.specs.Prelude.{if◌then◌else◌}
use Rattle.std.specs.List.{list_all}
use Rattle.base.specs.Checks.{gives, reply}
use Rattle.base.specs.Lists.{non_empty, flat_map}
use Rattle.base.proofs.Bools.{either, clash, and_left, and_right, and_both}
use Rattle.base.proofs.Checks.{NoneFail, none_fail, reply_after}
use Rattle.base.proofs.Lists.{take_drop, all_last}
use Rattle.declare.specs.Traces.{longest_trace, all_below}
use Rattle.fields.specs.Field.{line_feed, well_formed, value, spell}
use Rattle.fields.proofs.Fields.{length_spell, spelled_is_field, field_is_spelled, value_bound}
use Rattle.eventlog.specs.declared.Room.{Room}
use Rattle.eventlog.specs.Store.{Memory, total, sound, room, after_traces, full}
use Rattle.eventlog.proofs.Adding.{NotFull, is_not_full}
use Rattle.eventlog.proofs.Traces.{Acceptable, total_last}
use Rattle.columns.specs.Log.{Line, line_of, lines, last?, number_falls, same_trace, extend_last, Before, nothing_read, with_line, length_of, line_checks, log_checks_from, log_checks, spelled_from, spelled}
use Rattle.columns.specs.Layout.{line_text, Numbered, traces_of, written, WritableAfter, Writable, numbered_from, laid_out_after, laid_out, storable, HasRoom, MeansLayout}
use Rattle.columns.proofs.Lines.{lines_none, lines_first}
use Rattle.columns.specs.Calls.{checks_of_read}
use Rattle.columns.proofs.Agree.{extended}
use Rattle.columns.proofs.Laws.{fitting_read}

-- ## One line

-- what a line is read as
abbrev as_line : ℕ → ℕ → Line
as_line number activity = record { laid_out = true; number = number; activity = activity }

length_line : (n a : ℕ) → length (line_text n a) ≡ 10
length_line n a =
    omega (
      arith,
      length-append (spell 6 n ++ spell 3 a) (line_feed ∷ []),
      length-append (spell 6 n) (spell 3 a),
      length_spell 6 n,
      length_spell 3 a,
    )

line_read : (n a : ℕ) → 1 ≤ n → n ≤ 999999 → a < 1000 → line_of (line_text n a) ≡ as_line n a
line_read n a least most below =
    let x = spell 6 n in
    let y = spell 3 a in
    let end = line_feed ∷ [] in
    let six = length_spell 6 n in
    let nine : length (x ++ y) ≡ 9 = omega (arith, length-append x y, length_spell 6 n, length_spell 3 a) in
    let front : take 6 (x ++ y ++ end) ≡ x = ap (take 6) (append_assoc x y end) ∙ take_at x (y ++ end) 6 six in
    let middle : drop 6 (take 9 (x ++ y ++ end)) ≡ y = ap (drop 6) (take_at (x ++ y) end 9 nine) ∙ drop_at x y 6 six in
    let number = spelled_is_field 6 n (omega arith) (omega arith) in
    let activity = spelled_is_field 3 a (omega arith) (omega arith) in
    rw (
      eq-eqb (length (line_text n a)) 10 (length_line n a),
      front,
      middle,
      number.formed,
      number.valued,
      activity.formed,
      activity.valued,
      le-leb 1 n least,
      get_or_at (x ++ y) line_feed [] 0 9 nine,
    )

-- A line that is laid out is the text of what it is read as.
record LineText (bytes : List ℕ) : Type 0 where
  is_text : bytes ≡ line_text (line_of bytes).number (line_of bytes).activity
  least : 1 ≤ (line_of bytes).number
  most : (line_of bytes).number ≤ 999999
  below : (line_of bytes).activity < 1000

module _ (bytes : List ℕ) (ten : length bytes ≡ 10) where
  parts : bytes ≡ slice 0 6 bytes ++ slice 6 9 bytes ++ get_or bytes 9 0 ∷ []
  parts =
      sym (take-append-drop 9 bytes)
      ∙ ap₂ ◌++◌ (take-add 6 3 bytes ∙ ap (λ l. take 6 bytes ++ l) (take_drop 6 3 bytes))
      (drop-cons bytes 9 0 (omega arith) ∙ ap (λ l. get_or bytes 9 0 ∷ l) (drop_all 10 bytes (omega arith)))

line_is_text : (bytes : List ℕ) → (line_of bytes).laid_out ≡ true → LineText bytes
line_is_text bytes e =
    let x = slice 0 6 bytes in
    let y = slice 6 9 bytes in
    let long = eqb (length bytes) 10 in
    let feed = eqb (get_or bytes 9 0) line_feed in
    let fields = long && well_formed x && leb 1 (value x) && well_formed y in
    let numbered = long && well_formed x && leb 1 (value x) in
    let all_fields : fields ≡ true = and_left fields feed e in
    let all_numbered : numbered ≡ true = and_left numbered (well_formed y) all_fields in
    let front : long && well_formed x ≡ true = and_left (long && well_formed x) (leb 1 (value x)) all_numbered in
    let ten : length bytes ≡ 10 = eqb-true (length bytes) 10 (and_left long (well_formed x) front) in
    let number : well_formed x ≡ true = and_right long (well_formed x) front in
    let activity : well_formed y ≡ true = and_right numbered (well_formed y) all_fields in
    let last : get_or bytes 9 0 ≡ line_feed = eqb-true (get_or bytes 9 0) line_feed (and_right fields feed e) in
    let six : length x ≡ 6 = length-take-le 6 bytes (omega arith) in
    let three : length y ≡ 3 = length-slice 6 9 bytes (omega arith) in
    record {
      is_text =
          parts bytes ten
          ∙ ap₂ (λ fs f. fs ++ f ∷ [])
          (ap₂ ◌++◌ (rw six at (field_is_spelled x number)) (rw three at (field_is_spelled y activity))) last;
      least = leb-true 1 (value x) (and_right (long && well_formed x) (leb 1 (value x)) all_numbered);
      most = let fits : value x < 10 ^ 6 = rw six at (value_bound x number) in omega arith;
      below = rw three at (value_bound y activity);
    }

-- ## What is written is read back

-- Lines that are laid out behind others, and spell these traces.
record Reads (before : Before) (rest : List Line) (traces : List (List ℕ)) : Type 0 where
  laid : laid_out_after before.line rest ≡ true
  spells : spelled_from before rest ≡ traces

-- the line goes on with no trace before it, and may stand there
abbrev Begins : Option Line → Line → Type 0
Begins before line = (same_trace before line ≡ false) × (number_falls before line ≡ false)

-- behind a line of number n and its trace so far
abbrev within : ℕ → ℕ → List (List ℕ) → List ℕ → Before
within n a traces trace = record { line = some (as_line n a); traces = traces ++ trace ∷ [] }

module _ (n : ℕ) (least : 1 ≤ n) (most : n ≤ 999999) (rest : List ℕ) (all : List (List ℕ)) where
  -- a line more
  line_on :
      (before : Before) (a : ℕ) (text : List ℕ) → a < 1000 → number_falls before.line (as_line n a) ≡ false →
      Reads (with_line before (as_line n a)) (lines text) all → Reads before (lines (line_text n a ++ text)) all
  line_on before a text below rises on =
      let ten = length_line n a in
      let here : lines (line_text n a ++ text) ≡ as_line n a ∷ lines text =
      lines_first (line_text n a ++ text) (omega (arith, length-append (line_text n a) text))
      ∙ ap₂ (λ first more. line_of first ∷ lines more) (take_at (line_text n a) text 10 ten) (drop_at (line_text n a) text 10 ten)
      ∙ ap (λ line. line ∷ lines text) (line_read n a least most below) in
      rw here (record { laid = rw rises on.laid; spells = on.spells })

  -- the rest of a trace
  trace_on :
      (traces : List (List ℕ)) (more : List ℕ) (a : ℕ) (trace : List ℕ) → all_below 1000 more ≡ true →
      ((b : ℕ) → Reads (within n b traces (trace ++ more)) (lines rest) all) →
      Reads (within n a traces trace) (lines (flat_map more (line_text n) ++ rest)) all
  trace_on traces [] a trace h on = rw append-nil at (on a)
  trace_on traces (x ∷ more) a trace h on =
      let below = ltb-true x 1000 (and_left (ltb x 1000) (all_below 1000 more) h) in
      let next : with_line (within n a traces trace) (as_line n x) ≡ within n x traces (trace ++ x ∷ []) =
      rw (eq-eqb n n refl, extended traces trace x) in
      rw (append_assoc (line_text n x) (flat_map more (line_text n)) rest)
      (line_on (within n a traces trace) x (flat_map more (line_text n) ++ rest) below (le-ltb n n (omega arith))
      (rw next
      (trace_on traces more x (trace ++ x ∷ []) (and_right (ltb x 1000) (all_below 1000 more) h)
      (λ b. rw (append_assoc trace (x ∷ []) more) (on b)))))

  -- a whole trace, where a line of its number begins one
  whole_trace :
      (before : Before) → ((a : ℕ) → Begins before.line (as_line n a)) → (trace : List ℕ) → non_empty trace ≡ true →
      all_below 1000 trace ≡ true → ((b : ℕ) → Reads (within n b before.traces trace) (lines rest) all) →
      Reads before (lines (flat_map trace (line_text n) ++ rest)) all
  whole_trace before new [] filled h on = clash filled refl
  whole_trace before new (x ∷ more) filled h on =
      let below = ltb-true x 1000 (and_left (ltb x 1000) (all_below 1000 more) h) in
      rw (append_assoc (line_text n x) (flat_map more (line_text n)) rest)
      (line_on before x (flat_map more (line_text n) ++ rest) below (new x).1
      (rw (new x).0 (trace_on before.traces more x (x ∷ []) (and_right (ltb x 1000) (all_below 1000 more) h) on)))

-- all traces, where a line of a number above the last begins one
traces_on :
    (ts : List Numbered) (last : ℕ) (before : Before) → ((n a : ℕ) → last < n → Begins before.line (as_line n a)) →
    WritableAfter last ts → Reads before (lines (written ts)) (before.traces ++ traces_of ts)
traces_on [] last before new w = rw (lines_none, append-nil) (record { laid = refl; spells = refl })
traces_on (t ∷ ts) last before new w =
    whole_trace t.number (omega (arith, w.0)) w.1 (written ts) (before.traces ++ traces_of (t ∷ ts)) before (λ a. new t.number a w.0)
    t.trace w.2 w.3
    (λ b.
    rw (append_assoc before.traces (t.trace ∷ []) (traces_of ts)) at
    (traces_on ts t.number (within t.number b before.traces t.trace) (λ n a above. higher n t.number above) w.4))
  where
    higher : (n last : ℕ) → last < n → (eqb n last ≡ false) × (ltb n last ≡ false)
    higher n last above = (ne_eqb n last (λ e. omega arith), le-ltb n last (omega arith))

reads_back : (ts : List Numbered) → Writable ts → (laid_out (written ts) ≡ true) × (spelled (written ts) ≡ traces_of ts)
unfolding laid_out spelled
reads_back ts w = let r = traces_on ts 0 nothing_read (λ n a above. (refl, refl)) w in (r.laid, r.spells)

-- ## A log that is laid out was written

-- What the first line of a log that is laid out is, behind another.
record FirstLine (before : Option Line) (log : List ℕ) : Type 0 where
  line : Line
  is : line_text line.number line.activity ++ drop 10 log ≡ log
  least : 1 ≤ line.number
  most : line.number ≤ 999999
  below : line.activity < 1000
  rises : number_falls before line ≡ false
  rest : laid_out_after (some line) (lines (drop 10 log)) ≡ true

-- what laid out lines say of the first of them
first_laid :
    (before : Option Line) (line : Line) (rest : List Line) → laid_out_after before (line ∷ rest) ≡ true →
    (line.laid_out ≡ true) × (number_falls before line ≡ false) × (laid_out_after (some line) rest ≡ true)
first_laid before line rest h =
    let rises = not (number_falls before line) in
    let after = laid_out_after (some line) rest in
    let here : line.laid_out && rises ≡ true = and_left (line.laid_out && rises) after h in
    let no_fall = not-true (number_falls before line) (and_right line.laid_out rises here) in
    (and_left line.laid_out rises here, no_fall, and_right (line.laid_out && rises) after h)

first_line : (before : Option Line) (log : List ℕ) → 0 < length log → laid_out_after before (lines log) ≡ true → FirstLine before log
first_line before log filled h =
    let line = line_of (take 10 log) in
    let first = first_laid before line (lines (drop 10 log)) (rw (lines_first log filled) at h) in
    let text = line_is_text (take 10 log) first.0 in
    record {
      line = line;
      is = ap (λ l. l ++ drop 10 log) (sym text.is_text) ∙ take-append-drop 10 log;
      least = text.least;
      most = text.most;
      below = text.below;
      rises = first.1;
      rest = first.2;
    }

-- A log that is the rest of a trace of number n, and traces of higher numbers.
record Written (n : ℕ) (log : List ℕ) : Type 0 where
  more : List ℕ
  ts : List Numbered
  below : all_below 1000 more ≡ true
  writable : WritableAfter n ts
  is : flat_map more (line_text n) ++ written ts ≡ log

-- a line of that number before it
module _ (n a : ℕ) (log : List ℕ) (small : a < 1000) (w : Written n log) where
  one_more : all_below 1000 (a ∷ w.more) ≡ true
  one_more = rw (lt-ltb a 1000 small) w.below

  one_line : flat_map (a ∷ w.more) (line_text n) ++ written w.ts ≡ line_text n a ++ log
  one_line = append_assoc (line_text n a) (flat_map w.more (line_text n)) (written w.ts) ∙ ap (λ l. line_text n a ++ l) w.is

  goes_on : Written n (line_text n a ++ log)
  goes_on = record { more = a ∷ w.more; ts = w.ts; below = one_more; writable = w.writable; is = one_line }

  -- behind a lower number it begins a trace
  begins : (last : ℕ) → last < n → n ≤ 999999 → (ts : List Numbered) × WritableAfter last ts × (written ts ≡ line_text n a ++ log)
  begins last least most =
      (record { number = n; trace = a ∷ w.more } ∷ w.ts, (least, most, refl, one_more, w.writable), one_line)

was_written :
    (fuel : ℕ) (log : List ℕ) (line : Line) → length log ≤ fuel → laid_out_after (some line) (lines log) ≡ true → Written line.number log
was_written fuel [] line enough h = record { more = []; ts = []; below = refl; writable = tt; is = refl }
was_written zero (b ∷ bs) line enough h = absurd (omega arith)
was_written (suc fuel) (b ∷ bs) line enough h =
    let f = first_line (some line) (b ∷ bs) (omega arith) h in
    let n = f.line.number in
    let behind = drop 10 (b ∷ bs) in
    let rest = was_written fuel behind f.line (omega (arith, length-drop 10 (b ∷ bs))) f.rest in
    subst (Written line.number) f.is
    (either (eqb n line.number)
    (λ q.
    subst (λ k. Written k (line_text n f.line.activity ++ behind)) (eqb-true n line.number q)
    (goes_on n f.line.activity behind f.below rest))
    (λ q.
    let apart = eqb-false n line.number q in
    let new = begins n f.line.activity behind f.below rest line.number (omega (arith, ltb-false n line.number f.rises)) f.most in
    record { more = []; ts = new.0; below = refl; writable = new.1; is = new.2 }))

all_written : (log : List ℕ) → laid_out_after none (lines log) ≡ true → (ts : List Numbered) × Writable ts × (written ts ≡ log)
all_written [] h = ([], tt, refl)
all_written (b ∷ bs) h =
    let f = first_line none (b ∷ bs) (omega arith) h in
    let rest = was_written (length bs) (drop 10 (b ∷ bs)) f.line (omega (arith, length-drop 10 (b ∷ bs))) f.rest in
    let ts = begins f.line.number f.line.activity (drop 10 (b ∷ bs)) f.below rest 0 f.least f.most in
    (ts.0, ts.1, ts.2 ∙ f.is)

writes_back : (log : List ℕ) → laid_out log ≡ true → (ts : List Numbered) × Writable ts × (written ts ≡ log) × (spelled log ≡ traces_of ts)
unfolding laid_out
writes_back log h =
    let w = all_written log h in
    (w.0, w.1, w.2, ap spelled (sym w.2) ∙ (reads_back w.0 w.1).1)

-- ## Rising numbers

rising :
    (traces : List (List ℕ)) (last first : ℕ) → list_all non_empty traces ≡ true → list_all (all_below 1000) traces ≡ true →
    last < first → first + length traces ≤ 1000000 → WritableAfter last (numbered_from first traces)
rising [] last first filled below least most = tt
rising (trace ∷ traces) last first filled below least most =
    let all_filled = list_all non_empty traces in
    let all_small = list_all (all_below 1000) traces in
    let some = and_left (non_empty trace) all_filled filled in
    let small = and_left (all_below 1000 trace) all_small below in
    let filled' = and_right (non_empty trace) all_filled filled in
    let below' = and_right (all_below 1000 trace) all_small below in
    (least, omega arith, some, small, rising traces first (suc first) filled' below' (omega arith) (omega arith))

same_traces : (traces : List (List ℕ)) (first : ℕ) → traces_of (numbered_from first traces) ≡ traces
same_traces [] first = refl
same_traces (trace ∷ traces) first = ap (λ l. trace ∷ l) (same_traces traces (suc first))

-- ## Room

-- a trace of one activity more can be stored
shorter :
    (n : ℕ) (trace : List ℕ) (x : ℕ) → storable n (trace ++ x ∷ []) ≡ true →
    (storable n trace ≡ true) × (x < n) × (length trace < longest_trace)
shorter n trace x h =
    let longer = trace ++ x ∷ [] in
    let fits = leb (length longer) longest_trace in
    let both : all_below n trace && ltb x n ≡ true = sym (all_last (λ y. ltb y n) trace x) ∙ and_left (all_below n longer) fits h in
    let short = leb-true (length longer) longest_trace (and_right (all_below n longer) fits h) in
    let below : length trace < longest_trace = omega (arith, length-append trace (x ∷ [])) in
    let each = and_left (all_below n trace) (ltb x n) both in
    let kept = and_both (all_below n trace) (leb (length trace) longest_trace) each (le-leb (length trace) longest_trace (omega arith)) in
    (kept, ltb-true x n (and_right (all_below n trace) (ltb x n) both), below)

extended_each :
    (n : ℕ) (traces : List (List ℕ)) (x : ℕ) → list_all (storable n) (extend_last traces x) ≡ true →
    (list_all (storable n) traces ≡ true) × (x < n) × (length_of (last? traces) < longest_trace)
extended_each n [] x h = let s = shorter n [] x (and_left (storable n (x ∷ [])) true h) in (refl, s.1, s.2)
extended_each n (trace ∷ []) x h =
    let s = shorter n trace x (and_left (storable n (trace ++ x ∷ [])) true h) in
    (and_both (storable n trace) true s.0 refl, s.1, s.2)
extended_each n (trace ∷ (next ∷ traces)) x h =
    let rest = list_all (storable n) (extend_last (next ∷ traces) x) in
    let s = extended_each n (next ∷ traces) x (and_right (storable n trace) rest h) in
    (and_both (storable n trace) (list_all (storable n) (next ∷ traces)) (and_left (storable n trace) rest h) s.0, s.1, s.2)

extended_size :
    (traces : List (List ℕ)) (x : ℕ) → (total (extend_last traces x) ≡ total traces + 1) × (length traces ≤ length (extend_last traces x))
extended_size [] x = (refl, omega arith)
extended_size (trace ∷ []) x = (omega (arith, length-append trace (x ∷ [])), omega arith)
extended_size (trace ∷ (next ∷ traces)) x = let s = extended_size (next ∷ traces) x in (omega (arith, s.0), omega (arith, s.1))

-- There is room for the traces before a line, and for its activity.
record Placed (r : Room) (before : Before) (line : Line) : Type 0 where
  room_before : HasRoom r before.traces
  declared : line.activity < r.activities
  goes_on : same_trace before.line line ≡ true → length_of (last? before.traces) < longest_trace
  starts : same_trace before.line line ≡ false → NotFull (after_traces r before.traces)
  fits : r.last + total before.traces < r.space.events

module _ (r : Room) where
  -- where there is room for one event more there is room for what was before it
  fewer :
      (traces after : List (List ℕ)) → list_all (storable r.activities) traces ≡ true → length traces ≤ length after →
      total after ≡ total traces + 1 → HasRoom r after → HasRoom r traces
  fewer traces after each count size h =
      record {
        each = each;
        few = omega (arith, h.few);
        has_ends = omega (arith, h.has_ends);
        has_words = omega (arith, h.has_words);
        fits = omega (arith, h.fits);
      }

  placed : (before : Before) (line : Line) → HasRoom r (with_line before line).traces → Placed r before line
  placed before line h = by (same_trace before.line line) refl h
    where
      by :
          (same : Bool) → same_trace before.line line ≡ same →
          HasRoom r (if same then extend_last before.traces line.activity else before.traces ++ (line.activity ∷ []) ∷ []) →
          Placed r before line
      by true q h =
          let each = extended_each r.activities before.traces line.activity h.each in
          let size = extended_size before.traces line.activity in
          record {
            room_before = fewer before.traces (extend_last before.traces line.activity) each.0 size.1 size.0 h;
            declared = each.1;
            goes_on = λ e. each.2;
            starts = λ e. clash q e;
            fits = omega (arith, size.0, h.fits);
          }
      by false q h =
          let new = line.activity ∷ [] in
          let all = list_all (storable r.activities) before.traces in
          let both : all && storable r.activities new ≡ true = sym (all_last (storable r.activities) before.traces new) ∙ h.each in
          let count = length-append before.traces (new ∷ []) in
          let size = total_last before.traces new in
          record {
            room_before =
                fewer before.traces (before.traces ++ new ∷ []) (and_left all (storable r.activities new) both) (omega arith) size h;
            declared = (shorter r.activities [] line.activity (and_right all (storable r.activities new) both)).1;
            goes_on = λ e. clash e q;
            starts =
                λ e.
                record {
                  below_most = omega (arith, h.few);
                  has_end = omega (arith, h.has_ends);
                  has_word = omega (arith, h.has_words);
                };
            fits = omega (arith, h.fits);
          }

  room_before : (rest : List Line) (before : Before) → HasRoom r (spelled_from before rest) → HasRoom r before.traces
  room_before [] before h = h
  room_before (line ∷ rest) before h = (placed before line (room_before rest (with_line before line) h)).room_before

  line_passes :
      (before : Before) (place : ℕ) (line : Line) → line.laid_out ≡ true → number_falls before.line line ≡ false → Placed r before line →
      NoneFail (line_checks r before place line)
  line_passes before place line laid rises p =
      let same = same_trace before.line line in
      let long = length_of (last? before.traces) in
      let short : same && eqb long longest_trace ≡ false =
      either same (λ q. let less = p.goes_on q in rw (q, ne_eqb long longest_trace (λ e. omega arith))) (λ q. rw q) in
      let not_full : not same && full (after_traces r before.traces) ≡ false =
      either same (λ q. rw q)
      (λ q. rw q (is_not_full (after_traces r before.traces) (p.starts q))) in
      let declared = lt-leb r.activities line.activity p.declared in
      let fits = le-ltb r.space.events (r.last + total before.traces + 1) (omega (arith, p.fits)) in
      (ap not laid, (rises, (declared, (short, (not_full, (fits, tt))))))

  passes_from :
      (rest : List Line) (before : Before) (place : ℕ) (values : List ℕ) → laid_out_after before.line rest ≡ true →
      HasRoom r (spelled_from before rest) → reply (log_checks_from r before place rest) values ≡ gives values
  passes_from [] before place values h room = refl
  passes_from (line ∷ rest) before place values h room =
      let first = first_laid before.line line rest h in
      let after = with_line before line in
      reply_after (log_checks_from r after (place + 1) rest) (line_checks r before place line) values
      (line_passes before place line first.0 first.1 (placed before line (room_before rest after room)))
      ∙ passes_from rest after (place + 1) values first.2 room

  laid_out_from :
      (rest : List Line) (before : Before) (place : ℕ) → NoneFail (log_checks_from r before place rest) →
      laid_out_after before.line rest ≡ true
  laid_out_from [] before place n = refl
  laid_out_from (line ∷ rest) before place n =
      let rises = not (number_falls before.line line) in
      and_both (line.laid_out && rises) (laid_out_after (some line) rest)
      (and_both line.laid_out rises (not-false line.laid_out n.0) (ap not n.1.0))
      (laid_out_from rest (with_line before line) (place + 1) n.1.1.1.1.1.1)

-- ## Just where read accepts

acceptable_each : (n : ℕ) (traces : List (List ℕ)) → Acceptable n traces → list_all (storable n) traces ≡ true
acceptable_each n [] e = refl
acceptable_each n (trace ∷ traces) e =
    let short = le-leb (length trace) longest_trace e.1 in
    and_both (storable n trace) (list_all (storable n) traces)
    (and_both (all_below n trace) (leb (length trace) longest_trace) e.0 short) (acceptable_each n traces e.2)

passes : (r : Room) (log values : List ℕ) → laid_out log ≡ true → HasRoom r (spelled log) → reply (log_checks r log) values ≡ gives values
unfolding laid_out log_checks spelled
passes r log values h room = passes_from r (lines log) nothing_read 1 values h room

module _ (m : Memory) (log values : List ℕ) where
  sound_passes : sound m ≡ true → reply (checks_of_read m log) values ≡ reply (log_checks (room m) log) values
  sound_passes h = rw h

  accepted_sound : reply (checks_of_read m log) values ≡ gives values → sound m ≡ true
  accepted_sound e = not-false (sound m) (none_fail (checks_of_read m log) values values e).0

  accepted_laid_out : reply (checks_of_read m log) values ≡ gives values → laid_out log ≡ true
  unfolding laid_out log_checks
  accepted_laid_out e = laid_out_from (room m) (lines log) nothing_read 1 (none_fail (checks_of_read m log) values values e).1

  accepted_room : reply (checks_of_read m log) values ≡ gives values → HasRoom (room m) (spelled log)
  accepted_room e =
      let f = fitting_read m log (accepted_sound e) (none_fail (checks_of_read m log) values values e).1 in
      record {
        each = acceptable_each m.store.activities (spelled log) f.each;
        few = f.few;
        has_ends = f.has_ends;
        has_words = f.has_words;
        fits = f.fits;
      }

pub means_layout : MeansLayout
means_layout =
    record {
      reads_back = reads_back;
      writes_back = writes_back;
      rising_numbers =
          λ traces filled below few.
          rw same_traces at (reads_back (numbered_from 1 traces) (rising traces 0 1 filled below (omega arith) (omega arith)));
      passes = passes;
      just_these =
          λ m log values. (
            λ e. (accepted_sound m log values e, accepted_laid_out m log values e, accepted_room m log values e),
            λ h. sound_passes m log values h.0 ∙ passes (room m) log values h.1 h.2,
          );
    }

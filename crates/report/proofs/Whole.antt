-- Each printed number fits its columns: the theorem of specs/Whole.
-- Assumes nothing.
use Prim.Native.Nat.{ℕ, zero, suc, ◌+◌, ◌*◌, ◌^◌, ◌≤◌, ◌<◌}
use native.Mathlib.Omega.{arith}
use mathlib.Core.Path.{◌≡◌, refl, ap, subst}
use mathlib.Core.Bool.{true}
use mathlib.Core.List.{List, [], ◌∷◌, Mem}
use borrow.Author.Tests.{ltb-false, not-false}
use lib.ListN.{length, replicate, length-replicate, length-drop, drop}
use Rattle.base.specs.Lists.{non_empty}
use Rattle.base.specs.Checks.{refused, reply}
use Rattle.base.proofs.Checks.{NoneFail, none_fail, none_fail_both, Each, each_append, refused_each}
use Rattle.base.proofs.Lists.{count_at_most}
use Rattle.declare.specs.Meaning.{meanings, holds, activated, fulfilled}
use Rattle.declare.specs.Constraints.{constraints}
use Rattle.declare.specs.Traces.{most_activities, declarable}
use Rattle.eventlog.specs.declared.Room.{Room}
use native.Mathlib.Nat.{mul-le-mul}
use Rattle.eventlog.specs.Store.{kept, last_end}
use Rattle.base.proofs.Ranges.{range_facts}
use Rattle.eventlog.proofs.Laws.{kept_length, sound_facts}
use Rattle.columns.specs.Log.{Line, Before, nothing_read, with_line, lines_within, lines, log_checks_from, log_checks, spelled}
use Rattle.eventlog.specs.Calls.{with_traces}
use Rattle.declare.specs.declared.constraints.Constraint.{Constraint}
use Rattle.pruning.specs.declared.Settings.{Settings}
use Rattle.pruning.specs.Question.{Question, trace_count, support, fulfilments, activations}
use Rattle.discovery.specs.Listing.{listed, replayed, events_read}
use Rattle.discovery.specs.Calls.{find_checks}
use Rattle.discovery.proofs.Listing.{listed_exactly, replayed_at_most, read_at_most_last, listed_within_replayed}
use Rattle.declare.proofs.constraints.Members.{few_numbers}
use Rattle.report.specs.declared.Arrays.{Arrays}
use Rattle.report.specs.Print.{number_width, detail_width}
use Rattle.report.specs.Report.{most_input, lent_space, lent_list, log_of, settings_laid_out, activities_set, settings_set}
use Rattle.report.specs.Report.{log_question, question_set, room_lent, checks_to_read, checks_of_report, empty_store}
use Rattle.report.specs.Whole.{WholeLines, Whole}
use Rattle.report.specs.Examples.{sample}
use Rattle.report.proofs.Reading.{Buffers, filled}

-- ## Refusals

abbrev WholeRefusal : ℕ → ℕ → Type 0
WholeRefusal number detail = (number < 10 ^ number_width) × (detail < 10 ^ detail_width)

-- a log's details are its lines
whole_lines :
    (r : Room) (before : Before) (place : ℕ) (ls : List Line) → place + length ls ≤ 10 ^ detail_width →
    Each WholeRefusal (log_checks_from r before place ls)
whole_lines r before place [] h = tt
whole_lines r before place (line ∷ rest) h =
    let p : place < 10 ^ detail_width = omega arith in (
      (omega arith, p),
      λ a. (
        (omega arith, p),
        λ b. (
          (omega arith, p),
          λ c. (
            (omega arith, p),
            λ d. (
              (omega arith, p),
              λ e. (
                (omega arith, p),
                λ f.
                    whole_lines r (with_line before line) (place + 1) rest (omega arith),
              ),
            ),
          ),
        ),
      ),
    )

lines_few : (most : ℕ) (log : List ℕ) → length (lines_within most log) ≤ most
lines_few zero log = omega arith
lines_few (suc most) [] = omega arith
lines_few (suc most) (byte ∷ bytes) = omega (arith, lines_few most (drop 10 (byte ∷ bytes)))

whole_log : (r : Room) (log : List ℕ) → length log ≤ most_input → Each WholeRefusal (log_checks r log)
unfolding log_checks lines
whole_log r log h = whole_lines r nothing_read 1 (lines log) (omega (arith, lines_few (length log) log))

-- ## A find's numbers

module _ (q : Question) (few : q.activities ≤ most_activities) where
  replayed_few : length (replayed q) ≤ 14336
  replayed_few = few_numbers q.activities (length (replayed q)) few (replayed_at_most q)

  listed_few : length (listed q) ≤ 14336
  listed_few = omega (arith, replayed_few, listed_within_replayed q)

  whole_find : Each WholeRefusal (find_checks q lent_list)
  whole_find =
      ((omega arith, omega arith), λ a. ((omega arith, omega arith), λ b. ((omega arith, omega arith), λ c. ((omega arith, omega (arith, listed_few)), λ d. tt))))

whole_refusal :
    (input : List ℕ) (number detail : ℕ) → reply (checks_of_report input) [] ≡ refused number detail → WholeRefusal number detail
unfolding checks_to_read checks_of_report
whole_refusal input number detail =
    let n = activities_set input in
    let log = log_of input in
    refused_each WholeRefusal (checks_of_report input) [] number detail (
      (omega arith, omega arith),
      λ short. (
        (omega arith, omega arith),
        λ laid_out. (
          (omega arith, omega arith),
          λ passes. (
            (omega arith, omega arith),
            λ met. (
              (omega arith, omega arith),
              λ confident.
                  each_append WholeRefusal (log_checks (room_lent n) log) (find_checks (question_set input) lent_list)
                  (whole_log (room_lent n) log (omega (arith, ltb-false most_input (length input) short, length-drop 12 input)))
                  (λ read. whole_find (question_set input) (range_facts 1 n most_activities (not-false (declarable n) passes)).1),
            ),
          ),
        ),
      ),
    )

-- ## The report

-- some arrays that are lent
unfoldable some_arrays : Arrays
some_arrays =
    record {
      events = replicate lent_space.events 0;
      ends = replicate lent_space.ends 0;
      words = replicate lent_space.words 0;
      list = [];
    }

buffers : Buffers some_arrays
unfolding some_arrays
buffers =
    record {
      events = length-replicate {A = ℕ} lent_space.events 0;
      ends = length-replicate {A = ℕ} lent_space.ends 0;
      words = length-replicate {A = ℕ} lent_space.words 0;
    }

module _ (n : ℕ) (settings : Settings) (log : List ℕ) (declared : declarable n ≡ true) (none : NoneFail (log_checks (room_lent n) log)) where
  abbrev q : Question
  q = log_question n settings log

  traces_few : length q.traces ≤ 4095
  traces_few =
      let m = with_traces (empty_store n some_arrays) (spelled log) in
      let f = filled n settings log declared some_arrays buffers none in
      omega (
        arith,
        kept_length m f.is_sound,
        (sound_facts m f.is_sound).few_traces,
        count_at_most non_empty (kept m),
        ap (λ (q : Question). length q.traces) f.asks,
      )

  read_few : events_read q (replayed q) ≤ length (replayed q) * 6552
  read_few =
      let m = with_traces (empty_store n some_arrays) (spelled log) in
      let f = filled n settings log declared some_arrays buffers none in
      let most : events_read q (replayed q) ≤ length (replayed q) * last_end m =
      subst (λ q. events_read q (replayed q) ≤ length (replayed q) * last_end m) f.asks (read_at_most_last m settings f.is_sound) in
      let same : length (replayed q) ≤ length (replayed q) = omega arith in
      omega (arith, most, mul-le-mul same f.fits)

  fulfilled_few : (c : Constraint) → fulfilments q.traces c ≤ 4095
  unfolding fulfilments
  fulfilled_few c = omega (arith, traces_few, count_at_most (fulfilled c.template c.a c.b) q.traces)

  activated_few : (c : Constraint) → activations q.traces c ≤ 4095
  unfolding activations
  activated_few c = omega (arith, traces_few, count_at_most (activated c.template c.a c.b) q.traces)

  whole_report : WholeLines q
  whole_report =
      let high = (range_facts 1 n most_activities declared).1 in
      record {
        constraints = omega (arith, listed_few q high);
        replays = omega (arith, replayed_few q high);
        all = omega (arith, traces_few);
        read = omega (arith, read_few, replayed_few q high);
        each =
            λ c member.
            let over = (((listed_exactly q).members c).0 member).0 in
            (omega (arith, over.to_24), omega (arith, over.a_declared), omega (arith, over.b_declared), omega (arith, fulfilled_few c), omega (arith, activated_few c));
      }

-- nothing that is printed is cut
pub whole : (input : List ℕ) → Whole input
unfolding checks_to_read checks_of_report
whole input =
    record {
      refusal = whole_refusal input;
      report =
          λ passed.
          let n = activities_set input in
          let read = log_checks (room_lent n) (log_of input) in
          let (_, (_, (declared, (_, (_, later))))) = none_fail (checks_of_report input) [] [] passed in
          whole_report n (settings_set input) (log_of input) (not-false (declarable n) declared)
          (none_fail_both read (find_checks (question_set input) lent_list) later).0;
    }

-- ## What the claim says

refusals_fit :
    (input : List ℕ) (number detail : ℕ) → Whole input → reply (checks_of_report input) [] ≡ refused number detail →
    (number < 100) × (detail < 1000000)
refusals_fit input number detail w = w.refusal number detail

lines_fit :
    (q : Question) → WholeLines q →
    (length (listed q) < 1000000) × (length (replayed q) < 1000000) × (trace_count q < 1000000) × (events_read q (replayed q) < 10000000000)
lines_fit q w = (w.constraints, w.replays, w.all, w.read)

rules_fit :
    (q : Question) → WholeLines q → (c : Constraint) → Mem c (listed q) →
    (c.template < 100) × (c.a < 1000) × (c.b < 1000) × (fulfilments q.traces c < 100000) × (activations q.traces c < 100000)
rules_fit q w = w.each

-- document 01's sample is a find whose lines it speaks of
sample_fits : Whole sample → WholeLines (question_set sample)
unfolding
    sample lent_list checks_of_report checks_to_read settings_laid_out activities_set settings_set lines log_checks spelled constraints
    fulfilments activations support listed fulfilled activated holds meanings
sample_fits w = w.report refl

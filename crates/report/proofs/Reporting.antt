-- What is printed of the answer to an input is what the input's checks and question come to.
-- Assumes nothing.
use Prim.Native.Nat.{ℕ, ◌+◌, ◌*◌, ◌≤◌}
use native.Mathlib.Nat.{zero-add}
use native.Mathlib.Omega.{arith}
use mathlib.Core.Path.{◌≡◌, refl, sym, ap, ◌∙◌}
use mathlib.Core.List.{List, [], ◌∷◌, ◌++◌}
use lib.ListN.{length, drop, length-append}
use lib.Seq.{sets, sets-eq, length-sets}
use Rattle.std.specs.Prelude.{Result, Ok, Err}
use Rattle.std.specs.Simd.{first_chunks}
use Rattle.base.specs.Lists.{flat_map}
use Rattle.base.specs.Checks.{Check, reply}
use Rattle.base.proofs.Checks.{none_fail_reply, refused_same}
use Rattle.base.proofs.Outcomes.{accepted_passes, accepted_gives, accepted_leaves}
use Rattle.declare.specs.declared.constraints.Constraint.{Constraint}
use Rattle.answers.specs.declared.Refusal.{Refusal}
use Rattle.discovery.specs.declared.Found.{Found}
use Rattle.pruning.specs.declared.Settings.{Settings}
use Rattle.pruning.specs.Question.{Question, trace_count, fulfilments, activations}
use Rattle.discovery.specs.Listing.{listed, replayed, numbers, layout, events_read}
use Rattle.discovery.specs.Calls.{find_values, with_list}
use Rattle.discovery.proofs.Listing.{layout_length}
use Rattle.report.specs.declared.Arrays.{Arrays}
use Rattle.report.specs.Print.{constraint_line, found_text}
use Rattle.report.specs.Puts.{Puts, lines_of}
use Rattle.report.specs.Report.{activities_set, settings_set, log_of, log_question, then_find, checks_to_read, checks_of_report, printed, output_of, Reports}
use Rattle.report.specs.Stages.{Decides, Decided, answer_text}
use Rattle.report.proofs.Puts.{put_same}

-- ## The list as it is laid out

module _ (q : Question) where
  abbrev lines_for : List Constraint → List ℕ
  lines_for cs = flat_map cs λ c. constraint_line c.template c.a c.b (fulfilments q.traces c) (activations q.traces c)

  lines_laid_out :
      (cs : List Constraint) (rest : List ℕ) → lines_of (first_chunks numbers (length cs) (layout q cs ++ rest)) ≡ lines_for cs
  unfolding layout
  lines_laid_out [] rest = refl
  lines_laid_out (c ∷ cs) rest = rw (lines_laid_out cs rest)

  lines_listed :
      (cs : List Constraint) (list : List ℕ) → numbers * length cs ≤ length list →
      lines_of (first_chunks numbers (length cs) (sets list 0 (layout q cs))) ≡ lines_for cs
  lines_listed cs list h =
      rw (sets-eq (layout q cs) list 0 (omega (arith, layout_length q cs))) (lines_laid_out cs (drop (0 + length (layout q cs)) list))

-- ## An answer

module _ (checks : List Check) (n : ℕ) (settings : Settings) (log : List ℕ) (arrays arrays' : Arrays) where
  abbrev q : Question
  q = log_question n settings log

  abbrev text : List ℕ
  text = printed (reply (then_find checks q) []) (found_text q)

  answer_printed : (answer : Result Found Refusal) → Decides checks n settings log arrays answer arrays' → answer_text answer arrays'.list ≡ text
  unfolding found_text
  answer_printed (Ok found) d =
      let o = d.finds in
      let given = accepted_gives o refl in
      let needed : found.constraints ≡ length (listed q) = cc in
      let replays : found.replayed ≡ length (replayed q) = cc in
      let traces : found.traces ≡ trace_count q = cc in
      let read : found.events_read ≡ events_read q (replayed q) = cc in
      let written : arrays'.list ≡ with_list q arrays.list = accepted_leaves o refl in
      let passed = none_fail_reply (then_find checks q) [] (accepted_passes o refl) in
      let same : length arrays'.list ≡ length arrays.list = rw (written, length-sets arrays.list 0 (layout q (listed q))) in
      rw (passed, written, needed, replays, traces, read, lines_listed q (listed q) arrays.list (omega arith))
  answer_printed (Err refusal) d = rw (refused_same (then_find checks q) (find_values q) [] _ _ (sym d.finds.says))

-- ## The report

-- the answer to the input, and then its text
pub printed_reports :
    {input : List ℕ} {arrays arrays' : Arrays} {answer : Result Found Refusal} {out : List ℕ} {written : ℕ} {out' : List ℕ} →
    Decided input arrays answer arrays' →
    Puts out 0 (length (answer_text answer arrays'.list)) (answer_text answer arrays'.list) written out' →
    Reports input arrays out written arrays' out'
unfolding checks_of_report output_of
printed_reports {input} {arrays} {arrays'} {answer} {out} d puts =
    let same = answer_printed (checks_to_read input) (activities_set input) (settings_set input) (log_of input) arrays arrays' answer d in
    let p = put_same same puts in
    record {
      counts = p.follows ∙ zero-add (length (output_of input));
      prints = p.stores ∙ sets-eq (output_of input) out 0 p.within ∙ rw zero-add;
      leaves = λ i. record { events = d.events i; ends = d.ends i; words = d.words i; list = d.finds.leaves i };
    }

-- what is written lies within the lent array
pub written_within :
    {input : List ℕ} {arrays : Arrays} {out : List ℕ} {written : ℕ} {arrays' : Arrays} {out' : List ℕ} →
    Reports input arrays out written arrays' out' → written ≤ length out'
written_within {input} {out = out} r =
    omega (arith, r.counts, ap length r.prints, length-append (output_of input) (drop (length (output_of input)) out))

-- nothing is left to the program: two outcomes of a report that meet its contract are the same
pub report_one :
    {input : List ℕ} {arrays : Arrays} {out : List ℕ} {written written' : ℕ} {arrays' arrays'' : Arrays} {out' out'' : List ℕ} →
    Reports input arrays out written arrays' out' → Reports input arrays out written' arrays'' out'' →
    (written ≡ written') × (arrays' ≡ arrays'') × (out' ≡ out'')
report_one r r' = (r.counts ∙ sym r'.counts, r.leaves ∙ sym r'.leaves, r.prints ∙ sym r'.prints)

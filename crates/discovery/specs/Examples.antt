-- Document 01's starred runs on the sorting table as one table with one theorem about the definitions; its sample, its two runs,
-- bounds and empty traces (document 02) beside them.
-- Assumes nothing.
use Rattle.std.specs.Prelude.{ℕ, ◌≡◌, refl, Bool, true, false, List, [], ◌∷◌, map, replicate}
use Rattle.base.specs.Lists.{range}
use Rattle.base.specs.Checks.{Reply, gives, refused, reply}
use Rattle.declare.specs.declared.Verdict.{Verdict}
use Rattle.declare.specs.declared.Verdict.TheVariants.{Fulfilled, NotActivated, Violated}
use Rattle.declare.specs.Meaning.{meanings, holds, activated, fulfilled, verdict}
use Rattle.declare.specs.Constraints.{constraint, constraints}
use Rattle.pruning.specs.declared.Settings.{Settings}
use Rattle.pruning.specs.Question.{Question, question_over, meets, confident, fulfilments, activations, support}
use Rattle.discovery.specs.Listing.{listed, replayed, events_read, layout}
use Rattle.discovery.specs.Calls.{find_checks, find_values}

abbrev by_both : ℕ → ℕ → Settings
by_both threshold confidence = record { threshold = threshold; confidence = confidence }

abbrev by : ℕ → Settings
by threshold = by_both threshold 0

-- A case of the table.
pub data Case : Type 0 where
  -- a trace, and templates on 0 and 1 with their verdicts (templates 1 to 8 are on 0)
  on : List ℕ → List (ℕ × Verdict) → Case
  -- how many traces there are, a count of them, and thresholds with whether the count meets them
  counted : ℕ → ℕ → List (ℕ × Bool) → Case
  -- how many traces are fulfilled for a constraint and in how many it is activated, and confidences with whether these counts meet them
  confident_by : ℕ → ℕ → List (ℕ × Bool) → Case
  -- a question, the list as it is laid out, and the numbers: listed, replayed, traces, events read
  finds : Question → List ℕ → List ℕ → Case
  -- a question, a slice lent for the list, and the reply
  replies : Question → List ℕ → Reply → Case

pub table : List Case
table =
    on [] ((14, NotActivated) ∷ (4, Fulfilled) ∷ (9, Violated) ∷ []) ∷
    on (0 ∷ 0 ∷ 1 ∷ []) ((14, Fulfilled) ∷ (15, Violated) ∷ (18, Fulfilled) ∷ []) ∷
    on (0 ∷ 1 ∷ 1 ∷ []) ((15, Fulfilled) ∷ (17, Fulfilled) ∷ (18, Violated) ∷ []) ∷
    on (1 ∷ 0 ∷ []) ((13, Fulfilled) ∷ (14, Violated) ∷ (17, Violated) ∷ (23, Fulfilled) ∷ []) ∷
    on (0 ∷ 2 ∷ 1 ∷ []) ((16, Violated) ∷ (23, Violated) ∷ (24, Fulfilled) ∷ []) ∷
    on (1 ∷ []) ((14, NotActivated) ∷ (17, Violated) ∷ []) ∷
    on (0 ∷ 1 ∷ 0 ∷ 1 ∷ []) ((21, Fulfilled) ∷ (22, Fulfilled) ∷ (5, Violated) ∷ []) ∷
    on (2 ∷ []) ((12, NotActivated) ∷ (13, NotActivated) ∷ []) ∷
    counted 3 2 ((666, true) ∷ (667, false) ∷ []) ∷
    replies (question_over 1 ([] ∷ []) (by 1000)) [] (refused 11 0) ∷
    []

pub sample : List Case
sample =
    finds (question_over 2 ((0 ∷ []) ∷ []) (by 1000))
    (
    1 ∷ 0 ∷ 0 ∷ 1 ∷ 1 ∷
    4 ∷ 1 ∷ 1 ∷ 1 ∷ 1 ∷
    5 ∷ 0 ∷ 0 ∷ 1 ∷ 1 ∷
    5 ∷ 1 ∷ 1 ∷ 1 ∷ 1 ∷
    6 ∷ 0 ∷ 0 ∷ 1 ∷ 1 ∷
    6 ∷ 1 ∷ 1 ∷ 1 ∷ 1 ∷
    7 ∷ 0 ∷ 0 ∷ 1 ∷ 1 ∷
    8 ∷ 0 ∷ 0 ∷ 1 ∷ 1 ∷
    9 ∷ 0 ∷ 1 ∷ 1 ∷ 1 ∷
    10 ∷ 0 ∷ 1 ∷ 1 ∷ 1 ∷
    12 ∷ 0 ∷ 1 ∷ 1 ∷ 1 ∷
    23 ∷ 0 ∷ 1 ∷ 1 ∷ 1 ∷
    23 ∷ 1 ∷ 0 ∷ 1 ∷ 1 ∷
    24 ∷ 0 ∷ 1 ∷ 1 ∷ 1 ∷
    24 ∷ 1 ∷ 0 ∷ 1 ∷ 1 ∷
    []
    )
    (15 ∷ 18 ∷ 1 ∷ 18 ∷ []) ∷ []

abbrev pub verdicts_on : List ℕ → List (ℕ × Verdict) → List (ℕ × Verdict)
verdicts_on trace [] = []
verdicts_on trace (r ∷ rows) = (r.0, verdict r.0 0 1 trace) ∷ verdicts_on trace rows

abbrev pub meetings : ℕ → ℕ → List (ℕ × Bool) → List (ℕ × Bool)
meetings all number [] = []
meetings all number (r ∷ rows) = (r.0, meets (record { activities = 0; settings = by r.0; traces = all }) number) ∷ meetings all number rows

abbrev pub confidences : ℕ → ℕ → List (ℕ × Bool) → List (ℕ × Bool)
confidences fulfilled activated [] = []
confidences fulfilled activated (r ∷ rows) = (r.0, confident (by_both 1 r.0) fulfilled activated) ∷ confidences fulfilled activated rows

-- a case with what the definitions say in it
abbrev pub by_definition : Case → Case
by_definition (on trace rows) = on trace (verdicts_on trace rows)
by_definition (counted all number rows) = counted all number (meetings all number rows)
by_definition (confident_by fulfilled activated rows) = confident_by fulfilled activated (confidences fulfilled activated rows)
by_definition (finds q list numbers) = finds q (layout q (listed q)) (find_values q)
by_definition (replies q list said) = replies q list (reply (find_checks q list) (find_values q))

abbrev pub all_by_definition : List Case → List Case
all_by_definition [] = []
all_by_definition (case ∷ cases) = by_definition case ∷ all_by_definition cases

pub table_holds : all_by_definition table ≡ table
unfolding table constraints fulfilments activations support listed replayed events_read layout verdict fulfilled activated holds meanings
table_holds = refl

pub sample_holds : all_by_definition sample ≡ sample
unfolding sample constraints fulfilments activations support listed replayed events_read layout verdict fulfilled activated holds meanings
sample_holds = refl

pub two_runs : find_values (question_over 2 ((0 ∷ 1 ∷ []) ∷ (0 ∷ 0 ∷ 1 ∷ []) ∷ []) (by 1000)) ≡ 18 ∷ 44 ∷ 2 ∷ 220 ∷ []
unfolding constraints fulfilments activations support listed replayed events_read layout fulfilled activated holds meanings
two_runs = refl

-- where neither activity of a pair occurs, pruning drops the choices and the not successions over it
pub without_either : find_values (question_over 3 ((2 ∷ []) ∷ []) (by 1000)) ≡ 25 ∷ 28 ∷ 1 ∷ 28 ∷ []
unfolding constraints fulfilments activations support listed replayed events_read layout fulfilled activated holds meanings
without_either = refl

-- Of a trace of 0 and one of 1, 1, 0 the second alone is read for what asks for 1 or for both: 150 events, where 44 constraints times 4 are 176.
pub not_all_read : find_values (question_over 2 ((0 ∷ []) ∷ [] ∷ (1 ∷ 1 ∷ 0 ∷ []) ∷ []) (by 1)) ≡ 26 ∷ 44 ∷ 2 ∷ 150 ∷ []
unfolding constraints fulfilments activations support listed replayed events_read layout fulfilled activated holds meanings
not_all_read = refl

-- beside a trace of length 1 two empty ones count for nothing, though 4 holds on them and 1, 7 and 8 do not
pub empty_ones : List Case
empty_ones =
    finds (question_over 1 ([] ∷ (0 ∷ []) ∷ [] ∷ []) (by 1000))
    (1 ∷ 0 ∷ 0 ∷ 1 ∷ 1 ∷ 5 ∷ 0 ∷ 0 ∷ 1 ∷ 1 ∷ 6 ∷ 0 ∷ 0 ∷ 1 ∷ 1 ∷ 7 ∷ 0 ∷ 0 ∷ 1 ∷ 1 ∷ 8 ∷ 0 ∷ 0 ∷ 1 ∷ 1 ∷ []) (5 ∷ 8 ∷ 1 ∷ 8 ∷ []) ∷
    replies (question_over 1 ([] ∷ [] ∷ []) (by 1)) [] (refused 11 0) ∷
    []

pub empty_ones_hold : all_by_definition empty_ones ≡ empty_ones
unfolding empty_ones constraints fulfilments activations support listed replayed events_read layout verdict fulfilled activated holds meanings
empty_ones_hold = refl

-- Over 0 1, an empty trace and 0: responded existence of 0 and 1 is broken half the time, and that of 1 and 0, which applies to one trace alone, is kept
-- there. At a confidence of 501 the first is not listed. No constraint is activated in the empty trace.
abbrev pub seldom : ℕ → Question
seldom confidence = question_over 2 ((0 ∷ 1 ∷ []) ∷ [] ∷ (0 ∷ []) ∷ []) (by_both 250 confidence)

pub activated_ones : List Case
activated_ones =
    confident_by 19 20 ((950, true) ∷ (951, false) ∷ []) ∷
    confident_by 0 0 ((0, true) ∷ (1000, true) ∷ []) ∷
    finds (seldom 501)
    (
    1 ∷ 0 ∷ 0 ∷ 2 ∷ 2 ∷
    5 ∷ 0 ∷ 0 ∷ 2 ∷ 2 ∷
    5 ∷ 1 ∷ 1 ∷ 2 ∷ 2 ∷
    6 ∷ 0 ∷ 0 ∷ 2 ∷ 2 ∷
    6 ∷ 1 ∷ 1 ∷ 2 ∷ 2 ∷
    7 ∷ 0 ∷ 0 ∷ 2 ∷ 2 ∷
    9 ∷ 0 ∷ 1 ∷ 2 ∷ 2 ∷
    13 ∷ 1 ∷ 0 ∷ 1 ∷ 1 ∷
    17 ∷ 0 ∷ 1 ∷ 1 ∷ 1 ∷
    18 ∷ 0 ∷ 1 ∷ 1 ∷ 1 ∷
    19 ∷ 0 ∷ 1 ∷ 1 ∷ 1 ∷
    23 ∷ 1 ∷ 0 ∷ 2 ∷ 2 ∷
    24 ∷ 1 ∷ 0 ∷ 2 ∷ 2 ∷
    []
    )
    (13 ∷ 44 ∷ 2 ∷ 106 ∷ []) ∷ []

pub activated_ones_hold : all_by_definition activated_ones ≡ activated_ones
unfolding activated_ones constraints fulfilments activations support listed replayed events_read layout verdict fulfilled activated holds meanings
activated_ones_hold = refl

-- at 500 both are, and as much is replayed and read
pub at_half : find_values (seldom 500) ≡ 29 ∷ 44 ∷ 2 ∷ 106 ∷ []
unfolding constraints fulfilments activations support listed replayed events_read layout fulfilled activated holds meanings
at_half = refl

-- A row has the fulfilled traces first: 2 and 5 are activated in both of these traces, and each holds on one of them.
pub fulfilled_then_activated : List Case
fulfilled_then_activated =
    finds (question_over 1 ((0 ∷ []) ∷ [] ∷ (0 ∷ 0 ∷ []) ∷ []) (by_both 500 500))
    (
    1 ∷ 0 ∷ 0 ∷ 2 ∷ 2 ∷
    2 ∷ 0 ∷ 0 ∷ 1 ∷ 2 ∷
    5 ∷ 0 ∷ 0 ∷ 1 ∷ 2 ∷
    6 ∷ 0 ∷ 0 ∷ 2 ∷ 2 ∷
    7 ∷ 0 ∷ 0 ∷ 2 ∷ 2 ∷
    8 ∷ 0 ∷ 0 ∷ 2 ∷ 2 ∷
    []
    )
    (6 ∷ 8 ∷ 2 ∷ 24 ∷ []) ∷ []

pub fulfilled_then_activated_hold : all_by_definition fulfilled_then_activated ≡ fulfilled_then_activated
unfolding fulfilled_then_activated constraints fulfilments activations support listed replayed events_read layout verdict fulfilled activated holds meanings
fulfilled_then_activated_hold = refl

-- in how many traces each template on 0 and 1 is activated, beside an activity that is neither
pub activated_by_template :
    (let q = question_over 3 ((0 ∷ 1 ∷ []) ∷ (0 ∷ []) ∷ [] ∷ (0 ∷ 0 ∷ []) ∷ (1 ∷ []) ∷ (2 ∷ []) ∷ []) (by 1) in
    map (λ template. activations q.traces (constraint template 0 1)) (range 1 24)
    ≡ 5 ∷ 5 ∷ 5 ∷ 5 ∷ 5 ∷ 5 ∷ 5 ∷ 5 ∷ 5 ∷ 5 ∷ 4 ∷ 4 ∷ 3 ∷ 3 ∷ 3 ∷ 3 ∷ 2 ∷ 2 ∷ 2 ∷ 4 ∷ 4 ∷ 4 ∷ 4 ∷ 4 ∷ [])
unfolding activations activated
activated_by_template = refl

-- a threshold is 1 to 1000, and a confidence at most 1000; a slice for five constraints has 25 numbers, and for a shorter one the detail is 5; the
-- order is 3, 15, 11, 10
abbrev one_trace : ℕ → ℕ → Question
one_trace threshold confidence = question_over 1 ((0 ∷ []) ∷ []) (by_both threshold confidence)

pub bounds : List Case
bounds =
    replies (one_trace 0 0) (replicate 25 0) (refused 3 0) ∷
    replies (one_trace 1 0) (replicate 25 0) (gives (5 ∷ 8 ∷ 1 ∷ 8 ∷ [])) ∷
    replies (one_trace 1000 1000) (replicate 25 0) (gives (5 ∷ 8 ∷ 1 ∷ 8 ∷ [])) ∷
    replies (one_trace 1001 1001) (replicate 25 0) (refused 3 0) ∷
    replies (one_trace 1000 1001) (replicate 25 0) (refused 15 0) ∷
    replies (one_trace 1000 0) (replicate 24 0) (refused 10 5) ∷
    replies (question_over 1 [] (by 1001)) [] (refused 3 0) ∷
    replies (question_over 1 [] (by_both 1000 1001)) [] (refused 15 0) ∷
    replies (question_over 1 [] (by 1000)) [] (refused 11 0) ∷
    []

pub bounds_hold : all_by_definition bounds ≡ bounds
unfolding bounds constraints fulfilments activations support listed replayed events_read layout verdict fulfilled activated holds meanings
bounds_hold = refl

-- Nothing printed is cut: each number fits the columns that it is printed in, whatever the input.
-- Assumes nothing.
use Rattle.std.specs.Prelude.{ℕ, ◌^◌, ◌<◌, ◌≡◌, length}
use mathlib.Core.List.{List, [], Mem}
use Rattle.base.specs.Checks.{gives, refused, reply}
use Rattle.declare.specs.declared.constraints.Constraint.{Constraint}
use Rattle.pruning.specs.Question.{Question, trace_count, fulfilments, activations}
use Rattle.discovery.specs.Listing.{listed, replayed, events_read}
use Rattle.report.specs.Print.{number_width, detail_width, first_width, read_width, template_width, activity_width, count_width}
use Rattle.report.specs.Report.{question_set, checks_of_report}

-- the numbers of the lines of a find
pub record WholeLines (q : Question) : Type 0 where
  pub constraints : length (listed q) < 10 ^ first_width
  pub replays : length (replayed q) < 10 ^ first_width
  pub all : trace_count q < 10 ^ first_width
  pub read : events_read q (replayed q) < 10 ^ read_width
  pub each :
      (c : Constraint) → Mem c (listed q) →
      (c.template < 10 ^ template_width) × (c.a < 10 ^ activity_width) × (c.b < 10 ^ activity_width)
      × (fulfilments q.traces c < 10 ^ count_width) × (activations q.traces c < 10 ^ count_width)

pub record Whole (input : List ℕ) : Type 0 where
  pub refusal : (number detail : ℕ) → reply (checks_of_report input) [] ≡ refused number detail →
      (number < 10 ^ number_width) × (detail < 10 ^ detail_width)
  pub report : reply (checks_of_report input) [] ≡ gives [] → WholeLines (question_set input)

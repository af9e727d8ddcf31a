-- What the stages of `report` promise each other. Nothing here has to be believed: proofs/Reporting.antt shows that it comes to `Reports`.
-- Assumes nothing.
use Rattle.std.specs.Prelude.{ℕ, ◌*◌, ◌≤◌, ◌≡◌, List, ◌++◌, length, Option, Some, None, Result, Ok, Err, if◌then◌else◌}
use Rattle.std.specs.Simd.{first_chunks}
use Rattle.base.specs.Checks.{Check, Outcome}
use Rattle.answers.specs.declared.Refusal.{Refusal}
use Rattle.answers.specs.Answers.{reason_number}
use Rattle.discovery.specs.declared.Found.{Found}
use Rattle.pruning.specs.declared.Settings.{Settings}
use Rattle.discovery.specs.Listing.{numbers}
use Rattle.discovery.specs.Calls.{find_values, with_list, find_said}
use Rattle.report.specs.declared.Arrays.{Arrays}
use Rattle.report.specs.declared.SettingsLine.{SettingsLine}
use Rattle.report.specs.Print.{refusal_line, first_line}
use Rattle.report.specs.Puts.{lines_of}
use Rattle.report.specs.Report.{settings_laid_out, activities_set, settings_set, log_of, log_question, then_find, checks_to_read, filled_by}

-- what the settings line sets
abbrev pub settings_of : List ℕ → Option SettingsLine
settings_of input =
    if settings_laid_out input then Some (record { activities = activities_set input; settings = settings_set input }) else None

-- how many constraints an answer lists
abbrev pub number_listed : Result Found Refusal → ℕ
number_listed (Ok found) = found.constraints
number_listed (Err refusal) = 0

-- the answer over a log, and what is left of the list, by the checks up to its find and then the find's; the buffers are filled by the first
-- alone; what is listed fits the list
pub record Decides (checks : List Check) (n : ℕ) (settings : Settings) (log : List ℕ) (arrays : Arrays) (answer : Result Found Refusal) (arrays' : Arrays) : Type 0 where
  pub finds :
      let q = log_question n settings log in
      Outcome (then_find checks q) (find_values q) (with_list q arrays.list) arrays.list (find_said answer) arrays'.list
  pub events : arrays'.events ≡ (filled_by checks n log arrays).events
  pub ends : arrays'.ends ≡ (filled_by checks n log arrays).ends
  pub words : arrays'.words ≡ (filled_by checks n log arrays).words
  pub fits : numbers * number_listed answer ≤ length arrays'.list

-- the answer to an input
abbrev pub Decided : List ℕ → Arrays → Result Found Refusal → Arrays → Type 0
Decided input = Decides (checks_to_read input) (activities_set input) (settings_set input) (log_of input)

-- what is printed of an answer, beside the list that the find wrote
abbrev pub answer_text : Result Found Refusal → List ℕ → List ℕ
answer_text (Ok found) list =
    first_line found.constraints found.replayed found.traces found.events_read ++ lines_of (first_chunks numbers found.constraints list)
answer_text (Err refusal) list = refusal_line (reason_number refusal.reason) refusal.detail

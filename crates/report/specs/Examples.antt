-- Document 01's sample, byte for byte, its order of refusals and findrules' sizes, as theorems about the definitions.
-- Assumes nothing.
use Rattle.std.specs.Prelude.{ℕ, ◌≡◌, refl, List, [], ◌∷◌, length}
use Rattle.declare.specs.Meaning.{meanings, holds, activated, fulfilled}
use Rattle.fields.specs.Field.{spell}
use Rattle.eventlog.specs.Store.{last_end}
use Rattle.eventlog.specs.Words.{word_of}
use Rattle.columns.specs.Log.{lines, log_checks, spelled}
use Rattle.declare.specs.Constraints.{constraints}
use Rattle.pruning.specs.Question.{fulfilments, activations, support}
use Rattle.discovery.specs.Listing.{listed, replayed, events_read}
use Rattle.report.specs.Print.{refusal_line, first_line, constraint_line, found_text}
use Rattle.report.specs.Report.{most_input, lent_space, lent_constraints, settings_laid_out, activities_set, settings_set, lent_list, left_by, checks_to_read, checks_of_report, output_of}

unfoldable pub sample : List ℕ
sample =
    32 ∷ 32 ∷ 50 ∷ 49 ∷ 48 ∷ 48 ∷ 48 ∷ 32 ∷ 32 ∷ 32 ∷ 48 ∷ 10 ∷
    32 ∷ 32 ∷ 32 ∷ 32 ∷ 32 ∷ 49 ∷ 32 ∷ 32 ∷ 48 ∷ 10 ∷
    []

pub sample_printed : List ℕ
sample_printed =
    32 ∷ 32 ∷ 32 ∷ 32 ∷ 49 ∷ 53 ∷ 32 ∷ 32 ∷ 32 ∷ 32 ∷ 49 ∷ 56 ∷ 32 ∷ 32 ∷ 32 ∷ 32 ∷ 32 ∷ 49 ∷
    32 ∷ 32 ∷ 32 ∷ 32 ∷ 32 ∷ 32 ∷ 32 ∷ 32 ∷ 49 ∷ 56 ∷ 10 ∷
    32 ∷ 49 ∷ 32 ∷ 32 ∷ 48 ∷ 32 ∷ 32 ∷ 32 ∷ 32 ∷ 32 ∷ 32 ∷ 32 ∷ 49 ∷ 32 ∷ 32 ∷ 32 ∷ 32 ∷ 49 ∷ 10 ∷
    32 ∷ 52 ∷ 32 ∷ 32 ∷ 49 ∷ 32 ∷ 32 ∷ 32 ∷ 32 ∷ 32 ∷ 32 ∷ 32 ∷ 49 ∷ 32 ∷ 32 ∷ 32 ∷ 32 ∷ 49 ∷ 10 ∷
    32 ∷ 53 ∷ 32 ∷ 32 ∷ 48 ∷ 32 ∷ 32 ∷ 32 ∷ 32 ∷ 32 ∷ 32 ∷ 32 ∷ 49 ∷ 32 ∷ 32 ∷ 32 ∷ 32 ∷ 49 ∷ 10 ∷
    32 ∷ 53 ∷ 32 ∷ 32 ∷ 49 ∷ 32 ∷ 32 ∷ 32 ∷ 32 ∷ 32 ∷ 32 ∷ 32 ∷ 49 ∷ 32 ∷ 32 ∷ 32 ∷ 32 ∷ 49 ∷ 10 ∷
    32 ∷ 54 ∷ 32 ∷ 32 ∷ 48 ∷ 32 ∷ 32 ∷ 32 ∷ 32 ∷ 32 ∷ 32 ∷ 32 ∷ 49 ∷ 32 ∷ 32 ∷ 32 ∷ 32 ∷ 49 ∷ 10 ∷
    32 ∷ 54 ∷ 32 ∷ 32 ∷ 49 ∷ 32 ∷ 32 ∷ 32 ∷ 32 ∷ 32 ∷ 32 ∷ 32 ∷ 49 ∷ 32 ∷ 32 ∷ 32 ∷ 32 ∷ 49 ∷ 10 ∷
    32 ∷ 55 ∷ 32 ∷ 32 ∷ 48 ∷ 32 ∷ 32 ∷ 32 ∷ 32 ∷ 32 ∷ 32 ∷ 32 ∷ 49 ∷ 32 ∷ 32 ∷ 32 ∷ 32 ∷ 49 ∷ 10 ∷
    32 ∷ 56 ∷ 32 ∷ 32 ∷ 48 ∷ 32 ∷ 32 ∷ 32 ∷ 32 ∷ 32 ∷ 32 ∷ 32 ∷ 49 ∷ 32 ∷ 32 ∷ 32 ∷ 32 ∷ 49 ∷ 10 ∷
    32 ∷ 57 ∷ 32 ∷ 32 ∷ 48 ∷ 32 ∷ 32 ∷ 49 ∷ 32 ∷ 32 ∷ 32 ∷ 32 ∷ 49 ∷ 32 ∷ 32 ∷ 32 ∷ 32 ∷ 49 ∷ 10 ∷
    49 ∷ 48 ∷ 32 ∷ 32 ∷ 48 ∷ 32 ∷ 32 ∷ 49 ∷ 32 ∷ 32 ∷ 32 ∷ 32 ∷ 49 ∷ 32 ∷ 32 ∷ 32 ∷ 32 ∷ 49 ∷ 10 ∷
    49 ∷ 50 ∷ 32 ∷ 32 ∷ 48 ∷ 32 ∷ 32 ∷ 49 ∷ 32 ∷ 32 ∷ 32 ∷ 32 ∷ 49 ∷ 32 ∷ 32 ∷ 32 ∷ 32 ∷ 49 ∷ 10 ∷
    50 ∷ 51 ∷ 32 ∷ 32 ∷ 48 ∷ 32 ∷ 32 ∷ 49 ∷ 32 ∷ 32 ∷ 32 ∷ 32 ∷ 49 ∷ 32 ∷ 32 ∷ 32 ∷ 32 ∷ 49 ∷ 10 ∷
    50 ∷ 51 ∷ 32 ∷ 32 ∷ 49 ∷ 32 ∷ 32 ∷ 48 ∷ 32 ∷ 32 ∷ 32 ∷ 32 ∷ 49 ∷ 32 ∷ 32 ∷ 32 ∷ 32 ∷ 49 ∷ 10 ∷
    50 ∷ 52 ∷ 32 ∷ 32 ∷ 48 ∷ 32 ∷ 32 ∷ 49 ∷ 32 ∷ 32 ∷ 32 ∷ 32 ∷ 49 ∷ 32 ∷ 32 ∷ 32 ∷ 32 ∷ 49 ∷ 10 ∷
    50 ∷ 52 ∷ 32 ∷ 32 ∷ 49 ∷ 32 ∷ 32 ∷ 48 ∷ 32 ∷ 32 ∷ 32 ∷ 32 ∷ 49 ∷ 32 ∷ 32 ∷ 32 ∷ 32 ∷ 49 ∷ 10 ∷
    []

pub sample_prints : output_of sample ≡ sample_printed
unfolding
    sample sample_printed lent_list output_of checks_of_report checks_to_read settings_laid_out activities_set settings_set found_text
    first_line constraint_line refusal_line spell lines log_checks spelled constraints fulfilments activations support listed replayed events_read
    fulfilled activated holds meanings
sample_prints = refl

-- One trace of 0 and one of 0 0 by a threshold of 500: at a confidence of 500 templates 2 and 5, which hold on one of the two, are printed, at 501 not.
unfoldable pub two_runs : List ℕ
two_runs =
    32 ∷ 32 ∷ 32 ∷ 32 ∷ 32 ∷ 49 ∷ 32 ∷ 32 ∷ 48 ∷ 10 ∷
    32 ∷ 32 ∷ 32 ∷ 32 ∷ 32 ∷ 50 ∷ 32 ∷ 32 ∷ 48 ∷ 10 ∷
    32 ∷ 32 ∷ 32 ∷ 32 ∷ 32 ∷ 50 ∷ 32 ∷ 32 ∷ 48 ∷ 10 ∷
    []

pub counts_print :
    (output_of (32 ∷ 32 ∷ 49 ∷ 32 ∷ 53 ∷ 48 ∷ 48 ∷ 32 ∷ 53 ∷ 48 ∷ 48 ∷ 10 ∷ two_runs)
    ≡ 32 ∷ 32 ∷ 32 ∷ 32 ∷ 32 ∷ 54 ∷ 32 ∷ 32 ∷ 32 ∷ 32 ∷ 32 ∷ 56 ∷ 32 ∷ 32 ∷ 32 ∷ 32 ∷ 32 ∷ 50 ∷ 32 ∷ 32 ∷ 32 ∷ 32 ∷ 32 ∷ 32 ∷ 32 ∷ 32 ∷ 50 ∷ 52 ∷ 10 ∷
    32 ∷ 49 ∷ 32 ∷ 32 ∷ 48 ∷ 32 ∷ 32 ∷ 32 ∷ 32 ∷ 32 ∷ 32 ∷ 32 ∷ 50 ∷ 32 ∷ 32 ∷ 32 ∷ 32 ∷ 50 ∷ 10 ∷
    32 ∷ 50 ∷ 32 ∷ 32 ∷ 48 ∷ 32 ∷ 32 ∷ 32 ∷ 32 ∷ 32 ∷ 32 ∷ 32 ∷ 49 ∷ 32 ∷ 32 ∷ 32 ∷ 32 ∷ 50 ∷ 10 ∷
    32 ∷ 53 ∷ 32 ∷ 32 ∷ 48 ∷ 32 ∷ 32 ∷ 32 ∷ 32 ∷ 32 ∷ 32 ∷ 32 ∷ 49 ∷ 32 ∷ 32 ∷ 32 ∷ 32 ∷ 50 ∷ 10 ∷
    32 ∷ 54 ∷ 32 ∷ 32 ∷ 48 ∷ 32 ∷ 32 ∷ 32 ∷ 32 ∷ 32 ∷ 32 ∷ 32 ∷ 50 ∷ 32 ∷ 32 ∷ 32 ∷ 32 ∷ 50 ∷ 10 ∷
    32 ∷ 55 ∷ 32 ∷ 32 ∷ 48 ∷ 32 ∷ 32 ∷ 32 ∷ 32 ∷ 32 ∷ 32 ∷ 32 ∷ 50 ∷ 32 ∷ 32 ∷ 32 ∷ 32 ∷ 50 ∷ 10 ∷
    32 ∷ 56 ∷ 32 ∷ 32 ∷ 48 ∷ 32 ∷ 32 ∷ 32 ∷ 32 ∷ 32 ∷ 32 ∷ 32 ∷ 50 ∷ 32 ∷ 32 ∷ 32 ∷ 32 ∷ 50 ∷ 10 ∷
    [])
    × (output_of (32 ∷ 32 ∷ 49 ∷ 32 ∷ 53 ∷ 48 ∷ 48 ∷ 32 ∷ 53 ∷ 48 ∷ 49 ∷ 10 ∷ two_runs)
    ≡ 32 ∷ 32 ∷ 32 ∷ 32 ∷ 32 ∷ 52 ∷ 32 ∷ 32 ∷ 32 ∷ 32 ∷ 32 ∷ 56 ∷ 32 ∷ 32 ∷ 32 ∷ 32 ∷ 32 ∷ 50 ∷ 32 ∷ 32 ∷ 32 ∷ 32 ∷ 32 ∷ 32 ∷ 32 ∷ 32 ∷ 50 ∷ 52 ∷ 10 ∷
    32 ∷ 49 ∷ 32 ∷ 32 ∷ 48 ∷ 32 ∷ 32 ∷ 32 ∷ 32 ∷ 32 ∷ 32 ∷ 32 ∷ 50 ∷ 32 ∷ 32 ∷ 32 ∷ 32 ∷ 50 ∷ 10 ∷
    32 ∷ 54 ∷ 32 ∷ 32 ∷ 48 ∷ 32 ∷ 32 ∷ 32 ∷ 32 ∷ 32 ∷ 32 ∷ 32 ∷ 50 ∷ 32 ∷ 32 ∷ 32 ∷ 32 ∷ 50 ∷ 10 ∷
    32 ∷ 55 ∷ 32 ∷ 32 ∷ 48 ∷ 32 ∷ 32 ∷ 32 ∷ 32 ∷ 32 ∷ 32 ∷ 32 ∷ 50 ∷ 32 ∷ 32 ∷ 32 ∷ 32 ∷ 50 ∷ 10 ∷
    32 ∷ 56 ∷ 32 ∷ 32 ∷ 48 ∷ 32 ∷ 32 ∷ 32 ∷ 32 ∷ 32 ∷ 32 ∷ 32 ∷ 50 ∷ 32 ∷ 32 ∷ 32 ∷ 32 ∷ 50 ∷ 10 ∷
    [])
unfolding
    two_runs lent_list output_of checks_of_report checks_to_read settings_laid_out activities_set settings_set found_text
    first_line constraint_line refusal_line spell lines log_checks spelled constraints fulfilments activations support listed replayed events_read
    fulfilled activated holds meanings
counts_print = (refl, refl)

-- the order of the refusals: settings cut short, a settings line without a confidence, no activity, a threshold of 1001, a confidence of 1001, an
-- undeclared activity on line 1, no trace
pub refusals_print :
    (output_of [] ≡ 32 ∷ 52 ∷ 32 ∷ 32 ∷ 32 ∷ 32 ∷ 32 ∷ 48 ∷ 10 ∷ [])
    × (output_of (32 ∷ 32 ∷ 50 ∷ 49 ∷ 48 ∷ 48 ∷ 48 ∷ 10 ∷ 32 ∷ 32 ∷ 32 ∷ 32 ∷ 32 ∷ 49 ∷ 32 ∷ 32 ∷ 48 ∷ 10 ∷ []) ≡ 32 ∷ 52 ∷ 32 ∷ 32 ∷ 32 ∷ 32 ∷ 32 ∷ 48 ∷ 10 ∷ [])
    × (output_of (32 ∷ 32 ∷ 48 ∷ 49 ∷ 48 ∷ 48 ∷ 49 ∷ 49 ∷ 48 ∷ 48 ∷ 49 ∷ 10 ∷ []) ≡ 32 ∷ 50 ∷ 32 ∷ 32 ∷ 32 ∷ 32 ∷ 32 ∷ 48 ∷ 10 ∷ [])
    × (output_of (32 ∷ 32 ∷ 50 ∷ 49 ∷ 48 ∷ 48 ∷ 49 ∷ 49 ∷ 48 ∷ 48 ∷ 49 ∷ 10 ∷ 32 ∷ 32 ∷ 32 ∷ 32 ∷ 32 ∷ 49 ∷ 32 ∷ 32 ∷ 50 ∷ 10 ∷ []) ≡ 32 ∷ 51 ∷ 32 ∷ 32 ∷ 32 ∷ 32 ∷ 32 ∷ 48 ∷ 10 ∷ [])
    × (output_of (32 ∷ 32 ∷ 50 ∷ 49 ∷ 48 ∷ 48 ∷ 48 ∷ 49 ∷ 48 ∷ 48 ∷ 49 ∷ 10 ∷ 32 ∷ 32 ∷ 32 ∷ 32 ∷ 32 ∷ 49 ∷ 32 ∷ 32 ∷ 50 ∷ 10 ∷ []) ≡ 49 ∷ 53 ∷ 32 ∷ 32 ∷ 32 ∷ 32 ∷ 32 ∷ 48 ∷ 10 ∷ [])
    × (output_of (32 ∷ 32 ∷ 50 ∷ 49 ∷ 48 ∷ 48 ∷ 48 ∷ 32 ∷ 32 ∷ 32 ∷ 48 ∷ 10 ∷ 32 ∷ 32 ∷ 32 ∷ 32 ∷ 32 ∷ 49 ∷ 32 ∷ 32 ∷ 50 ∷ 10 ∷ []) ≡ 32 ∷ 54 ∷ 32 ∷ 32 ∷ 32 ∷ 32 ∷ 32 ∷ 49 ∷ 10 ∷ [])
    × (output_of (32 ∷ 32 ∷ 50 ∷ 49 ∷ 48 ∷ 48 ∷ 48 ∷ 32 ∷ 32 ∷ 32 ∷ 48 ∷ 10 ∷ []) ≡ 49 ∷ 49 ∷ 32 ∷ 32 ∷ 32 ∷ 32 ∷ 32 ∷ 48 ∷ 10 ∷ [])
unfolding
    lent_list output_of checks_of_report checks_to_read settings_laid_out activities_set settings_set found_text
    first_line constraint_line refusal_line spell lines log_checks spelled constraints fulfilments activations support listed replayed events_read
    fulfilled activated holds meanings
refusals_print = (refl, refl, refl, refl, refl, refl, refl)

-- a log of one line leaves its event, end and word in front, and all behind them as it was
buffers_left :
    (let left = left_by [] 2 (record { threshold = 0; confidence = 0 }) (32 ∷ 32 ∷ 32 ∷ 32 ∷ 32 ∷ 49 ∷ 32 ∷ 32 ∷ 49 ∷ 10 ∷ [])
    (record { events = 9 ∷ 9 ∷ []; ends = 8 ∷ 8 ∷ []; words = 7 ∷ 7 ∷ []; list = 6 ∷ [] }) in
    (left.events ≡ 1 ∷ 9 ∷ []) × (left.ends ≡ 1 ∷ 8 ∷ []) × (left.words ≡ 2 ∷ 7 ∷ []) × (left.list ≡ 6 ∷ []))
unfolding lent_list lines spelled last_end word_of
buffers_left = (refl, refl, refl, refl)

-- the longest input, and what is lent
sizes :
    (most_input ≡ 65536)
    × (lent_space.events ≡ 6552)
    × (lent_space.ends ≡ 4095)
    × (lent_space.words ≡ 4095)
    × (lent_constraints ≡ 6400)
    × (length lent_list ≡ 32000)
unfolding lent_list
sizes = (refl, refl, refl, refl, refl, refl)

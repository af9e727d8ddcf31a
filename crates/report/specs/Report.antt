-- All that findrules does between its input and its output (document 01: the program findrules).
-- Assumes nothing.
use Rattle.std.specs.Prelude.{ℕ, ◌*◌, ◌≡◌, Bool, not, ◌&&◌, List, [], ◌∷◌, ◌++◌, eqb, leb, ltb, length, get_or, drop, replicate}
use Rattle.std.proofs.Math.Seq.{slice}
use Rattle.base.specs.Checks.{Check, ◌refuses◌with◌, Reply, gives, refused, reply, when_passed}
use Rattle.eventlog.specs.declared.Room.{Room}
use Rattle.eventlog.specs.declared.Space.{Space}
use Rattle.eventlog.specs.Store.{Memory, memory}
use Rattle.eventlog.specs.Calls.{open_checks, empty, with_traces}
use Rattle.fields.specs.Field.{line_feed, well_formed, value}
use Rattle.columns.specs.Log.{log_checks, spelled}
use Rattle.pruning.specs.declared.Settings.{Settings}
use Rattle.pruning.specs.Question.{Question, question_over}
use Rattle.discovery.specs.Listing.{numbers}
use Rattle.discovery.specs.Calls.{settings_checks, find_checks, with_list}
use Rattle.report.specs.declared.Arrays.{Arrays}
use Rattle.report.specs.Print.{refusal_line, found_text}

abbrev pub most_input : ℕ
most_input = 65536

-- what the program lends: 6552 events, 4095 ends, as many words and 6400 constraints
abbrev pub lent_space : Space
lent_space = record { events = 6552; ends = 4095; words = 4095 }

abbrev pub lent_constraints : ℕ
lent_constraints = 6400

-- a slice as long as the one lent for the list, five numbers a constraint; find's checks look at its length alone
unfoldable pub lent_list : List ℕ
lent_list = replicate (numbers * lent_constraints) 0

-- ## The input: a settings line, then a log

-- N in columns 1 to 3, threshold in 4 to 7, k in 8 to 11, line feed in 12; fields as in the log
abbrev pub settings_line_size : ℕ
settings_line_size = 12

unfoldable pub settings_laid_out : List ℕ → Bool
settings_laid_out input =
    leb settings_line_size (length input)
    && well_formed (slice 0 3 input) && well_formed (slice 3 7 input) && well_formed (slice 7 11 input) && eqb (get_or input 11 0) line_feed

unfoldable pub activities_set : List ℕ → ℕ
activities_set input = value (slice 0 3 input)

unfoldable pub settings_set : List ℕ → Settings
settings_set input = record { threshold = value (slice 3 7 input); confidence = value (slice 7 11 input) }

abbrev pub log_of : List ℕ → List ℕ
log_of input = drop settings_line_size input

-- what is asked over the traces that a log spells
abbrev pub log_question : ℕ → Settings → List ℕ → Question
log_question n settings log = question_over n (spelled log) settings

abbrev pub question_set : List ℕ → Question
question_set input = log_question (activities_set input) (settings_set input) (log_of input)

-- ## The order: 12, settings malformed or cut short (4, detail 0), 2, 3, 15, then read, then find

-- these checks, and then the find's
abbrev pub then_find : List Check → Question → List Check
then_find checks q = checks ++ find_checks q lent_list

-- the log is read into an empty store, with the room of all that is lent
abbrev pub room_lent : ℕ → Room
room_lent n = record { activities = n; traces = 0; last = 0; space = lent_space }

-- the checks of findrules up to its find
unfoldable pub checks_to_read : List ℕ → List Check
checks_to_read input =
    (ltb most_input (length input) refuses 12 with 0) ∷
    (not (settings_laid_out input) refuses 4 with 0) ∷
    (open_checks (activities_set input)
    ++ settings_checks (settings_set input) ++ log_checks (room_lent (activities_set input)) (log_of input))

-- all of them
unfoldable pub checks_of_report : List ℕ → List Check
unfolding checks_to_read
checks_of_report input = then_find (checks_to_read input) (question_set input)

-- ## The output

-- a refusal's line, or else the text
abbrev pub printed : Reply → List ℕ → List ℕ
printed (gives values) text = text
printed (refused number detail) text = refusal_line number detail

-- what findrules prints
unfoldable pub output_of : List ℕ → List ℕ
unfolding checks_of_report found_text
output_of input = printed (reply (checks_of_report input) []) (found_text (question_set input))

-- ## The contract

-- the lent buffers as an empty store
abbrev pub empty_store : ℕ → Arrays → Memory
empty_store n arrays = memory (empty n) arrays.events arrays.ends arrays.words

-- the memory with the log's traces, where these checks pass
abbrev pub filled_by : List Check → ℕ → List ℕ → Arrays → Memory
filled_by checks n log arrays =
    let fresh = empty_store n arrays in
    when_passed checks (with_traces fresh (spelled log)) fresh

-- what is left: the buffers with the log's traces where these checks pass, and the list where the find's pass too
abbrev pub left_by : List Check → ℕ → Settings → List ℕ → Arrays → Arrays
left_by checks n settings log arrays =
    let q = log_question n settings log in
    record {
      events = (filled_by checks n log arrays).events;
      ends = (filled_by checks n log arrays).ends;
      words = (filled_by checks n log arrays).words;
      list = when_passed (then_find checks q) (with_list q arrays.list) arrays.list;
    }

-- `report` writes so many bytes into `out`, and leaves the lent arrays so
pub record Reports (input : List ℕ) (arrays : Arrays) (out : List ℕ) (written : ℕ) (arrays' : Arrays) (out' : List ℕ) : Type 0 where
  pub counts : written ≡ length (output_of input)
  pub prints : out' ≡ output_of input ++ drop (length (output_of input)) out
  pub leaves : arrays' ≡ left_by (checks_to_read input) (activities_set input) (settings_set input) (log_of input) arrays

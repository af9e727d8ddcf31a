-- Find: what it says and leaves, as definitions of what it was given. The contract cites these.
-- Assumes nothing.
use Rattle.std.specs.Prelude.{ℕ, ◌*◌, not, List, [], ◌∷◌, ◌++◌, eqb, ltb, length, Result}
use Rattle.std.proofs.lemmas.List.Edits.{sets}
use Rattle.base.specs.Checks.{Check, ◌refuses◌with◌, Reply, Outcome}
use Rattle.answers.specs.Answers.{said_by}
use Rattle.answers.specs.declared.Refusal.{Refusal}
use Rattle.eventlog.specs.Store.{Memory}
use Rattle.eventlog.specs.Calls.{unsound}
use Rattle.discovery.specs.declared.Found.{Found}
use Rattle.pruning.specs.declared.Settings.{Settings}
use Rattle.pruning.specs.Question.{Question, asked, trace_count, threshold_in_range, confidence_in_range}
use Rattle.discovery.specs.Listing.{listed, replayed, events_read, numbers, layout}

-- threshold not 1 to 1000; "15 when k is above 1000, tested right after 3"
abbrev pub settings_checks : Settings → List Check
settings_checks settings =
    (not (threshold_in_range settings) refuses 3 with 0) ∷
    (not (confidence_in_range settings) refuses 15 with 0) ∷
    []

-- the checks of find, where so many constraints are to be listed
abbrev pub checks_for : ℕ → Question → List ℕ → List Check
checks_for needed q list =
    settings_checks q.settings ++
    (eqb (trace_count q) 0 refuses 11 with 0) ∷
    (ltb (length list) (numbers * needed) refuses 10 with needed) ∷
    []

abbrev pub find_checks : Question → List ℕ → List Check
find_checks q list = checks_for (length (listed q)) q list

abbrev pub checks_of_find : Memory → Settings → List ℕ → List Check
checks_of_find m settings list = unsound m ∷ find_checks (asked m settings) list

-- constraints listed, constraints replayed, R, events read
abbrev pub find_values : Question → List ℕ
find_values q = length (listed q) ∷ length (replayed q) ∷ trace_count q ∷ events_read q (replayed q) ∷ []

-- the lent slice with the list at its front
abbrev pub with_list : Question → List ℕ → List ℕ
with_list q list = sets list 0 (layout q (listed q))

-- document 01's number and values for each case
abbrev pub find_said : Result Found Refusal → Reply
find_said = said_by (λ found. found.constraints ∷ found.replayed ∷ found.traces ∷ found.events_read ∷ [])

-- `find` in memory m, lent a slice that holds `list`
abbrev pub Finds : Memory → Settings → List ℕ → Reply → List ℕ → Type 0
Finds m settings list =
    let q = asked m settings in
    Outcome (checks_of_find m settings list) (find_values q) (with_list q list) list

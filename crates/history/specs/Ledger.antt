-- The ledger of document 01: told of the calls alone, it knows which traces are kept and what each call shows.
-- Assumes nothing.
use Rattle.std.specs.Prelude.{ℕ, List, [], ◌∷◌, ◌++◌, length}
use Rattle.base.specs.Checks.{Reply, reply, when_passed}
use Rattle.eventlog.specs.declared.Space.{Space}
use Rattle.eventlog.specs.declared.Room.{Room}
use Rattle.eventlog.specs.Store.{total}
use Rattle.eventlog.specs.Calls.{open_checks, add_checks}
use Rattle.columns.specs.Log.{log_checks, spelled}
use Rattle.pruning.specs.declared.Settings.{Settings}
use Rattle.pruning.specs.Question.{Question, question_over}
use Rattle.discovery.specs.Calls.{find_checks, find_values, with_list}

-- A call, with what it brings: a step count, a trace, a log's bytes, or settings and what stands in the slice lent for the list.
pub data Call : Type 0 where
  open_for : ℕ → Call
  add : List ℕ → Call
  read : List ℕ → Call
  find : Settings → List ℕ → Call

-- What a call shows: its reply, and what stands in the slice lent for the list (in no call but find is there one).
pub record Shown : Type 0 where
  pub said : Reply
  pub list : List ℕ

abbrev pub only : Reply → Shown
only said = record { said = said; list = [] }

-- It holds N and a list of traces.
pub record Ledger : Type 0 where
  pub activities : ℕ
  pub traces : List (List ℕ)

-- it is fed the fresh store's N, and each call beside the lengths of the buffers; at first there are no traces
abbrev pub first_ledger : ℕ → Ledger
first_ledger n = record { activities = n; traces = [] }

-- the run count is the number of its runs, and the last end the sum of their lengths
abbrev pub room_beside : Space → Ledger → Room
room_beside space l = record { activities = l.activities; traces = length l.traces; last = total l.traces; space = space }

-- what a find asks of it: of its traces those of length 1 or more
abbrev pub question : Ledger → Settings → Question
question l settings = question_over l.activities l.traces settings

abbrev pub with_all : Ledger → List (List ℕ) → Ledger
with_all l traces = record { activities = l.activities; traces = l.traces ++ traces }

-- the ledger after a call
abbrev pub next_ledger : Space → Ledger → Call → Ledger
next_ledger space l (open_for n) = when_passed (open_checks n) (first_ledger n) l
next_ledger space l (add trace) = when_passed (add_checks (room_beside space l) trace) (with_all l (trace ∷ [])) l
next_ledger space l (read log) = when_passed (log_checks (room_beside space l) log) (with_all l (spelled log)) l
next_ledger space l (find settings list) = l

-- what a call shows
abbrev pub shows : Space → Ledger → Call → Shown
shows space l (open_for n) = only (reply (open_checks n) (n ∷ 0 ∷ []))
shows space l (add trace) = only (reply (add_checks (room_beside space l) trace) [])
shows space l (read log) = only (reply (log_checks (room_beside space l) log) (length (spelled log) ∷ []))
shows space l (find settings list) =
    let q = question l settings in
    record { said = reply (find_checks q list) (find_values q); list = when_passed (find_checks q list) (with_list q list) list }

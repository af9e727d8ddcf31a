-- Document 01's number and values for each case of an answer. Contracts speak of answers by these.
-- Assumes nothing.
use Rattle.std.specs.Prelude.{ℕ, List, [], ◌∷◌, Result, Ok, Err}
use Rattle.base.specs.Checks.{Reply, gives, refused}
use Rattle.answers.specs.declared.Reason.{Reason}
use Rattle.answers.specs.declared.Refusal.{Refusal}

-- the number that a reason has in documents 01 and 02
abbrev pub reason_number : Reason → ℕ
reason_number Reason.NotSound = 1
reason_number Reason.ActivitiesOutOfRange = 2
reason_number Reason.ThresholdOutOfRange = 3
reason_number Reason.Malformed = 4
reason_number Reason.NumberFalls = 5
reason_number Reason.Undeclared = 6
reason_number Reason.TooLong = 7
reason_number Reason.Full = 8
reason_number Reason.NoSpace = 9
reason_number Reason.ListTooShort = 10
reason_number Reason.NoTrace = 11
reason_number Reason.TooMuchInput = 12
reason_number Reason.NoConstraint = 13
reason_number Reason.TooMany = 14
reason_number Reason.ConfidenceOutOfRange = 15

abbrev pub refusal_said : Refusal → Reply
refusal_said refusal = refused (reason_number refusal.reason) refusal.detail

-- what a call says: the values of what it hands back, or its refusal
abbrev pub said_by : {A : Type 0} → (A → List ℕ) → Result A Refusal → Reply
said_by values (Ok answer) = gives (values answer)
said_by values (Err refusal) = refusal_said refusal

-- done, or refused: add, and a watcher's step
abbrev pub done_said : Result (Unit {0}) Refusal → Reply
done_said = said_by (λ done. [])

-- a count, or refused: read, whose count is of the traces added (document 01: runs)
abbrev pub count_said : Result ℕ Refusal → Reply
count_said = said_by (λ count. count ∷ [])

-- what stands after a call that hands back a new record: a refused one leaves the one there was
abbrev pub record_after : {A : Type 0} → A → Result A Refusal → A
record_after there (Ok new) = new
record_after there (Err refusal) = there

-- Start and step: what each says and leaves. The contracts cite these.
-- Assumes nothing.
use Rattle.std.specs.Prelude.{ℕ, ◌+◌, ◌*◌, ◌/◌, ◌%◌, ◌≤◌, ◌≡◌, Bool, true, not, ◌&&◌, List, [], ◌∷◌, ◌++◌, map, eqb, leb, ltb, length, get_or, drop, Result}
use Rattle.std.specs.List.{list_all}
use Rattle.base.specs.Lists.{range}
use Rattle.base.specs.Checks.{Check, ◌refuses◌with◌, Reply, gives, refused, reply, when_passed, Outcome}
use Rattle.base.specs.Logic.{in_range}
use Rattle.answers.specs.declared.Refusal.{Refusal}
use Rattle.answers.specs.Answers.{said_by, record_after}
use Rattle.declare.specs.declared.constraints.Constraint.{Constraint}
use Rattle.declare.specs.Constraints.{constraint, pairs}
use Rattle.declare.specs.Traces.{most_activities, longest_trace, declarable, all_below}
use Rattle.automata.specs.Ahead.{outlook}
use Rattle.watcher.specs.declared.Watcher.{Watcher}
use Rattle.watcher.specs.Table.{state_after}

abbrev pub most_constraints : ℕ
most_constraints = 256

-- ## The constraints that are lent

-- three numbers each: template, a, b
abbrev pub constraint_at : List ℕ → ℕ → Constraint
constraint_at numbers i = constraint (get_or numbers (3 * i) 0) (get_or numbers (3 * i + 1) 0) (get_or numbers (3 * i + 2) 0)

-- those that the numbers have whole, in their order
unfoldable pub given : List ℕ → List Constraint
given numbers = map (constraint_at numbers) (range 0 (length numbers / 3))

-- it has a template 1 to 24, no undeclared step, and no wrong pair (b is a in 1 to 8, a is below b in 9 to 12, a is not b in 13 to 24)
abbrev pub proper : ℕ → Constraint → Bool
proper n c = in_range 1 c.template 24 && ltb c.a n && ltb c.b n && pairs c.template c.a c.b

-- none is cut short, and each is proper
abbrev pub all_whole : ℕ → List ℕ → Bool
all_whole n numbers = eqb (length numbers % 3) 0 && list_all (proper n) (given numbers)

-- ## What is lent to write in: a byte a constraint for its automaton's state, and one for what is told of it

pub record Slots : Type 0 where
  pub states : List ℕ
  pub told : List ℕ

-- the two slices as they stand behind their references: contracts speak of it so
abbrev pub lent_slots : List ℕ → List ℕ → Slots
lent_slots states told = record { states = states; told = told }

-- The record beside what is lent.
pub record Watched : Type 0 where
  pub watcher : Watcher
  pub slots : Slots

abbrev pub watched : Watcher → List ℕ → List ℕ → Watched
watched watcher states told = record { watcher = watcher; slots = lent_slots states told }

-- the record after a trace: how many activities are declared, constraints watched, and activities taken
abbrev pub watcher_after : ℕ → List ℕ → List ℕ → Watcher
watcher_after n numbers trace = record { activities = n; constraints = length numbers / 3; taken = length trace }

-- after a trace, by the automata; what lies past the last constraint is as it was before. (`Watching.StatesTold` says what is told in words
-- that know no automata.)
abbrev pub slots_after : ℕ → List ℕ → Slots → List ℕ → Slots
slots_after n numbers before trace =
    let constraints = given numbers in
    record {
      states = map (λ c. state_after c trace) constraints ++ drop (length constraints) before.states;
      told = map (λ c. outlook n c trace) constraints ++ drop (length constraints) before.told;
    }

abbrev pub watched_after : ℕ → List ℕ → Slots → List ℕ → Watched
watched_after n numbers before trace = record { watcher = watcher_after n numbers trace; slots = slots_after n numbers before trace }

-- ## Start

abbrev pub start_checks : ℕ → List ℕ → List Check
start_checks n numbers =
    (not (declarable n) refuses 2 with 0) ∷
    (ltb (3 * most_constraints) (length numbers) refuses 14 with 0) ∷
    (not (all_whole n numbers) refuses 13 with 0) ∷
    []

abbrev pub start_said : Result Watcher Refusal → Reply
start_said = said_by (λ watcher. watcher.activities ∷ watcher.constraints ∷ watcher.taken ∷ [])

-- the record after a start: a refused one leaves the record there was
abbrev pub started : Watcher → Result Watcher Refusal → Watcher
started = record_after

-- `start`, whatever record there was beside what is lent; it tells of each constraint its state before the first step
abbrev pub Starts : ℕ → List ℕ → Watched → Reply → Watched → Type 0
Starts n numbers there = Outcome (start_checks n numbers) (n ∷ length numbers / 3 ∷ 0 ∷ []) (watched_after n numbers there.slots []) there

-- ## Step

-- an undeclared step is 6, one after the 4096th is 7, 6 first
abbrev pub step_checks : ℕ → ℕ → ℕ → List Check
step_checks n taken activity =
    (not (ltb activity n) refuses 6 with 0) ∷
    (leb longest_trace taken refuses 7 with 0) ∷
    []

-- the activities accepted so far, after one step more
abbrev pub taking : ℕ → List ℕ → ℕ → List ℕ
taking n trace activity = when_passed (step_checks n (length trace) activity) (trace ++ (activity ∷ [])) trace

-- A start and steps made it: the start for n and these numbers, in what was lent as `before`; of the steps these were accepted.
pub record Made (n : ℕ) (numbers : List ℕ) (before : Slots) (trace : List ℕ) (m : Watched) : Type 0 where
  pub accepted : reply (start_checks n numbers) [] ≡ gives []
  pub declared : all_below n trace ≡ true
  pub short : length trace ≤ longest_trace
  pub is : m ≡ watched_after n numbers before trace

-- the sizes that a start and steps leave, beside so many numbers
abbrev pub usable : Watcher → ℕ → Bool
usable w numbers =
    leb w.activities most_activities && leb w.constraints most_constraints && eqb (3 * w.constraints) numbers && leb w.taken longest_trace

-- the checks of step in any memory; where a start and steps made it, the first one passes, and the others are `step_checks`
abbrev pub checks_of_step : Watcher → ℕ → ℕ → List Check
checks_of_step w numbers activity = (not (usable w numbers) refuses 1 with 0) ∷ step_checks w.activities w.taken activity

-- `step`. In any memory its checks decide what it says, and a refused one leaves all as it was. What an accepted one leaves is promised
-- where a start and steps made the memory; else it may be anything.
pub record Steps (numbers : List ℕ) (m : Watched) (activity : ℕ) (said : Reply) (m' : Watched) : Type 0 where
  pub says : said ≡ reply (checks_of_step m.watcher (length numbers) activity) []
  pub refused_keeps : (number detail : ℕ) → said ≡ refused number detail → m' ≡ m
  pub made : (n : ℕ) (before : Slots) (trace : List ℕ) → Made n numbers before trace m
      → Outcome (step_checks n (length trace) activity) [] (watched_after n numbers before (trace ++ (activity ∷ []))) m said m'

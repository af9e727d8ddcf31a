-- Watching over whole lists of steps, and what is claimed of all of them (document 02, request 3).
-- Assumes nothing.
use Rattle.std.specs.Prelude.{ℕ, ◌≡◌, true, List, [], ◌∷◌, length, drop}
use Rattle.base.specs.Checks.{Reply, gives, refused, reply}
use Rattle.declare.specs.declared.constraints.Constraint.{Constraint}
use Rattle.declare.specs.Constraints.{Over}
use Rattle.declare.specs.Traces.{all_below}
use Rattle.automata.specs.Outlook.{State}
use Rattle.watcher.specs.Calls.{given, Slots, Watched, watcher_after, start_checks, Starts, step_checks, taking, Steps}

-- what is told is the state of each constraint, after the trace
abbrev pub Tells : ℕ → List Constraint → List ℕ → List ℕ → Type 0
Tells n [] trace told = Unit {0}
Tells n (c ∷ cs) trace [] = ⊥
Tells n (c ∷ cs) trace (s ∷ told) = State n c trace s × Tells n cs trace told

-- what a step says and leaves
pub record Seen : Type 0 where
  pub said : Reply
  pub left : Watched

-- Steps, one after the other, refused ones among them: each gets what the one before left. A step is what the contract of `step` says.
abbrev pub Watching : List ℕ → Watched → List ℕ → List Seen → Type 0
Watching numbers m [] [] = Unit {0}
Watching numbers m [] (s ∷ seen) = ⊥
Watching numbers m (activity ∷ more) [] = ⊥
Watching numbers m (activity ∷ more) (s ∷ seen) = Steps numbers m activity s.said s.left × Watching numbers s.left more seen

-- what lies past the last constraint is as it was lent to the start
pub record Untouched (numbers : List ℕ) (before left : Slots) : Type 0 where
  pub states : drop (length (given numbers)) left.states ≡ drop (length (given numbers)) before.states
  pub told : drop (length (given numbers)) left.told ≡ drop (length (given numbers)) before.told

-- One step, from what the accepted ones before it, the trace, left.
pub record RightStep (n : ℕ) (numbers : List ℕ) (before : Slots) (trace : List ℕ) (m : Watched) (activity : ℕ) (s : Seen) : Type 0 where
  -- an undeclared step is 6, one after the 4096th is 7, 6 first, both with detail 0
  pub says : s.said ≡ reply (step_checks n (length trace) activity) []
  -- the four states are those of the definition for the steps accepted so far
  pub tells : Tells n (given numbers) (taking n trace activity) s.left.slots.told
  pub watcher : s.left.watcher ≡ watcher_after n numbers (taking n trace activity)
  pub untouched : Untouched numbers before s.left.slots
  -- a refused step changes nothing
  pub refused_same : (number detail : ℕ) → s.said ≡ refused number detail → s.left ≡ m

abbrev pub EachRight : ℕ → List ℕ → Slots → List ℕ → Watched → List ℕ → List Seen → Type 0
EachRight n numbers before trace m [] [] = Unit {0}
EachRight n numbers before trace m [] (s ∷ seen) = ⊥
EachRight n numbers before trace m (activity ∷ more) [] = ⊥
EachRight n numbers before trace m (activity ∷ more) (s ∷ seen) =
    RightStep n numbers before trace m activity s × EachRight n numbers before (taking n trace activity) s.left more seen

-- An accepted start: for n, these numbers, and what was there before.
pub record Started : Type 0 where
  pub n : ℕ
  pub numbers : List ℕ
  pub before : Watched
  pub values : List ℕ
  pub left : Watched
  pub starts : Starts n numbers before (gives values) left

-- There are such: a start wherever its checks pass, whatever was there before, and after it, as from any memory, a watching of every list
-- of steps.
pub record WatchingsExist : Type 0 where
  pub start : (n : ℕ) (numbers : List ℕ) (before : Watched) → reply (start_checks n numbers) [] ≡ gives []
      → (s : Started) × (s.n ≡ n) × (s.numbers ≡ numbers) × (s.before ≡ before)
  pub watching : (numbers : List ℕ) (m : Watched) (activities : List ℕ) → (seen : List Seen) × Watching numbers m activities seen

-- One claim about all lists of steps: what is told of each constraint is its state.
pub record StatesTold : Type 0 where
  -- a refused start leaves all that is lent, and the record, as they were
  pub refused_start : (n : ℕ) (numbers : List ℕ) (there left : Watched) (number detail : ℕ)
      → Starts n numbers there (refused number detail) left → left ≡ there
  -- before the first step
  pub at_first : (s : Started)
      → Tells s.n (given s.numbers) [] s.left.slots.told × Untouched s.numbers s.before.slots s.left.slots
  -- after each step of every list of steps
  pub after_each : (s : Started) (activities : List ℕ) (seen : List Seen) → Watching s.numbers s.left activities seen
      → EachRight s.n s.numbers s.before.slots [] s.left activities seen
  -- of the four states one always is
  pub one_is : (n : ℕ) (c : Constraint) (trace : List ℕ) → Over n c → all_below n trace ≡ true → (s : ℕ) × State n c trace s
  -- and they exclude each other
  pub no_other : (n : ℕ) (c : Constraint) (trace : List ℕ) (s s' : ℕ) → State n c trace s → State n c trace s' → s ≡ s'

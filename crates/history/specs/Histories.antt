-- Histories, and what demand 3 claims of all of them.
-- Assumes nothing.
use Rattle.std.specs.Prelude.{ℕ, ◌+◌, ◌*◌, ◌≤◌, ◌≡◌, true, List, [], ◌∷◌, ◌++◌, length, take, drop}
use Rattle.std.proofs.Math.Option.{some}
use Rattle.std.proofs.Math.ListN.{get_elem?}
use Rattle.base.specs.Checks.{gives, refused, reply, when_passed}
use Rattle.declare.specs.declared.constraints.Constraint.{Constraint}
use Rattle.declare.specs.Constraints.{Exactly}
use Rattle.declare.specs.Traces.{declarable}
use Rattle.eventlog.specs.declared.Space.{Space}
use Rattle.eventlog.specs.declared.Store.{Store}
use Rattle.eventlog.specs.Store.{Memory, memory, with_store, sound, kept, total, space, room}
use Rattle.eventlog.specs.Calls.{empty, Opens, Adds}
use Rattle.columns.specs.Calls.{Reads}
use Rattle.pruning.specs.declared.Settings.{Settings}
use Rattle.pruning.specs.Question.{Question, trace_count, survives}
use Rattle.discovery.specs.Listing.{is_listed, events_read, numbers, layout}
use Rattle.discovery.specs.Claims.{Alike}
use Rattle.discovery.specs.Calls.{checks_for, Finds}
use Rattle.history.specs.Ledger.{Call, open_for, add, read, find, Shown, Ledger, first_ledger, room_beside, question, next_ledger, shows}

-- ## Histories

-- what one call may show, as values of A, and leave
abbrev pub StepOf : Type 0 → Type 1
StepOf A = Memory → Call → A → Memory → Type 0

-- One call in a memory: what it may show and leave is what its function's contract says, in the contract's own words. The functions of
-- src/ promise just this.
abbrev pub Called : StepOf Shown
Called m (open_for n) s m' = (store : Store) × Opens n m.store s.said store × (m' ≡ with_store store m) × (s.list ≡ [])
Called m (add trace) s m' = Adds m trace s.said m' × (s.list ≡ [])
Called m (read log) s m' = Reads m log s.said m' × (s.list ≡ [])
Called m (find settings list) s m' = Finds m settings list s.said s.list × (m' ≡ m)

-- a fresh store: what an accepted open gives, beside buffers of any length and content
pub record Fresh (m : Memory) : Type 0 where
  pub n : ℕ
  pub there : Store
  pub values : List ℕ
  pub opens : Opens n there (gives values) m.store

-- the calls, from a memory to the last memory: each call gets the memory that the one before left
abbrev pub Chain : {A : Type 0} → StepOf A → Memory → List Call → List A → Memory → Type 0
Chain Step m [] [] last = last ≡ m
Chain Step m [] (s ∷ ss) last = ⊥
Chain Step m (c ∷ cs) [] last = ⊥
Chain Step m (c ∷ cs) (s ∷ ss) last = (m' : Memory) × Step m c s m' × Chain Step m' cs ss last

-- a history: each call is one that the functions' contracts allow
abbrev pub History : Memory → List Call → List Shown → Memory → Type 0
History = Chain Called

-- ## The ledger beside a history

-- the ledger after the calls
abbrev pub after_all : Space → Ledger → List Call → Ledger
after_all space l [] = l
after_all space l (c ∷ cs) = after_all space (next_ledger space l c) cs

-- the ledger that is fed a fresh store's N and space, after the calls
abbrev pub ledger_after : Memory → List Call → Ledger
ledger_after m cs = after_all (space m) (first_ledger m.store.activities) cs

-- what the calls show, one after the other
abbrev pub shows_all : Space → Ledger → List Call → List Shown
shows_all space l [] = []
shows_all space l (c ∷ cs) = shows space l c ∷ shows_all space (next_ledger space l c) cs

-- what the ledger that is fed a fresh store's N and space says of the calls
abbrev pub ledger_shows : Memory → List Call → List Shown
ledger_shows m cs = shows_all (space m) (first_ledger m.store.activities) cs

-- no call is refused under number 1
abbrev pub Never1 : List Shown → Type 0
Never1 [] = Unit {0}
Never1 (s ∷ ss) = ((detail : ℕ) → s.said ≡ refused 1 detail → ⊥) × Never1 ss

-- the ledger's traces are those kept in a memory
pub record Keeps (space : Space) (l : Ledger) (m : Memory) : Type 0 where
  pub is_sound : sound m ≡ true
  pub traces : kept m ≡ l.traces
  pub same_room : room m ≡ room_beside space l

-- ## Finds

-- Calls from a fresh store up to some find among them: the calls before, and what the find shows.
pub record FindBy {A : Type 0} (Step : StepOf A) : Type 0 where
  pub start : Memory
  pub is_fresh : Fresh start
  pub before : List Call
  pub shown_before : List A
  pub memory : Memory
  pub history : Chain Step start before shown_before memory
  pub settings : Settings
  pub list : List ℕ
  pub shown : A
  pub memory' : Memory
  pub called : Step memory (find settings list) shown memory'

-- a find of a history
abbrev pub FindIn : Type 0
FindIn = FindBy Called

-- the ledger before it
abbrev pub ledger_of : {A : Type 0} {Step : StepOf A} → FindBy Step → Ledger
ledger_of f = ledger_after f.start f.before

-- what it asks, by the ledger
abbrev pub question_of : {A : Type 0} {Step : StepOf A} → FindBy Step → Question
question_of f = question (ledger_of f) f.settings

-- What a find shows. `listed` has exactly the constraints that meet the threshold and the confidence and `replayed` exactly those that pruning
-- keeps, each in the stated order and once; what these read is at most so many times all events. The find is refused as it says, a list too
-- short with the number needed; or it gives the numbers, and the slice has the list laid out at its front, and after it what was there.
pub record RightFind (q : Question) (list : List ℕ) (shown : Shown) : Type 0 where
  pub listed : List Constraint
  pub exactly : Exactly q.activities (is_listed q) listed
  pub replayed : List Constraint
  pub kept_by_pruning : Exactly q.activities (survives q) replayed
  pub at_most : length replayed + 6 * q.activities ≤ 14 * q.activities * q.activities
  pub read_at_most : events_read q replayed ≤ length replayed * total q.traces
  pub said :
      shown.said
      ≡ reply (checks_for (length listed) q list) (length listed ∷ length replayed ∷ trace_count q ∷ events_read q replayed ∷ [])
  pub written :
      shown.list ≡ when_passed (checks_for (length listed) q list) (layout q listed ++ drop (numbers * length listed) list) list

-- the find was accepted
abbrev pub Accepted : FindIn → Type 0
Accepted f = (values : List ℕ) × (f.shown.said ≡ gives values)

-- two finds alike in N, settings and kept traces of length 1 or more, whatever their order and however many empty ones either keeps
pub record AlikeFinds {A : Type 0} {Step : StepOf A} (f g : FindBy Step) : Type 0 where
  pub activities : (ledger_of f).activities ≡ (ledger_of g).activities
  pub settings : f.settings ≡ g.settings
  pub traces : Alike (ledger_of f).traces (ledger_of g).traces

-- two finds give equal lists and numbers: those of constraints listed and replayed, of traces of length 1 or more, and of events handed to
-- replayers
pub record EqualFinds (f g : FindIn) : Type 0 where
  pub listed : ℕ
  pub replayed : ℕ
  pub all : ℕ
  pub handed : ℕ
  pub said : f.shown.said ≡ gives (listed ∷ replayed ∷ all ∷ handed ∷ [])
  pub said' : g.shown.said ≡ gives (listed ∷ replayed ∷ all ∷ handed ∷ [])
  pub lists : take (numbers * listed) f.shown.list ≡ take (numbers * listed) g.shown.list

-- A find behind the calls `before`: it is from the same start, and what it shows stands at its place among all that was shown.
pub record FindAt {A : Type 0} (Step : StepOf A) (m : Memory) (before : List Call) (settings : Settings) (list : List ℕ) (ss : List A)
    : Type 0 where
  pub found : FindBy Step
  pub same_start : found.start ≡ m
  pub same_before : found.before ≡ before
  pub same_settings : found.settings ≡ settings
  pub same_list : found.list ≡ list
  pub shown_there : get_elem? ss (length before) ≡ some found.shown

-- Demand 3, one claim about all histories: they follow the ledger, and their finds are right.
pub record FollowsLedger : Type 0 where
  -- every call is accepted, or refused under the same number and detail, as in the ledger
  pub agrees : (m last : Memory) (cs : List Call) (ss : List Shown) → Fresh m → History m cs ss last → ss ≡ ledger_shows m cs
  -- 1 never comes
  pub never_1 : (m last : Memory) (cs : List Call) (ss : List Shown) → Fresh m → History m cs ss last → Never1 ss
  -- the ledger's traces are the kept ones
  pub keeps :
      (m last : Memory) (cs : List Call) (ss : List Shown) → Fresh m → History m cs ss last → Keeps (space m) (ledger_after m cs) last
  -- every find of every history is one of those that the next two speak of
  pub every_find :
      (m last : Memory) (before later : List Call) (settings : Settings) (list : List ℕ) (ss : List Shown) → Fresh m →
      History m (before ++ (find settings list ∷ later)) ss last → FindAt Called m before settings list ss
  -- every find gives the ledger's list and numbers, or is refused as the ledger says
  pub right : (f : FindIn) → RightFind (question_of f) f.list f.shown
  -- accepted finds that are alike give equal lists and numbers, in one history or in two
  pub alike : (f g : FindIn) → Accepted f → Accepted g → AlikeFinds f g → EqualFinds f g

-- Histories are there: the claim does not speak of nothing.
pub record HistoriesExist : Type 0 where
  -- what an accepted open gives for n is fresh, beside any buffers
  pub fresh : (n : ℕ) (events ends words : List ℕ) → declarable n ≡ true → Fresh (memory (empty n) events ends words)
  -- in any memory, and so from a fresh store, all calls can be made, one after the other
  pub history : (m : Memory) (cs : List Call) → (ss : List Shown) × (last : Memory) × History m cs ss last

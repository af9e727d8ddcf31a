-- Histories of the calls from C, and what is claimed of all of them: they are histories, told in numbers, and follow the ledger.
-- Assumes nothing.
use Rattle.std.specs.Prelude.{ℕ, ◌*◌, ◌≡◌, List, [], ◌∷◌, ◌++◌, take}
use Rattle.base.specs.Checks.{Reply}
use Rattle.eventlog.specs.declared.Store.{Store}
use Rattle.eventlog.specs.Store.{Memory, with_store, space}
use Rattle.eventlog.specs.Calls.{Opens, Adds}
use Rattle.columns.specs.Calls.{Reads}
use Rattle.pruning.specs.declared.Settings.{Settings}
use Rattle.discovery.specs.Listing.{numbers}
use Rattle.discovery.specs.Calls.{Finds}
use Rattle.history.specs.Ledger.{Call, open_for, add, read, find, Shown}
use Rattle.history.specs.Histories.{StepOf, Chain, Fresh, History, ledger_after, ledger_shows, Keeps, FindBy, question_of, RightFind, AlikeFinds, FindAt}
use Rattle.capi.specs.Numbers.{number_of, answer_of, Replied, Returned}

-- ## Histories from C

-- What a call from C shows: the number that it returns, its answer ([] of open, which has none), and what stands in the slice lent for the
-- list (in no call but find is there one).
pub record ShownToC : Type 0 where
  pub number : ℕ
  pub answer : List ℕ
  pub list : List ℕ

abbrev pub to_c : ℕ → List ℕ → List ℕ → ShownToC
to_c number answer list = record { number = number; answer = answer; list = list }

-- One call from C in a memory: what it may show and leave is what the call's own contract says, told in numbers. The functions of src/
-- promise just this.
abbrev pub CalledFromC : StepOf ShownToC
CalledFromC m (open_for n) s m' =
    (store : Store) × Returned (Opens n m.store) s.number store × (m' ≡ with_store store m) × (s.answer ≡ []) × (s.list ≡ [])
CalledFromC m (add trace) s m' = Replied (Adds m trace) s.number m' s.answer × (s.list ≡ [])
CalledFromC m (read log) s m' = Replied (Reads m log) s.number m' s.answer × (s.list ≡ [])
CalledFromC m (find settings list) s m' = Replied (Finds m settings list) s.number s.list s.answer × (m' ≡ m)

-- the calls, from a memory to the last memory: each call gets the memory that the one before left
abbrev pub HistoryFromC : Memory → List Call → List ShownToC → Memory → Type 0
HistoryFromC = Chain CalledFromC

-- a find of such a history
abbrev pub FindFromC : Type 0
FindFromC = FindBy CalledFromC

-- ## What a history shows, in numbers

abbrev pub answer_to : Call → Reply → List ℕ
answer_to (open_for n) said = []
answer_to (add trace) said = answer_of said
answer_to (read log) said = answer_of said
answer_to (find settings list) said = answer_of said

abbrev pub in_numbers : Call → Shown → ShownToC
in_numbers c s = to_c (number_of s.said) (answer_to c s.said) s.list

abbrev pub all_in_numbers : List Call → List Shown → List ShownToC
all_in_numbers [] ss = []
all_in_numbers (c ∷ cs) [] = []
all_in_numbers (c ∷ cs) (s ∷ ss) = in_numbers c s ∷ all_in_numbers cs ss

-- a history of the same calls, of which C was told in numbers what it shows
pub record InHistory (m : Memory) (cs : List Call) (ss : List ShownToC) (last : Memory) : Type 0 where
  pub shown : List Shown
  pub history : History m cs shown last
  pub told : ss ≡ all_in_numbers cs shown

-- ## The claim

-- no call returns 1
abbrev pub Never1FromC : List ShownToC → Type 0
Never1FromC [] = Unit {0}
Never1FromC (s ∷ ss) = (s.number ≡ 1 → ⊥) × Never1FromC ss

-- a find shows a right find in numbers
pub record RightFromC (f : FindFromC) : Type 0 where
  pub shown : Shown
  pub right : RightFind (question_of f) f.list shown
  pub told : f.shown ≡ in_numbers (find f.settings f.list) shown

-- two finds give equal lists and numbers, the four of `EqualFinds`
pub record EqualFromC (f g : FindFromC) : Type 0 where
  pub listed : ℕ
  pub replayed : ℕ
  pub all : ℕ
  pub handed : ℕ
  pub answer : f.shown.answer ≡ listed ∷ replayed ∷ all ∷ handed ∷ []
  pub answer' : g.shown.answer ≡ listed ∷ replayed ∷ all ∷ handed ∷ []
  pub lists : take (numbers * listed) f.shown.list ≡ take (numbers * listed) g.shown.list

-- All that is claimed of histories holds of the calls from C.
pub record FollowsLedgerFromC : Type 0 where
  -- what an open leaves that returns 0 is fresh
  pub fresh : (m m' : Memory) (n : ℕ) (s : ShownToC) → CalledFromC m (open_for n) s m' → s.number ≡ 0 → Fresh m'
  -- they are histories, told in numbers
  pub makes_history : (m last : Memory) (cs : List Call) (ss : List ShownToC) → HistoryFromC m cs ss last → InHistory m cs ss last
  -- every number is the one that the ledger's words come to
  pub agrees :
      (m last : Memory) (cs : List Call) (ss : List ShownToC) → Fresh m → HistoryFromC m cs ss last →
      ss ≡ all_in_numbers cs (ledger_shows m cs)
  -- 1 never comes
  pub never_1 : (m last : Memory) (cs : List Call) (ss : List ShownToC) → Fresh m → HistoryFromC m cs ss last → Never1FromC ss
  -- the ledger's traces are the kept ones
  pub keeps :
      (m last : Memory) (cs : List Call) (ss : List ShownToC) → Fresh m → HistoryFromC m cs ss last →
      Keeps (space m) (ledger_after m cs) last
  -- every find of every history is one of those that the next two speak of
  pub every_find :
      (m last : Memory) (before later : List Call) (settings : Settings) (list : List ℕ) (ss : List ShownToC) → Fresh m →
      HistoryFromC m (before ++ (find settings list ∷ later)) ss last → FindAt CalledFromC m before settings list ss
  -- every find shows the ledger's list and numbers, or what the ledger refuses
  pub right : (f : FindFromC) → RightFromC f
  -- finds that return 0 and are alike give equal lists and numbers, in one history or in two
  pub alike : (f g : FindFromC) → f.shown.number ≡ 0 → g.shown.number ≡ 0 → AlikeFinds f g → EqualFromC f g
  -- and there are such histories: in any memory all calls can be made, one after the other
  pub history : (m : Memory) (cs : List Call) → (ss : List ShownToC) × (last : Memory) × HistoryFromC m cs ss last

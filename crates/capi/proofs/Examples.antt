-- What the contracts for C come to, computed: of a call each, and of the two histories of history's Examples.
-- Assumes nothing.
use Prim.Native.Nat.{ℕ, ◌*◌}
use mathlib.Core.Path.{◌≡◌, refl, sym, ap, subst, ◌∙◌}
use mathlib.Core.List.{List, [], ◌∷◌, ◌++◌}
use native.Mathlib.Omega.{arith}
use lib.ListN.{take}
use Rattle.base.specs.Checks.{Check, reply, when_passed, Outcome}
use Rattle.declare.specs.Meaning.{meanings, holds, activated, fulfilled}
use Rattle.declare.specs.Constraints.{constraints}
use Rattle.eventlog.specs.declared.Store.{Store}
use Rattle.eventlog.specs.Store.{Memory, memory, kept, sound, last_end}
use Rattle.eventlog.specs.Words.{word_of}
use Rattle.eventlog.specs.Calls.{empty, declared_front, Opens, Adds}
use Rattle.columns.specs.Calls.{Reads}
use Rattle.columns.specs.Log.{lines, log_checks, spelled}
use Rattle.pruning.specs.Question.{fulfilments, activations, support}
use Rattle.discovery.specs.Listing.{listed, replayed, events_read, layout}
use Rattle.discovery.specs.Calls.{Finds}
use Rattle.history.specs.Ledger.{find}
use Rattle.history.specs.Histories.{AlikeFinds}
use Rattle.history.proofs.Examples.{keeping, a_log, shown, found, by_all, four, start, calls, last, is_history, list, finds, one, start', calls', shown', last', is_history', list', found', finds', other, are_alike}
use Rattle.capi.specs.Numbers.{number_of, answer_of, Replied, Returned}
use Rattle.capi.specs.Histories.{ShownToC, to_c, HistoryFromC, FindFromC, in_numbers, all_in_numbers, InHistory, Never1FromC, RightFromC, EqualFromC}
use Rattle.capi.proofs.Histories.{from_c, made_from_c, follows_ledger_from_c}

-- ## Calls: whatever meets a contract has these numbers, and leaves this

module _ {A : Type 0} {checks : List Check} {values : List ℕ} {new old left : A} {number : ℕ} where
  returned :
      Returned (Outcome checks values new old) number left →
      (number ≡ number_of (reply checks values)) × (left ≡ when_passed checks new old)
  returned r = (r.returns ∙ ap number_of r.outcome.says, r.outcome.leaves)

  replied :
      {answer : List ℕ} → Replied (Outcome checks values new old) number left answer →
      (number ≡ number_of (reply checks values)) × (answer ≡ answer_of (reply checks values)) × (left ≡ when_passed checks new old)
  replied r = (r.numbers.returns ∙ ap number_of r.outcome.says, r.numbers.answers ∙ ap answer_of r.outcome.says, r.outcome.leaves)

module _ (number : ℕ) (answer : List ℕ) where
  pub open_accepted : (there left : Store) → Returned (Opens 2 there) number left → (number ≡ 0) × (left ≡ empty 2)
  open_accepted there left = returned

  pub open_refused : (there left : Store) → Returned (Opens 0 there) number left → (number ≡ 2) × (left ≡ there)
  open_refused there left = returned

  abbrev two : Memory
  two = memory (empty 2) (7 ∷ 7 ∷ []) (9 ∷ 9 ∷ []) (9 ∷ 9 ∷ [])

  pub add_refused :
      (left : Memory) → Replied (Adds two (2 ∷ [])) number left answer →
      (number ≡ 6) × (answer ≡ 1 ∷ 0 ∷ 0 ∷ 0 ∷ []) × (left ≡ two)
  unfolding sound kept word_of last_end declared_front
  add_refused left = replied

  pub read_accepted :
      (left : Memory) → Replied (Reads start a_log) number left answer →
      (number ≡ 0) × (answer ≡ 1 ∷ 0 ∷ 0 ∷ 0 ∷ []) × (left ≡ memory (keeping 1) (0 ∷ 0 ∷ 7 ∷ []) (2 ∷ 9 ∷ []) (1 ∷ 6 ∷ 6 ∷ []))
  unfolding sound kept word_of last_end lines log_checks spelled
  read_accepted left = replied

  pub find_accepted :
      (left : List ℕ) → Replied (Finds last by_all list) number left answer →
      (number ≡ 0) × (answer ≡ 4 ∷ 8 ∷ 2 ∷ 24 ∷ []) × (left ≡ four ++ 9 ∷ 9 ∷ [])
  unfolding sound word_of last_end kept constraints fulfilments activations support listed replayed events_read layout fulfilled activated holds meanings
  find_accepted left = replied

-- ## The two histories

-- what the first shows to C
abbrev told : List ShownToC
told =
    record { number = 0; answer = []; list = [] } ∷
    record { number = 0; answer = 0 ∷ 0 ∷ 0 ∷ 0 ∷ []; list = [] } ∷
    record { number = 6; answer = 2 ∷ 0 ∷ 0 ∷ 0 ∷ []; list = [] } ∷
    record { number = 0; answer = 1 ∷ 0 ∷ 0 ∷ 0 ∷ []; list = [] } ∷
    []

pub is_history_from_c : HistoryFromC start calls told last
is_history_from_c = made_from_c start last calls shown is_history

abbrev pub one_from_c : FindFromC
one_from_c =
    record {
      start = start;
      is_fresh = one.is_fresh;
      before = calls;
      shown_before = told;
      memory = last;
      history = is_history_from_c;
      settings = by_all;
      list = list;
      shown = record { number = 0; answer = 4 ∷ 8 ∷ 2 ∷ 24 ∷ []; list = four ++ 9 ∷ 9 ∷ [] };
      memory' = last;
      called = from_c last (find by_all list) found last finds;
    }

abbrev pub other_from_c : FindFromC
other_from_c =
    record {
      start = start';
      is_fresh = other.is_fresh;
      before = calls';
      shown_before = all_in_numbers calls' shown';
      memory = last';
      history = made_from_c start' last' calls' shown' is_history';
      settings = by_all;
      list = list';
      shown = record { number = 0; answer = 4 ∷ 8 ∷ 2 ∷ 24 ∷ []; list = four ++ 3 ∷ [] };
      memory' = last';
      called = from_c last' (find by_all list') found' last' finds';
    }

pub are_alike_from_c : AlikeFinds one_from_c other_from_c
are_alike_from_c = record { activities = are_alike.activities; settings = refl; traces = are_alike.traces }

pub are_equal_from_c : EqualFromC one_from_c other_from_c
are_equal_from_c = record { listed = 4; replayed = 8; all = 2; handed = 24; answer = refl; answer' = refl; lists = refl }

-- of any two equal finds that list four constraints the four numbers and the first twenty of the lists are equal
pub equal_fronts_from_c :
    (f g : FindFromC) → EqualFromC f g → f.shown.answer ≡ 4 ∷ 8 ∷ 2 ∷ 24 ∷ [] →
    (g.shown.answer ≡ 4 ∷ 8 ∷ 2 ∷ 24 ∷ []) × (take 20 f.shown.list ≡ take 20 g.shown.list)
equal_fronts_from_c f g e four =
    let same = sym e.answer ∙ four in
    let listed : e.listed ≡ 4 = cc in
    (e.answer' ∙ same, subst (λ n. take (5 * n) f.shown.list ≡ take (5 * n) g.shown.list) listed e.lists)

-- ## What the claims' words say

never_1_says : Never1FromC (to_c 2 [] [] ∷ []) × (Never1FromC (to_c 1 [] [] ∷ []) → ⊥)
never_1_says = ((λ e. omega (arith, e), tt), λ n. n.0 refl)

-- what a right find shows is what C is told
right_told : (f : FindFromC) (r : RightFromC f) → f.shown ≡ in_numbers (find f.settings f.list) r.shown
right_told f r = r.told

history_told : (k : InHistory start calls told last) → told ≡ all_in_numbers calls k.shown
history_told k = k.told

some_history : (ss : List ShownToC) × (end : Memory) × HistoryFromC start calls ss end
some_history = follows_ledger_from_c.history start calls

-- The calls from C make histories, so that all that is claimed of histories holds of them.
-- Assumes nothing.
use Prim.Native.Nat.{ℕ, ◌*◌, ◌≤◌}
use mathlib.Core.Path.{◌≡◌, refl, sym, ap, ap₂, subst, ◌∙◌}
use mathlib.Core.List.{List, [], ◌∷◌}
use native.Mathlib.Omega.{arith}
use lib.ListN.{length, take}
use Rattle.base.specs.Checks.{Reply, gives, refused}
use Rattle.eventlog.specs.declared.Space.{Space}
use Rattle.eventlog.specs.Store.{Memory, space}
use Rattle.eventlog.specs.Calls.{Opens}
use Rattle.discovery.specs.Listing.{numbers}
use Rattle.history.specs.Ledger.{Call, open_for, add, read, find, Shown, Ledger, first_ledger, next_ledger, shows}
use Rattle.history.specs.Histories.{Called, Fresh, History, shows_all, ledger_shows, FindIn, question_of, Accepted, AlikeFinds}
use Rattle.history.proofs.Replies.{find_refused, ledger_refused}
use Rattle.history.proofs.Chains.{find_at}
use Rattle.history.proofs.Existence.{histories_exist}
use Rattle.history.proofs.FollowsLedger.{follows_ledger}
use Rattle.capi.specs.Numbers.{number_of, answer_of, Replied}
use Rattle.capi.specs.Histories.{ShownToC, to_c, CalledFromC, HistoryFromC, FindFromC, in_numbers, all_in_numbers, InHistory, Never1FromC, RightFromC, EqualFromC, FollowsLedgerFromC}

-- ## A call from C is a call of a history, and each of these can be made from C

pub record IsCall (m : Memory) (c : Call) (s : ShownToC) (m' : Memory) : Type 0 where
  pub shown : Shown
  pub called : Called m c shown m'
  pub told : s ≡ in_numbers c shown

-- what is replied in numbers, as a history shows it
module _ (s : ShownToC) {A : Type 0} {contract : Reply → A → Type 0} {left : A} (r : Replied contract s.number left s.answer) where
  abbrev as_shown : Shown
  as_shown = record { said = r.said; list = s.list }

  as_told : s ≡ to_c (number_of r.said) (answer_of r.said) s.list
  as_told i = to_c (r.numbers.returns i) (r.numbers.answers i) s.list

is_call : (m : Memory) (c : Call) (s : ShownToC) (m' : Memory) → CalledFromC m c s m' → IsCall m c s m'
is_call m (open_for n) s m' (store, r, left, no_answer, no_list) =
    record {
      shown = record { said = r.said; list = s.list };
      called = (store, r.outcome, left, no_list);
      told = λ i. to_c (r.returns i) (no_answer i) s.list;
    }
is_call m (add trace) s m' (r, no_list) = record { shown = as_shown s r; called = (r.outcome, no_list); told = as_told s r }
is_call m (read log) s m' (r, no_list) = record { shown = as_shown s r; called = (r.outcome, no_list); told = as_told s r }
is_call m (find settings list) s m' (r, same) = record { shown = as_shown s r; called = (r.outcome, same); told = as_told s r }

pub from_c : (m : Memory) (c : Call) (s : Shown) (m' : Memory) → Called m c s m' → CalledFromC m c (in_numbers c s) m'
from_c m (open_for n) s m' (store, opens, left, no_list) =
    (store, record { said = s.said; outcome = opens; returns = refl }, left, refl, no_list)
from_c m (add trace) s m' (adds, no_list) =
    (record { said = s.said; outcome = adds; numbers = record { returns = refl; answers = refl } }, no_list)
from_c m (read log) s m' (reads, no_list) =
    (record { said = s.said; outcome = reads; numbers = record { returns = refl; answers = refl } }, no_list)
from_c m (find settings list) s m' (finds, same) =
    (record { said = s.said; outcome = finds; numbers = record { returns = refl; answers = refl } }, same)

-- ## Whole histories

in_history : (m last : Memory) (cs : List Call) (ss : List ShownToC) → HistoryFromC m cs ss last → InHistory m cs ss last
in_history m last [] [] h = record { shown = []; history = h; told = refl }
in_history m last [] (s ∷ ss) h = absurd h
in_history m last (c ∷ cs) [] h = absurd h
in_history m last (c ∷ cs) (s ∷ ss) (m', called, h) =
    let now = is_call m c s m' called in
    let later = in_history m' last cs ss h in
    record {
      shown = now.shown ∷ later.shown;
      history = (m', now.called, later.history);
      told = ap₂ ◌∷◌ now.told later.told;
    }

pub made_from_c :
    (m last : Memory) (cs : List Call) (ss : List Shown) → History m cs ss last → HistoryFromC m cs (all_in_numbers cs ss) last
made_from_c m last [] [] h = h
made_from_c m last [] (s ∷ ss) h = absurd h
made_from_c m last (c ∷ cs) [] h = absurd h
made_from_c m last (c ∷ cs) (s ∷ ss) (m', called, h) = (m', from_c m c s m' called, made_from_c m' last cs ss h)

follows :
    (m last : Memory) (cs : List Call) (ss : List ShownToC) → Fresh m → HistoryFromC m cs ss last →
    ss ≡ all_in_numbers cs (ledger_shows m cs)
follows m last cs ss fresh h =
    let k = in_history m last cs ss h in k.told ∙ ap (all_in_numbers cs) (follows_ledger.agrees m last cs k.shown fresh k.history)

-- if a call is refused, its number is at least 2
abbrev RefusedAbove1 : Reply → Type 0
RefusedAbove1 said = (number detail : ℕ) → said ≡ refused number detail → 2 ≤ number

never_1 : (said : Reply) → RefusedAbove1 said → number_of said ≡ 1 → ⊥
never_1 (gives values) above e = omega (arith, e)
never_1 (refused number detail) above e = omega (arith, e, above number detail refl)

-- so 0 is an accepted call's
accepted_by : (said : Reply) → RefusedAbove1 said → number_of said ≡ 0 → (values : List ℕ) × (said ≡ gives values)
accepted_by (gives values) above e = (values, refl)
accepted_by (refused number detail) above e = absurd (omega (arith, e, above number detail refl))

ledger_never_1 : (lengths : Space) (l : Ledger) (cs : List Call) → Never1FromC (all_in_numbers cs (shows_all lengths l cs))
ledger_never_1 lengths l [] = tt
ledger_never_1 lengths l (c ∷ cs) =
    (never_1 (shows lengths l c).said (ledger_refused lengths l c), ledger_never_1 lengths (next_ledger lengths l c) cs)

-- what an open leaves that returns 0 is fresh
fresh_from_c : (m m' : Memory) (n : ℕ) (s : ShownToC) → CalledFromC m (open_for n) s m' → s.number ≡ 0 → Fresh m'
fresh_from_c m m' n s called zero =
    let k = is_call m (open_for n) s m' called in
    let (store, opens, left, no_list) = k.called in
    let given =
    accepted_by k.shown.said (λ number detail e. ledger_refused (space m) (first_ledger n) (open_for n) number detail (sym opens.says ∙ e))
    (sym (ap (λ s. s.number) k.told) ∙ zero) in
    subst Fresh (sym left)
    (record {
      n = n;
      there = m.store;
      values = given.0;
      opens = subst (λ said. Opens n m.store said store) given.1 opens;
    })

-- ## Finds

module _ (f : FindFromC) where
  this_call : IsCall f.memory (find f.settings f.list) f.shown f.memory'
  this_call = is_call f.memory (find f.settings f.list) f.shown f.memory' f.called

  -- the find of a history that it is
  abbrev as_find : FindIn
  as_find =
      let k = in_history f.start f.memory f.before f.shown_before f.history in
      record {
        start = f.start;
        is_fresh = f.is_fresh;
        before = f.before;
        shown_before = k.shown;
        memory = f.memory;
        history = k.history;
        settings = f.settings;
        list = f.list;
        shown = this_call.shown;
        memory' = f.memory';
        called = this_call.called;
      }

  find_right : RightFromC f
  find_right = record { shown = this_call.shown; right = follows_ledger.right as_find; told = this_call.told }

  -- what returns 0 was accepted
  find_accepted : f.shown.number ≡ 0 → Accepted as_find
  find_accepted zero =
      let r = follows_ledger.right as_find in
      accepted_by this_call.shown.said
      (λ number detail e. find_refused (length r.listed) (question_of f) f.list _ number detail (sym r.said ∙ e))
      (sym (ap (λ s. s.number) this_call.told) ∙ zero)

find_alike : (f g : FindFromC) → f.shown.number ≡ 0 → g.shown.number ≡ 0 → AlikeFinds f g → EqualFromC f g
find_alike f g zero zero' same =
    let e =
    follows_ledger.alike (as_find f) (as_find g) (find_accepted f zero) (find_accepted g zero')
    (record { activities = same.activities; settings = same.settings; traces = same.traces }) in
    let front : ShownToC → List ℕ = λ s. take (numbers * e.listed) s.list in
    record {
      listed = e.listed;
      replayed = e.replayed;
      all = e.all;
      handed = e.handed;
      answer = ap (λ s. s.answer) (this_call f).told ∙ ap answer_of e.said;
      answer' = ap (λ s. s.answer) (this_call g).told ∙ ap answer_of e.said';
      lists = ap front (this_call f).told ∙ e.lists ∙ sym (ap front (this_call g).told);
    }

pub follows_ledger_from_c : FollowsLedgerFromC
follows_ledger_from_c =
    record {
      fresh = fresh_from_c;
      makes_history = in_history;
      agrees = follows;
      never_1 =
          λ m last cs ss fresh h.
          subst Never1FromC (sym (follows m last cs ss fresh h)) (ledger_never_1 (space m) (first_ledger m.store.activities) cs);
      keeps = λ m last cs ss fresh h. let k = in_history m last cs ss h in follows_ledger.keeps m last cs k.shown fresh k.history;
      every_find = find_at CalledFromC;
      right = find_right;
      alike = find_alike;
      history =
          λ m cs.
          let (ss, last, h) = histories_exist.history m cs in
          (all_in_numbers cs ss, last, made_from_c m last cs ss h);
    }

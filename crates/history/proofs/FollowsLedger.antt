-- All histories follow the ledger (demand 3). Each call is known by its contract's record alone.
-- Assumes nothing.
use Prim.Native.Nat.{◌*◌}
use mathlib.Core.Path.{◌≡◌, refl, sym, ap, ap₂, subst, transport, ◌∙◌}
use mathlib.Core.List.{List, [], ◌∷◌}
use native.Mathlib.Omega.{arith}
use lib.ListN.{length, take}
use lib.Dec.{eqb}
use Rattle.std.specs.List.{filter}
use Rattle.base.specs.Lists.{non_empty, count, equal_lists}
use Rattle.base.specs.Checks.{gives}
use Rattle.eventlog.specs.declared.Space.{Space}
use Rattle.eventlog.specs.Store.{Memory, space}
use Rattle.declare.specs.declared.constraints.Constraint.{Constraint}
use Rattle.pruning.specs.Question.{trace_count}
use Rattle.discovery.specs.Listing.{events_read, numbers, layout}
use Rattle.declare.specs.Constraints.{Exactly}
use Rattle.declare.proofs.constraints.Members.{exactly_one}
use Rattle.discovery.proofs.Orderless.{without_empty, question_over_alike, trace_count_alike, is_listed_alike, survives_alike, read_alike, layout_alike}
use Rattle.history.specs.Ledger.{Call, open_for, add, read, find, Shown, Ledger, first_ledger, next_ledger}
use Rattle.history.specs.Histories.{Called, Fresh, History, after_all, ledger_after, shows_all, ledger_shows, Never1, Keeps, FindIn, ledger_of, question_of, RightFind, Accepted, AlikeFinds, EqualFinds, FollowsLedger}
use Rattle.history.proofs.Chains.{find_at}
use Rattle.history.proofs.Replies.{ledger_refused}
use Rattle.history.proofs.CallSteps.{fresh_keeps, Follows, open_follows, add_follows, read_follows, find_follows}
use Rattle.history.proofs.Finds.{shows_right, right_gives}

-- ## Whole histories

follows :
    (lengths : Space) (l : Ledger) (m : Memory) → Keeps lengths l m → (c : Call) (s : Shown) (m' : Memory) → Called m c s m' → Follows lengths l c s m'
follows lengths l m k (open_for n) = open_follows lengths l m k n
follows lengths l m k (add trace) = add_follows lengths l m k trace
follows lengths l m k (read log) = read_follows lengths l m k log
follows lengths l m k (find settings list) = find_follows lengths l m k settings list

history_follows :
    (lengths : Space) (l : Ledger) (m last : Memory) → Keeps lengths l m → (cs : List Call) (ss : List Shown) → History m cs ss last →
    (ss ≡ shows_all lengths l cs) × Keeps lengths (after_all lengths l cs) last
history_follows lengths l m last k [] [] h = (refl, subst (λ (m' : Memory). Keeps lengths l m') (sym h) k)
history_follows lengths l m last k [] (s ∷ ss) h = absurd h
history_follows lengths l m last k (c ∷ cs) [] h = absurd h
history_follows lengths l m last k (c ∷ cs) (s ∷ ss) (m', called, h) =
    let now = follows lengths l m k c s m' called in
    let later = history_follows lengths (next_ledger lengths l c) m' last now.keeps cs ss h in
    (ap₂ ◌∷◌ now.agrees later.0, later.1)

from_fresh :
    (m last : Memory) (cs : List Call) (ss : List Shown) → Fresh m → History m cs ss last →
    (ss ≡ ledger_shows m cs) × Keeps (space m) (ledger_after m cs) last
from_fresh m last cs ss fresh = history_follows (space m) (first_ledger m.store.activities) m last (fresh_keeps m fresh) cs ss

ledger_never_1_all : (lengths : Space) (l : Ledger) (cs : List Call) → Never1 (shows_all lengths l cs)
ledger_never_1_all lengths l [] = tt
ledger_never_1_all lengths l (c ∷ cs) =
    (λ detail e. omega (arith, ledger_refused lengths l c 1 detail e), ledger_never_1_all lengths (next_ledger lengths l c) cs)

-- ## Finds

found_right : (f : FindIn) → RightFind (question_of f) f.list f.shown
found_right f =
    let lengths = space f.start in
    let l = ledger_of f in
    let k = (from_fresh f.start f.memory f.before f.shown_before f.is_fresh f.history).1 in
    let shown = (find_follows lengths l f.memory k f.settings f.list f.shown f.memory' f.called).agrees in
    subst (λ (s : Shown). RightFind (question_of f) f.list s) (sym shown) (shows_right lengths l f.settings f.list)

-- finds are alike by their traces of length 1 or more, however many empty ones either keeps
pub alike_beside_empty :
    (f g : FindIn) → (ledger_of f).activities ≡ (ledger_of g).activities → f.settings ≡ g.settings →
    filter non_empty (ledger_of f).traces ≡ filter non_empty (ledger_of g).traces → AlikeFinds f g
alike_beside_empty f g activities settings e =
    record {
      activities = activities;
      settings = settings;
      traces =
          λ t some.
          sym (without_empty (ledger_of f).traces t some) ∙ ap (count (equal_lists eqb t)) e ∙ without_empty (ledger_of g).traces t some;
    }

found_alike : (f g : FindIn) → Accepted f → Accepted g → AlikeFinds f g → EqualFinds f g
found_alike f g (values, given) (values', given') same =
    let q = question_of f in
    let q' = question_of g in
    let alike = question_over_alike (ledger_of f).traces (ledger_of g).traces same.activities same.settings same.traces in
    let r = found_right f in
    let r' = found_right g in
    let a = right_gives q f.list f.shown r values given in
    let b = right_gives q' g.list g.shown r' values' given' in
    let same-listed : r'.listed ≡ r.listed =
    exactly_one q'.activities _ r'.listed r.listed r'.exactly
    (transport (λ i. Exactly (alike.activities i) (is_listed_alike q q' alike i) r.listed) r.exactly) in
    let same-replayed : r'.replayed ≡ r.replayed =
    exactly_one q'.activities _ r'.replayed r.replayed r'.kept_by_pruning
    (transport (λ i. Exactly (alike.activities i) (survives_alike q q' alike i) r.replayed) r.kept_by_pruning) in
    let read : events_read q' r'.replayed ≡ events_read q r.replayed =
    ap (events_read q') same-replayed ∙ sym (read_alike q q' alike r.replayed) in
    record {
      listed = length r.listed;
      replayed = length r.replayed;
      all = trace_count q;
      handed = events_read q r.replayed;
      said = a.said;
      said' = b.said ∙ (λ i. gives (length (same-listed i) ∷ length (same-replayed i) ∷ sym (trace_count_alike q q' alike) i ∷ read i ∷ []));
      lists =
          a.front ∙ layout_alike q q' alike r.listed
          ∙ sym (subst (λ (cs : List Constraint). take (numbers * length cs) g.shown.list ≡ layout q' cs) same-listed b.front);
    }

-- every call of every history is as in the ledger, and every find is right
pub follows_ledger : FollowsLedger
follows_ledger =
    record {
      agrees = λ m last cs ss fresh h. (from_fresh m last cs ss fresh h).0;
      never_1 =
          λ m last cs ss fresh h.
          subst Never1 (sym (from_fresh m last cs ss fresh h).0) (ledger_never_1_all (space m) (first_ledger m.store.activities) cs);
      keeps = λ m last cs ss fresh h. (from_fresh m last cs ss fresh h).1;
      every_find = find_at Called;
      right = found_right;
      alike = found_alike;
    }

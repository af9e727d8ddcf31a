-- Two histories beside buffers that are not empty, and the finds in which they end, accepted and alike: all is computed.
-- Assumes nothing.
use Prim.Native.Nat.{ℕ, ◌*◌, ◌≤◌}
use mathlib.Core.Path.{◌≡◌, refl, sym, ap, subst, ◌∙◌}
use mathlib.Core.Option.{Option, none, some}
use native.Mathlib.Omega.{arith}
use mathlib.Core.List.{List, [], ◌∷◌, ◌++◌, Permᴰ}
use lib.ListN.{length, take, replicate}
use Rattle.base.specs.Checks.{Reply, gives, refused}
use Rattle.base.proofs.Outcomes.{some_outcome}
use Rattle.declare.specs.Meaning.{meanings, holds, activated, fulfilled}
use Rattle.declare.specs.Constraints.{constraints}
use Rattle.eventlog.specs.declared.Space.{Space}
use Rattle.eventlog.specs.declared.Store.{Store}
use Rattle.eventlog.specs.Store.{Memory, memory, kept, sound, last_end}
use Rattle.eventlog.specs.Words.{word_of}
use Rattle.eventlog.specs.Calls.{declared_front}
use Rattle.columns.specs.Log.{lines, log_checks, spelled}
use Rattle.pruning.specs.declared.Settings.{Settings}
use Rattle.pruning.specs.Question.{Question, asked, fulfilments, activations, support}
use Rattle.discovery.specs.Listing.{listed, replayed, events_read, layout}
use Rattle.discovery.specs.Claims.{ReadAtMost}
use Rattle.discovery.proofs.Orderless.{alike_just_permuted}
use Rattle.history.specs.Ledger.{Call, open_for, add, read, find, Shown, only, Ledger, first_ledger, next_ledger, question, room_beside}
use Rattle.history.specs.Histories.{Called, History, Never1, FindIn, FindAt, ledger_of, ledger_shows, Accepted, RightFind, AlikeFinds, EqualFinds}
use Rattle.history.proofs.Existence.{histories_exist}

-- one activity declared, and so many traces kept
abbrev pub keeping : ℕ → Store
keeping traces = record { activities = 1; traces = traces }

-- what all traces fulfil, whenever it applies
abbrev pub by_all : Settings
by_all = record { threshold = 1000; confidence = 1000 }

-- of the traces 0 and 0 0: the list as it is laid out, and the numbers
abbrev pub four : List ℕ
four =
    1 ∷ 0 ∷ 0 ∷ 2 ∷ 2 ∷
    6 ∷ 0 ∷ 0 ∷ 2 ∷ 2 ∷
    7 ∷ 0 ∷ 0 ∷ 2 ∷ 2 ∷
    8 ∷ 0 ∷ 0 ∷ 2 ∷ 2 ∷
    []

abbrev pub four_found : Reply
four_found = gives (4 ∷ 8 ∷ 2 ∷ 24 ∷ [])

-- ## A history of open, add, a refused add and read, and an accepted find behind it

abbrev pub start : Memory
start = memory (keeping 0) (7 ∷ 7 ∷ 7 ∷ []) (9 ∷ 9 ∷ []) (6 ∷ 6 ∷ 6 ∷ [])

-- "     1  0" twice, each with its line feed
abbrev pub a_log : List ℕ
a_log =
    32 ∷ 32 ∷ 32 ∷ 32 ∷ 32 ∷ 49 ∷ 32 ∷ 32 ∷ 48 ∷ 10 ∷
    32 ∷ 32 ∷ 32 ∷ 32 ∷ 32 ∷ 49 ∷ 32 ∷ 32 ∷ 48 ∷ 10 ∷
    []

abbrev pub calls : List Call
calls = open_for 1 ∷ add (0 ∷ []) ∷ add (0 ∷ 1 ∷ []) ∷ read a_log ∷ []

abbrev pub shown : List Shown
shown = only (gives (1 ∷ 0 ∷ [])) ∷ only (gives []) ∷ only (refused 6 2) ∷ only (gives (1 ∷ [])) ∷ []

abbrev one_kept : Memory
one_kept = memory (keeping 1) (0 ∷ 7 ∷ 7 ∷ []) (1 ∷ 9 ∷ []) (1 ∷ 6 ∷ 6 ∷ [])

abbrev pub last : Memory
last = memory (keeping 2) (0 ∷ 0 ∷ 0 ∷ []) (1 ∷ 3 ∷ []) (1 ∷ 1 ∷ 6 ∷ [])

pub is_history : History start calls shown last
unfolding sound kept word_of last_end declared_front lines log_checks spelled
is_history = (
  start,
  (keeping 0, some_outcome, refl, refl),
  (
    one_kept,
    (some_outcome, refl),
    (
      one_kept,
      (some_outcome, refl),
      (last, (some_outcome, refl), refl),
    ),
  ),
)

-- a slice with room for the list and two numbers more
abbrev pub list : List ℕ
list = replicate 22 9

abbrev pub found : Shown
found = record { said = four_found; list = four ++ 9 ∷ 9 ∷ [] }

pub finds : Called last (find by_all list) found last
unfolding sound word_of last_end kept constraints fulfilments activations support listed replayed events_read layout fulfilled activated holds meanings
finds = (some_outcome, refl)

-- a slice one number too short
pub too_short : Called last (find by_all (replicate 19 9)) (record { said = refused 10 4; list = replicate 19 9 }) last
unfolding sound word_of last_end kept constraints fulfilments activations support listed replayed events_read layout fulfilled activated holds meanings
too_short = (some_outcome, refl)

abbrev pub one : FindIn
one =
    record {
      start = start;
      is_fresh = histories_exist.fresh 1 start.events start.ends start.words refl;
      before = calls;
      shown_before = shown;
      memory = last;
      history = is_history;
      settings = by_all;
      list = list;
      shown = found;
      memory' = last;
      called = finds;
    }

pub is_accepted : Accepted one
is_accepted = (4 ∷ 8 ∷ 2 ∷ 24 ∷ [], refl)

-- ## Another: the traces in the other order, an empty one between them, other buffers and another slice

abbrev pub start' : Memory
start' = memory (keeping 0) (5 ∷ 5 ∷ 5 ∷ 5 ∷ []) (8 ∷ 8 ∷ 8 ∷ []) (4 ∷ 4 ∷ 4 ∷ [])

abbrev pub calls' : List Call
calls' = add (0 ∷ 0 ∷ []) ∷ add [] ∷ add (0 ∷ []) ∷ []

abbrev pub shown' : List Shown
shown' = only (gives []) ∷ only (gives []) ∷ only (gives []) ∷ []

abbrev pub last' : Memory
last' = memory (keeping 3) (0 ∷ 0 ∷ 0 ∷ 5 ∷ []) (2 ∷ 2 ∷ 3 ∷ []) (1 ∷ 0 ∷ 1 ∷ [])

pub is_history' : History start' calls' shown' last'
unfolding sound kept word_of last_end declared_front
is_history' = (
  _,
  (some_outcome, refl),
  (
    _,
    (some_outcome, refl),
    (last', (some_outcome, refl), refl),
  ),
)

abbrev pub list' : List ℕ
list' = replicate 21 3

abbrev pub found' : Shown
found' = record { said = four_found; list = four ++ 3 ∷ [] }

pub finds' : Called last' (find by_all list') found' last'
unfolding sound word_of last_end kept constraints fulfilments activations support listed replayed events_read layout fulfilled activated holds meanings
finds' = (some_outcome, refl)

abbrev pub other : FindIn
other =
    record {
      start = start';
      is_fresh = histories_exist.fresh 1 start'.events start'.ends start'.words refl;
      before = calls';
      shown_before = shown';
      memory = last';
      history = is_history';
      settings = by_all;
      list = list';
      shown = found';
      memory' = last';
      called = finds';
    }

-- ## What the ledger has after a call, and shows of it

abbrev two_kept : Ledger
two_kept = record { activities = 1; traces = [] ∷ (0 ∷ 0 ∷ 0 ∷ []) ∷ [] }

abbrev with_a_third : List ℕ → Ledger
with_a_third trace = record { activities = 1; traces = [] ∷ (0 ∷ 0 ∷ 0 ∷ []) ∷ trace ∷ [] }

abbrev roomy : Space
roomy = record { events = 9; ends = 9; words = 9 }

learned :
    (next_ledger roomy two_kept (open_for 2) ≡ first_ledger 2)
    × (next_ledger roomy two_kept (open_for 0) ≡ two_kept)
    × (next_ledger roomy two_kept (add []) ≡ with_a_third [])
    × (next_ledger roomy two_kept (add (0 ∷ [])) ≡ with_a_third (0 ∷ []))
    × (next_ledger roomy two_kept (add (1 ∷ [])) ≡ two_kept)
    × (next_ledger roomy two_kept (read a_log) ≡ with_a_third (0 ∷ 0 ∷ []))
    × (room_beside roomy two_kept ≡ record { activities = 1; traces = 2; last = 3; space = roomy })
unfolding lines log_checks spelled declared_front
learned = (refl, refl, refl, refl, refl, refl, refl)

-- each call is shown by the ledger behind those before it: what is full, by its ends or by its words, is 8, and an undeclared activity's place
-- is from the front
abbrev one_has_room : List ℕ → List ℕ → List Shown
one_has_room ends words =
    ledger_shows (memory (keeping 0) (7 ∷ 7 ∷ 7 ∷ []) ends words) (add (0 ∷ 0 ∷ 1 ∷ 0 ∷ []) ∷ add [] ∷ add [] ∷ read a_log ∷ [])

abbrev two_full : List Shown
two_full = only (refused 6 3) ∷ only (gives []) ∷ only (refused 8 0) ∷ only (refused 8 1) ∷ []

shown_in_turn : (one_has_room (9 ∷ []) (9 ∷ 9 ∷ []) ≡ two_full) × (one_has_room (9 ∷ 9 ∷ []) (9 ∷ []) ≡ two_full)
unfolding lines log_checks spelled declared_front
shown_in_turn = (refl, refl)

-- ## The two finds are alike, and give equal lists and numbers

pub are_alike : AlikeFinds one other
unfolding lines log_checks spelled
are_alike =
    record {
      activities = refl;
      settings = refl;
      traces = (alike_just_permuted (ledger_of one).traces (ledger_of other).traces).1 ∣ Permᴰ.swap refl refl ∣₁;
    }

pub are_equal : EqualFinds one other
are_equal = record { listed = 4; replayed = 8; all = 2; handed = 24; said = refl; said' = refl; lists = refl }

-- of any two equal finds that list four constraints the numbers and the first twenty of the lists are equal
pub equal_fronts :
    (f g : FindIn) → EqualFinds f g → f.shown.said ≡ four_found →
    (g.shown.said ≡ four_found) × (take 20 f.shown.list ≡ take 20 g.shown.list)
equal_fronts f g e four =
    let same = sym e.said ∙ four in
    let listed : e.listed ≡ 4 = cc in
    (e.said' ∙ same, subst (λ n. take (5 * n) f.shown.list ≡ take (5 * n) g.shown.list) listed e.lists)

-- ## What the claims' words say

never_1_says : Never1 (only (refused 2 0) ∷ []) × (Never1 (only (refused 1 0) ∷ []) → ⊥)
never_1_says = ((λ detail e. refused_apart e, tt), λ n. n.0 0 refl)
  where
    number : Reply → ℕ
    number (gives values) = 0
    number (refused n detail) = n

    refused_apart : {detail : ℕ} → refused 2 0 ≡ refused 1 detail → ⊥
    refused_apart e = omega (arith, ap number e)

-- of the traces 0 and 0 0 at most eight constraints are replayed, and each reads three events at most
abbrev both : Question
both = question (record { activities = 1; traces = (0 ∷ []) ∷ (0 ∷ 0 ∷ []) ∷ [] }) by_all

right_is_bounded :
    {slice : List ℕ} {found : Shown} → (r : RightFind both slice found) →
    (length r.replayed ≤ 8) × (events_read both r.replayed ≤ length r.replayed * 3)
right_is_bounded r = (omega (arith, r.at_most), r.read_at_most)

-- the last end of what is kept is 3
last_is_bounded : ReadAtMost → events_read (asked last by_all) (replayed (asked last by_all)) ≤ length (replayed (asked last by_all)) * 3
unfolding sound word_of last_end kept
last_is_bounded most = most last by_all refl

-- a find at a place is what was shown there
shown_there : (a : FindAt Called start calls by_all list (shown ++ found ∷ [])) → a.found.shown ≡ found
shown_there a = ap or_found (sym a.shown_there)
  where
    or_found : Option Shown → Shown
    or_found none = found
    or_found (some s) = s

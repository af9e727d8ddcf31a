-- The summary of a trace: before the first event, after each event, and the verdict that is read off it. It stands between the templates'
-- meanings and their automata.
-- Assumes nothing.
use Prim.Native.Nat.{ℕ}
use mathlib.Core.Bool.{Bool, true, false, not, ◌&&◌, ◌||◌}
use mathlib.Core.List.{List, [], ◌∷◌}
use lib.Dec.{eqb}
use lib.ListN.{get_or}
use Rattle.declare.specs.declared.Verdict.{Verdict}
use Rattle.declare.specs.declared.Verdict.TheVariants.{Fulfilled, NotActivated, Violated}
use Rattle.std.specs.Prelude.{if◌then◌else◌}
use Rattle.declare.specs.Meaning.{activated_when}

-- What the events so far tell of the activities a and b.
pub record Summary : Type 0 where
  pub a : ℕ
  pub b : ℕ
  -- a has occurred: at least once, twice, three times
  pub one : Bool
  pub two : Bool
  pub three : Bool
  -- b has occurred
  pub seen : Bool
  -- there was an event; the first was a; the last was a
  pub started : Bool
  pub first : Bool
  pub last : Bool
  -- some a has no b after it
  pub owed : Bool
  -- an a came before the b that an earlier a was owed
  pub doubled : Bool
  -- right after an a came something else than b
  pub missed : Bool
  -- a b came with no a before it; with none owed it; with none just before it
  pub early : Bool
  pub bare : Bool
  pub loose : Bool
  -- a b came after an a; right after an a
  pub later : Bool
  pub next : Bool

-- the summary with these flags, in their order
abbrev pub summary : ℕ → ℕ → List Bool → Summary
summary a b flags =
    record {
      a = a;
      b = b;
      one = get_or flags 0 false;
      two = get_or flags 1 false;
      three = get_or flags 2 false;
      seen = get_or flags 3 false;
      started = get_or flags 4 false;
      first = get_or flags 5 false;
      last = get_or flags 6 false;
      owed = get_or flags 7 false;
      doubled = get_or flags 8 false;
      missed = get_or flags 9 false;
      early = get_or flags 10 false;
      bare = get_or flags 11 false;
      loose = get_or flags 12 false;
      later = get_or flags 13 false;
      next = get_or flags 14 false;
    }

-- the flags of a summary, in their order
abbrev pub flags_of : Summary → List Bool
flags_of s =
    s.one ∷ s.two ∷ s.three ∷ s.seen ∷ s.started ∷ s.first ∷ s.last ∷ s.owed ∷ s.doubled ∷ s.missed ∷ s.early ∷ s.bare ∷ s.loose ∷ s.later ∷ s.next ∷ []

-- before the first event
abbrev pub no_event_yet : ℕ → ℕ → Summary
no_event_yet a b =
    record {
      a = a;
      b = b;
      one = false;
      two = false;
      three = false;
      seen = false;
      started = false;
      first = false;
      last = false;
      owed = false;
      doubled = false;
      missed = false;
      early = false;
      bare = false;
      loose = false;
      later = false;
      next = false;
    }

-- after one more event, which is a or not, and b or not
abbrev pub with_event : Summary → Bool → Bool → Summary
with_event s is_a is_b =
    record {
      a = s.a;
      b = s.b;
      one = s.one || is_a;
      two = s.two || (is_a && s.one);
      three = s.three || (is_a && s.two);
      seen = s.seen || is_b;
      started = true;
      first = s.first || (is_a && not s.started);
      last = is_a;
      owed = is_a || (s.owed && not is_b);
      doubled = s.doubled || (is_a && (s.owed && not is_b));
      missed = s.missed || (s.last && not is_b);
      early = s.early || (is_b && not s.one);
      bare = s.bare || (is_b && not s.owed);
      loose = s.loose || (is_b && not s.last);
      later = s.later || (is_b && s.one);
      next = s.next || (is_b && s.last);
    }

abbrev pub stepped : Summary → ℕ → Summary
stepped s event = with_event s (eqb event s.a) (eqb event s.b)

-- after a trace
abbrev pub stepped_all : Summary → List ℕ → Summary
stepped_all s [] = s
stepped_all s (event ∷ trace) = stepped_all (stepped s event) trace

-- whether each template holds, by its number, from 0 on
abbrev pub answers : Summary → List Bool
answers s =
    false ∷
    s.one ∷
    s.two ∷
    s.three ∷
    not s.one ∷
    not s.two ∷
    not s.three ∷
    s.first ∷
    s.last ∷
    (s.one || s.seen) ∷
    ((s.one || s.seen) && not (s.one && s.seen)) ∷
    ((s.one && s.seen) || not (s.one || s.seen)) ∷
    not (s.one && s.seen) ∷
    (not s.one || s.seen) ∷
    not s.owed ∷
    (not s.owed && not s.doubled) ∷
    (not s.missed && not s.last) ∷
    not s.early ∷
    not s.bare ∷
    not s.loose ∷
    (not s.owed && not s.early) ∷
    ((not s.owed && not s.doubled) && not s.bare) ∷
    ((not s.missed && not s.last) && not s.loose) ∷
    not s.later ∷
    not s.next ∷
    []

unfoldable pub answer : Summary → ℕ → Bool
answer s template = get_or (answers s) template false

-- the verdict that a summary gives
unfoldable pub summed : Summary → ℕ → Verdict
unfolding answer
summed s template =
    if activated_when template s.one s.seen then (if answer s template then Fulfilled else Violated) else NotActivated

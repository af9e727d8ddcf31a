-- What the loops and tests of the code come to: steps along a list, and the tests of a search.
-- Assumes nothing.
use Prim.Native.Nat.{ℕ, ◌+◌, ◌-◌, ◌≤◌, ◌<◌}
use native.Mathlib.Numerals.{add-one, unary_clauses}
use mathlib.Core.Path.{◌≡◌, refl, sym, ◌∙◌}
use mathlib.Core.Bool.{Bool, true, false, cond, not, ◌&&◌, and-false}
use mathlib.Core.List.{List, [], ◌∷◌}
use borrow.Author.Tests.{le-leb, lt-leb, le-ltb, ltb-false, not-true}
use lib.Dec.{leb, ltb}
use lib.ListN.{length, get_or, drop}
use lib.Seq.{drop-cons}
use Rattle.declare.specs.Traces.{longest_trace, all_below}
use Rattle.eventlog.specs.Store.{last_from, rising}
use Rattle.eventlog.specs.Calls.{declared_front}
use Rattle.base.proofs.Lists.{find_index_first, position_by_index}
use Rattle.std.specs.List.{position}
use Rattle.std.specs.Prelude.{Some, None}

last_behind : (last : ℕ) (ends : List ℕ) → last_from last ends ≡ get_or (last ∷ ends) (length ends) 0
last_behind last [] = refl
last_behind last (end ∷ ends) = last_behind end ends

pub last_read : (ends : List ℕ) → get_or ends (length ends - 1) 0 ≡ last_from 0 ends
last_read [] = refl
last_read (end ∷ ends) = simp unary_clauses (sym (last_behind end ends))

-- the end at i, met after `last`
module _ (last : ℕ) (ends : List ℕ) (i : ℕ) (within : i < length ends) where
  rising_step :
      rising last (drop i ends) ≡
      leb last (get_or ends i 0) && (leb (get_or ends i 0) (last + longest_trace) && rising (get_or ends i 0) (drop (i + 1) ends))
  rising_step = rw (add-one, drop-cons ends i 0)

  pub rising_stops_low : get_or ends i 0 < last → rising last (drop i ends) ≡ false
  rising_stops_low low = rw (rising_step, lt-leb last (get_or ends i 0) low)

  pub rising_stops_high : last + longest_trace < get_or ends i 0 → rising last (drop i ends) ≡ false
  rising_stops_high high =
      rw (rising_step, lt-leb (get_or ends i 0) (last + longest_trace) high) (and-false (leb last (get_or ends i 0)))

  pub rising_goes_on :
      last ≤ get_or ends i 0 → get_or ends i 0 ≤ last + longest_trace →
      rising last (drop i ends) ≡ rising (get_or ends i 0) (drop (i + 1) ends)
  rising_goes_on low high = rw (rising_step, le-leb last (get_or ends i 0) low, le-leb (get_or ends i 0) (last + longest_trace) high)

-- what a search for the first undeclared event tells
module _ (n : ℕ) (events : List ℕ) where
  found_by : position (λ event. not (ltb event n)) events ≡ cond (all_below n events) None (Some (declared_front n events))
  unfolding declared_front
  found_by = position_by_index (λ event. ltb event n) events

  pub none_undeclared : position (λ event. not (ltb event n)) events ≡ None → all_below n events ≡ true
  none_undeclared h = go (all_below n events) (sym found_by ∙ h)
    where
      go : (t : Bool) → cond t None (Some (declared_front n events)) ≡ None → t ≡ true
      go true e = refl
      go false e = cc

  pub some_undeclared :
      (place : ℕ) → position (λ event. not (ltb event n)) events ≡ Some place →
      (all_below n events ≡ false) × (place ≡ declared_front n events)
  some_undeclared place h = go (all_below n events) (sym found_by ∙ h)
    where
      go : (t : Bool) → cond t None (Some (declared_front n events)) ≡ Some place → (t ≡ false) × (place ≡ declared_front n events)
      go true e = cc
      go false e = (refl, cc)

-- Wherever an undeclared event stands, one stands at the end of the declared front, and that is not behind it: so the place that
-- refusal 6 of add carries is the lowest.
pub lowest_undeclared :
    (n : ℕ) (events : List ℕ) (k : ℕ) → k < length events → n ≤ get_or events k 0 →
    (declared_front n events ≤ k) × (n ≤ get_or events (declared_front n events) 0)
unfolding declared_front
lowest_undeclared n events k within above =
    let first = find_index_first (λ x. not (ltb x n)) 0 events k within (rw (le-ltb (get_or events k 0) n above)) in
    (first.0, ltb-false _ _ (not-true _ first.1))

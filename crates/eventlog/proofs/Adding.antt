-- The checks of add: what a room says that is not full, and that an accepted trace can be appended.
-- Assumes nothing.
use Prim.Native.Nat.{ℕ, ◌+◌, ◌^◌, ◌≤◌, ◌<◌}
use native.Mathlib.Omega.{arith}
use mathlib.Core.Path.{◌≡◌, sym}
use mathlib.Core.Bool.{true, false, ◌||◌}
use mathlib.Core.List.{List, []}
use borrow.Author.Tests.{ltb-false, eqb-false, ne_eqb, not-false}
use lib.Dec.{eqb}
use lib.ListN.{length}
use Rattle.base.proofs.Bools.{neither}
use Rattle.base.specs.Checks.{gives, reply}
use Rattle.base.proofs.Checks.{NoneFail, none_fail}
use Rattle.declare.specs.Traces.{all_below}
use Rattle.eventlog.specs.declared.Room.{Room}
use Rattle.eventlog.specs.Store.{most_traces, Memory, sound, last_end, room, full}
use Rattle.eventlog.specs.Calls.{checks_of_add}
use Rattle.eventlog.proofs.Laws.{Addable, sound_facts, last_end_bound}

-- one trace more can be kept where this room is left
pub record NotFull (r : Room) : Type 0 where
  pub below_most : r.traces < most_traces
  pub has_end : r.traces < r.space.ends
  pub has_word : r.traces < r.space.words

module _ (r : Room) where
  pub not_full : full r ≡ false → r.traces ≤ most_traces → r.traces ≤ r.space.ends → r.traces ≤ r.space.words → NotFull r
  not_full room_left few has_ends has_words =
      let words = neither (eqb r.traces most_traces || eqb r.traces r.space.ends) (eqb r.traces r.space.words) room_left in
      let others = neither (eqb r.traces most_traces) (eqb r.traces r.space.ends) words.0 in
      record {
        below_most = omega (arith, few, eqb-false r.traces most_traces others.0);
        has_end = omega (arith, has_ends, eqb-false r.traces r.space.ends others.1);
        has_word = omega (arith, has_words, eqb-false r.traces r.space.words words.1);
      }

  pub is_not_full : NotFull r → full r ≡ false
  is_not_full h =
      rw (
        ne_eqb r.traces most_traces (λ e. omega (arith, h.below_most)),
        ne_eqb r.traces r.space.ends (λ e. omega (arith, h.has_end)),
        ne_eqb r.traces r.space.words (λ e. omega (arith, h.has_word)),
      )

-- what is known where every check of add passes
pub record AddPassed (m : Memory) (trace : List ℕ) : Type 0 where
  pub is_sound : sound m ≡ true
  pub addable : Addable m trace

pub add_passed : (m : Memory) (trace : List ℕ) → NoneFail (checks_of_add m trace) → AddPassed m trace
add_passed m trace (sound-too, (declared, (short, (no_place, (fits, _))))) =
    let is_sound = not-false (sound m) sound-too in
    let s = sound_facts m is_sound in
    let place = not_full (room m) no_place s.few_traces s.has_ends s.has_words in
    record {
      is_sound = is_sound;
      addable =
          record {
            declared = not-false (all_below m.store.activities trace) declared;
            short = ltb-false _ _ short;
            below_most = place.below_most;
            has_end = place.has_end;
            has_word = place.has_word;
            fits = ltb-false _ _ fits;
          };
    }

-- The bounds of a trace that is accepted, from the last kept end on.
pub record Bounds (m : Memory) (trace : List ℕ) (from : ℕ) : Type 0 where
  pub fits : from + length trace ≤ length m.events
  pub small : from + length trace < 2 ^ 32
  pub few : m.store.traces < most_traces
  pub has_end : m.store.traces < length m.ends
  pub has_word : m.store.traces < length m.words

pub bounds :
    (m : Memory) (trace : List ℕ) {from : ℕ} →
    gives [] ≡ reply (checks_of_add m trace) [] → from ≡ last_end m → Bounds m trace from
bounds m trace h e =
    let passed = add_passed m trace (none_fail (checks_of_add m trace) [] [] (sym h)) in
    let a = passed.addable in
    record {
      fits = omega (arith, e, a.fits);
      small = omega (arith, e, last_end_bound m passed.is_sound, a.short, a.below_most);
      few = a.below_most;
      has_end = a.has_end;
      has_word = a.has_word;
    }

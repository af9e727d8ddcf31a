-- Several traces added one after the other.
-- Assumes nothing.
use Prim.Native.Nat.{ℕ, suc, ◌+◌, ◌≤◌}
use mathlib.Core.Path.{◌≡◌, refl, sym, ap, ◌∙◌}
use mathlib.Core.Bool.{true}
use mathlib.Core.List.{List, [], ◌∷◌, ◌++◌, append_assoc, append-nil}
use native.Mathlib.Omega.{arith}
use native.Mathlib.Nat.{add-zero}
use lib.ListN.{length}
use Rattle.declare.specs.Traces.{longest_trace, all_below}
use Rattle.eventlog.specs.declared.Room.{Room}
use Rattle.eventlog.specs.Store.{Memory, most_traces, total, last_end, sound, kept, room, after_traces}
use Rattle.eventlog.specs.Calls.{with_trace, with_traces}
use Rattle.eventlog.proofs.Laws.{total_append, Addable, sound_added, kept_added, room_added}

-- each trace is declared and not too long
abbrev pub Acceptable : ℕ → List (List ℕ) → Type 0
Acceptable n [] = Unit
Acceptable n (trace ∷ traces) = (all_below n trace ≡ true) × (length trace ≤ longest_trace) × Acceptable n traces

-- Traces that can be added one after the other where this room is left.
pub record Fitting (r : Room) (traces : List (List ℕ)) : Type 0 where
  pub each : Acceptable r.activities traces
  pub few : r.traces + length traces ≤ most_traces
  pub has_ends : r.traces + length traces ≤ r.space.ends
  pub has_words : r.traces + length traces ≤ r.space.words
  pub fits : r.last + total traces ≤ r.space.events

-- sound, with the room that is left after these traces, keeping the old traces and then these
pub record Grown (m : Memory) (traces : List (List ℕ)) (after : Memory) : Type 0 where
  pub still_sound : sound after ≡ true
  pub room_left : room after ≡ after_traces (room m) traces
  pub keeps : kept after ≡ kept m ++ traces

pub grown_one : (m : Memory) (trace : List ℕ) → sound m ≡ true → Addable m trace → Grown m (trace ∷ []) (with_trace m trace)
grown_one m trace h a =
    record { still_sound = sound_added m trace h a; room_left = room_added m trace h a; keeps = kept_added m trace h a }

module _ (m : Memory) (trace : List ℕ) (traces : List (List ℕ)) (f : Fitting (room m) (trace ∷ traces)) where
  first_fits : Addable m trace
  first_fits =
      record {
        declared = f.each.0;
        short = f.each.1;
        below_most = omega (arith, f.few);
        has_end = omega (arith, f.has_ends);
        has_word = omega (arith, f.has_words);
        fits = omega (arith, f.fits);
      }

  rest_fits : Fitting (after_traces (room m) (trace ∷ [])) traces
  rest_fits =
      record {
        each = f.each.2;
        few = omega (arith, f.few);
        has_ends = omega (arith, f.has_ends);
        has_words = omega (arith, f.has_words);
        fits = omega (arith, f.fits);
      }

-- the traces that one room is left after, and those after them
after_both : (r : Room) (trace : List ℕ) (traces : List (List ℕ)) → after_traces (after_traces r (trace ∷ [])) traces ≡ after_traces r (trace ∷ traces)
after_both r trace traces =
    let count : r.traces + 1 + length traces ≡ r.traces + suc (length traces) = omega arith in
    let last : r.last + (length trace + 0) + total traces ≡ r.last + (length trace + total traces) = omega arith in
    rw (count, last)

pub grown : (traces : List (List ℕ)) (m : Memory) → sound m ≡ true → Fitting (room m) traces → Grown m traces (with_traces m traces)
grown [] m h f =
    record {
      still_sound = h;
      room_left = rw (add-zero m.store.traces, add-zero (last_end m));
      keeps = sym (append-nil (kept m));
    }
grown (trace ∷ traces) m h f =
    let one = grown_one m trace h (first_fits m trace traces f) in
    let rest = grown traces (with_trace m trace) one.still_sound (rw one.room_left (rest_fits m trace traces f)) in
    record {
      still_sound = rest.still_sound;
      room_left = rest.room_left ∙ ap (λ (r : Room). after_traces r traces) one.room_left ∙ after_both (room m) trace traces;
      keeps = rest.keeps ∙ ap (λ (l : List (List ℕ)). l ++ traces) one.keeps ∙ append_assoc (kept m) (trace ∷ []) traces;
    }

-- ## The last trace

pub with_last : (traces : List (List ℕ)) (trace : List ℕ) (m : Memory) → with_traces m (traces ++ (trace ∷ [])) ≡ with_trace (with_traces m traces) trace
with_last [] trace m = refl
with_last (t ∷ traces) trace m = with_last traces trace (with_trace m t)

pub total_last : (traces : List (List ℕ)) (trace : List ℕ) → total (traces ++ (trace ∷ [])) ≡ total traces + length trace
total_last traces trace = omega (arith, total_append traces (trace ∷ []))

pub acceptable_last :
    (n : ℕ) (traces : List (List ℕ)) (trace : List ℕ) → Acceptable n traces → all_below n trace ≡ true → length trace ≤ longest_trace →
    Acceptable n (traces ++ (trace ∷ []))
acceptable_last n [] trace e p h = (p, h, tt)
acceptable_last n (t ∷ traces) trace e p h = (e.0, e.1, acceptable_last n traces trace e.2 p h)

pub acceptable_front : (n : ℕ) (traces : List (List ℕ)) (trace : List ℕ) → Acceptable n (traces ++ (trace ∷ [])) → Acceptable n traces × (all_below n trace ≡ true) × (length trace ≤ longest_trace)
acceptable_front n [] trace e = (tt, e.0, e.1)
acceptable_front n (t ∷ traces) trace e = let r = acceptable_front n traces trace e.2 in ((e.0, e.1, r.0), r.1, r.2)

-- Laws of the way over a log's lines: what a line without a fault says of the numbers, and the way one line on.
-- Assumes nothing.
use Prim.Native.Nat.{ℕ, ◌+◌, ◌≤◌, ◌<◌}
use mathlib.Core.Path.{◌≡◌, ap, ◌∙◌}
use mathlib.Core.Bool.{false}
use mathlib.Core.List.{List, ◌∷◌}
use native.Mathlib.Omega.{arith}
use lib.Dec.{eqb, leb, ltb}
use borrow.Author.Tests.{leb-false, ltb-false, eqb-true, eqb-false}
use Rattle.std.specs.Prelude.{Ok, Err, if◌then◌else◌}
use Rattle.answers.specs.declared.Reason.{Reason}
use Rattle.eventlog.specs.declared.Room.{Room}
use Rattle.eventlog.specs.Store.{full}
use Rattle.columns.specs.declared.Entry.{Entry}
use Rattle.columns.specs.declared.Progress.{Progress}
use Rattle.columns.specs.Log.{Line}
use Rattle.columns.specs.Survey.{entry_of, Bounded, room_at, placed_of, fault_of, next_progress, step_of, survey_of}
use Rattle.base.proofs.Bools.{either}
use Rattle.eventlog.proofs.Adding.{NotFull, not_full}

-- What is known of a line that has no fault.
pub record Faultless (o : Room) (p : Progress) (entry : Entry) : Type 0 where
  pub declared : entry.activity < o.activities
  pub goes_on : entry.number ≡ p.number → 1 ≤ p.left
  pub starts : (entry.number ≡ p.number → ⊥) → NotFull (room_at o p)
  pub placed : p.last < o.space.events

module _ (o : Room) (p : Progress) (w : Bounded o p) where
  is_placed : placed_of o p ≡ Ok tt → p.last < o.space.events
  is_placed e =
      either (leb o.space.events p.last)
      (λ q. let z : Err Reason.NoSpace ≡ Ok tt = rw q at e in absurd cc)
      (λ q. leb-false o.space.events p.last q)

  pub rises : (entry : Entry) → fault_of o p entry ≡ Ok tt → p.number ≤ entry.number
  rises entry e =
      either (ltb entry.number p.number)
      (λ q. let z : Err Reason.NumberFalls ≡ Ok tt = rw q at e in absurd cc)
      (λ q. ltb-false entry.number p.number q)

  pub faultless : (entry : Entry) → fault_of o p entry ≡ Ok tt → Faultless o p entry
  faultless entry e =
      either (ltb entry.number p.number)
      (λ q. let z : Err Reason.NumberFalls ≡ Ok tt = rw q at e in absurd cc)
      (λ q.
      either (leb o.activities entry.activity)
      (λ r. let z : Err Reason.Undeclared ≡ Ok tt = rw (q, r) at e in absurd cc)
      (λ r. by r (rw (q, r) at e)))
    where
      by :
          leb o.activities entry.activity ≡ false →
          (if eqb entry.number p.number then if eqb p.left 0 then Err Reason.TooLong else placed_of o p
          else if full (room_at o p) then Err Reason.Full
          else placed_of o p) ≡ Ok tt → Faultless o p entry
      by r e =
          either (eqb entry.number p.number)
          (λ s.
          either (eqb p.left 0)
          (λ t. let z : Err Reason.TooLong ≡ Ok tt = rw (s, t) at e in absurd cc)
          (λ t.
          let some = eqb-false p.left 0 t in
          record {
            declared = leb-false o.activities entry.activity r;
            goes_on = λ u. omega arith;
            starts = λ u. absurd (u (eqb-true entry.number p.number s));
            placed = is_placed (rw (s, t) at e);
          }))
          (λ s.
          either (full (room_at o p))
          (λ t. let z : Err Reason.Full ≡ Ok tt = rw (s, t) at e in absurd cc)
          (λ t.
          record {
            declared = leb-false o.activities entry.activity r;
            goes_on = λ u. absurd (eqb-false entry.number p.number s u);
            starts = λ u. not_full (room_at o p) t w.few w.has_ends w.has_words;
            placed = is_placed (rw (s, t) at e);
          }))

  pub bounded_next : (entry : Entry) → Faultless o p entry → Bounded o (next_progress p entry.number)
  bounded_next entry h =
      either (eqb entry.number p.number)
      (λ q.
      let some = h.goes_on (eqb-true entry.number p.number q) in
      rw q
      (record {
        few = w.few;
        has_ends = w.has_ends;
        has_words = w.has_words;
        has_events = omega (arith, h.placed);
        in_reach = omega (arith, w.in_reach);
      }))
      (λ q.
      let more = h.starts (eqb-false entry.number p.number q) in
      rw q
      (record {
        few = omega (arith, more.below_most);
        has_ends = omega (arith, more.has_end);
        has_words = omega (arith, more.has_word);
        has_events = omega (arith, h.placed);
        in_reach = omega (arith, w.in_reach);
      }))

-- ## One line on

module _ (o : Room) (p : Progress) (place : ℕ) {all : List Line} {line : Line} {rest : List Line} (e : all ≡ line ∷ rest) where
  pub survey_on :
      {q : Progress} → step_of o p (entry_of line) ≡ Ok q → survey_of o p place all ≡ survey_of o q (place + 1) rest
  survey_on step = ap (survey_of o p place) e ∙ rw (step, survey_of)

  pub survey_stops :
      {reason : Reason} → step_of o p (entry_of line) ≡ Err reason →
      survey_of o p place all ≡ Err (record { reason = reason; detail = place })
  survey_stops step = ap (survey_of o p place) e ∙ rw (step, survey_of)

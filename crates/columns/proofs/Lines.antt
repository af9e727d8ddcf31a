-- Laws of lines: what the code makes of a line's bytes is what `line_of` says, and the log is its first line and the rest.
-- Assumes nothing.
use Prim.Native.Nat.{ℕ, zero, suc, min, ◌≤◌, ◌<◌}
use mathlib.Core.Path.{◌≡◌, refl, sym, ap, ◌∙◌}
use mathlib.Core.Bool.{true, false, ◌&&◌, and-false}
use mathlib.Core.List.{List, [], ◌∷◌, ◌++◌}
use native.Mathlib.Omega.{arith}
use lib.Dec.{leb}
use lib.ListN.{length, get_or, take, drop, length-take, length-drop, take-append-drop}
use lib.Seq.{take-append_seam}
use Rattle.std.proofs.lemmas.List.{take_min, append_cancel_left, nil_from_length}
use Rattle.std.specs.Borrow.{Bor}
use Rattle.std.specs.declared.slice.Chunks.{Chunks}
use Rattle.std.specs.Slice.Iter.{chunks_rest, chunks_size, chunks_steps}
use Rattle.base.proofs.Lists.{take_drop}
use borrow.Author.Tests.{le-leb, lt-leb, eq-eqb, ne_eqb}
use Rattle.std.specs.Prelude.{Some, None}
use Rattle.fields.specs.Field.{well_formed, value, field_of}
use Rattle.columns.specs.Log.{Line, line_of, lines_within, lines}
use Rattle.columns.specs.Survey.{entry_of}
use Rattle.base.proofs.Bools.{and_right, either}

-- ## Fields that were read

holds_number : (bytes : List ℕ) (n : ℕ) → field_of bytes ≡ Some n → (well_formed bytes ≡ true) × (value bytes ≡ n)
holds_number bytes n e =
    either (leb (length bytes) 9 && well_formed bytes)
    (λ q. (and_right (leb (length bytes) 9) (well_formed bytes) q, cc (rw q at e)))
    (λ q. absurd (cc (rw q at e)))

holds_none : (bytes : List ℕ) → length bytes ≤ 9 → field_of bytes ≡ None → well_formed bytes ≡ false
holds_none bytes h e =
    either (well_formed bytes)
    (λ q. absurd (cc (rw (le-leb (length bytes) 9 h, q) at e)))
    (λ q. q)

-- ## A line that was read

malformed : (line : Line) → line.laid_out ≡ false → entry_of line ≡ None
malformed line e = rw e

pub not_ten : (bytes : List ℕ) → (length bytes ≡ 10 → ⊥) → entry_of (line_of bytes) ≡ None
not_ten bytes h = malformed (line_of bytes) (rw (ne_eqb (length bytes) 10 h))

module _ (bytes : List ℕ) (ten : length bytes ≡ 10) where
  pub no_line_feed : (get_or bytes 9 0 ≡ 10 → ⊥) → entry_of (line_of bytes) ≡ None
  no_line_feed h =
      malformed (line_of bytes)
      (rw (ne_eqb (get_or bytes 9 0) 10 h, and-false))

  pub zero_number : (n : ℕ) → field_of (take 6 bytes) ≡ Some n → n < 1 → entry_of (line_of bytes) ≡ None
  zero_number n e h =
      let number = holds_number (take 6 bytes) n e in
      malformed (line_of bytes)
      (rw (lt-leb 1 (value (take 6 bytes)) (omega (arith, number.1)), and-false))

  middle : drop 6 (take 9 bytes) ≡ take 3 (drop 6 bytes)
  middle = sym (take_drop 6 3 bytes)

  pub no_activity : field_of (take 3 (drop 6 bytes)) ≡ None → entry_of (line_of bytes) ≡ None
  no_activity e =
      malformed (line_of bytes)
      (rw (middle, holds_none (take 3 (drop 6 bytes)) (omega (arith, length-take 3 (drop 6 bytes))) e, and-false))

  pub an_event :
      (n a : ℕ) → get_or bytes 9 0 ≡ 10 → field_of (take 6 bytes) ≡ Some n → 1 ≤ n →
      field_of (take 3 (drop 6 bytes)) ≡ Some a → entry_of (line_of bytes) ≡ Some (record { number = n; activity = a })
  an_event n a feed e h f =
      let number = holds_number (take 6 bytes) n e in
      let activity = holds_number (take 3 (drop 6 bytes)) a f in
      rw (middle, eq-eqb (length bytes) 10 ten, number.0, number.1, le-leb 1 n h, activity.0, activity.1, eq-eqb (get_or bytes 9 0) 10 feed)

-- what `read_line` goes by where it reads none
pub ruleset malformed_lines = (not_ten, no_line_feed, zero_number, no_activity)

-- ## The log in lines

lines_enough :
    (most more : ℕ) (log : List ℕ) → length log ≤ most → length log ≤ more → lines_within most log ≡ lines_within more log
lines_enough zero zero log h k = refl
lines_enough zero (suc more) [] h k = refl
lines_enough zero (suc more) (b ∷ bs) h k = absurd (omega arith)
lines_enough (suc most) zero [] h k = refl
lines_enough (suc most) zero (b ∷ bs) h k = absurd (omega arith)
lines_enough (suc most) (suc more) [] h k = refl
lines_enough (suc most) (suc more) (b ∷ bs) h k =
    ap (λ (rest : List Line). line_of (take 10 (b ∷ bs)) ∷ rest)
    (lines_enough most more (drop 10 (b ∷ bs)) (omega (arith, length-drop 10 (b ∷ bs))) (omega (arith, length-drop 10 (b ∷ bs))))

pub lines_none : lines [] ≡ []
unfolding lines
lines_none = refl

pub lines_first : (log : List ℕ) → 0 < length log → lines log ≡ line_of (take 10 log) ∷ lines (drop 10 log)
unfolding lines
lines_first [] h = absurd (omega arith)
lines_first (b ∷ bs) h =
    ap (λ (rest : List Line). line_of (take 10 (b ∷ bs)) ∷ rest)
    (lines_enough (length bs) (length (drop 10 (b ∷ bs))) (drop 10 (b ∷ bs)) (omega (arith, length-drop 10 (b ∷ bs))) (omega arith))

-- The chunks of ten bytes that are left of a log are the lines that are left: the next of them, and those behind it.
module _ (s t : Chunks ℕ) where
  pub chunk_line :
      (chunk : Bor (List ℕ)) → chunks_size s ≡ 10 → chunks_steps s (Some chunk) t →
      lines (chunks_rest s) ≡ line_of chunk.now ∷ lines (chunks_rest t)
  chunk_line chunk ten step =
      let log = chunks_rest s in
      let first : chunk.now ≡ take 10 log =
      sym (take-append_seam chunk.now (chunks_rest t)) ∙ ap (take (length chunk.now)) (sym step.1.0)
      ∙ ap (λ (n : ℕ). take n log) (step.1.1 ∙ ap (λ (n : ℕ). min n (length log)) ten) ∙ take_min 10 log in
      let after : chunks_rest t ≡ drop 10 log =
      append_cancel_left chunk.now (chunks_rest t) (drop 10 log)
      (sym step.1.0 ∙ sym (take-append-drop 10 log) ∙ ap (λ (l : List ℕ). l ++ drop 10 log) (sym first)) in
      rw (first, after) (lines_first log step.1.2)

  pub no_chunk : chunks_steps s None t → lines (chunks_rest s) ≡ []
  no_chunk step = ap lines (nil_from_length (chunks_rest s) step.1.0) ∙ lines_none

-- A field from its last column to its first is what `spell` says, or blanks; and a field in a part of a slice.
-- Assumes nothing.
use Prim.Native.Nat.{ℕ, zero, suc, ◌+◌, ◌-◌, ◌/◌, ◌%◌, ◌≤◌, ◌<◌}
use native.Mathlib.Omega.{arith}
use mathlib.Core.Path.{◌≡◌, refl, sym, ap, ◌∙◌}
use mathlib.Core.List.{List, ◌++◌, append_assoc}
use borrow.Author.Tests.{leb-true, leb-false, ne_eqb}
use lib.Dec.{leb}
use lib.ListN.{length, take, drop, replicate, length-drop, replicate-append-replicate}
use lib.Seq.{length-take-le, drop-drop, sets, sets-eq}
use Rattle.base.proofs.Bools.{either}
use Rattle.fields.specs.Field.{blank, spell}
use Rattle.fields.specs.Columns.{columns}
use Rattle.fields.proofs.Fields.{spell_step}

-- nothing left: blanks
pub columns_blank : (width : ℕ) → columns width blank 0 ≡ replicate width blank
columns_blank zero = refl
columns_blank (suc width) =
    let one_more : width + 1 ≡ suc width = omega arith in
    rw (columns_blank width) (replicate-append-replicate width 1 blank ∙ ap (λ (k : ℕ). replicate k blank) one_more)

-- the last column is always a digit
pub columns_spell : (width n : ℕ) → columns width (48 + n % 10) (n / 10) ≡ spell width n
unfolding spell
columns_spell zero n = refl
columns_spell (suc width) n =
    rw (spell_step width n)
    (either (leb 10 n)
    (λ q.
    let long : 10 ≤ n = leb-true 10 n q in
    rw (q, ne_eqb (n / 10) 0 (omega arith), columns_spell width (n / 10)))
    (λ q.
    let short : n < 10 = leb-false 10 n q in
    let none : n / 10 ≡ 0 = omega arith in
    rw (q, none, columns_blank width)))

-- a part of a slice that is filled with the text of its width: that text is stored there
pub part_filled :
    (text : ℕ → List ℕ) → ((width : ℕ) → length (text width) ≡ width) → (out : List ℕ) (at width : ℕ) {field : List ℕ} →
    at + width ≤ length out → field ≡ text (length (take (at + width - at) (drop at out))) →
    take at out ++ (field ++ drop (at + width - at) (drop at out)) ≡ sets out at (text width)
part_filled text long out at width fits filled =
    let wide : at + width - at ≡ width = omega arith in
    let fills : length (take width (drop at out)) ≡ width = length-take-le width (drop at out) (omega (arith, length-drop at out)) in
    rw (filled, wide, fills, drop-drop width at out, sets-eq (text width) out at (omega (arith, long width)), long width)
    (sym (append_assoc (take at out) (text width) (drop (at + width) out)))

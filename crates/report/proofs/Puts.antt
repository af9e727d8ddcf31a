-- Texts put one after the other.
-- Assumes nothing.
use Prim.Native.Nat.{ℕ, zero, suc, ◌+◌, ◌-◌, ◌≤◌, ◌<◌}
use native.Mathlib.Omega.{arith}
use mathlib.Core.Path.{◌≡◌, refl, sym, ap, ◌∙◌}
use mathlib.Core.List.{List, [], ◌∷◌, ◌++◌, append-nil}
use lib.ListN.{length, get_or, take, drop, length-append}
use lib.Seq.{length-sets}
use Rattle.std.proofs.lemmas.List.{take_more}
use Rattle.std.specs.Simd.{first_chunks}
use Rattle.std.specs.Borrow.{MutBor}
use Rattle.base.proofs.Lists.{flat_map_append}
use Rattle.base.proofs.Stores.{sets_append}
use Rattle.fields.proofs.Columns.{part_filled}
use Rattle.report.specs.declared.text.Text.{Text}
use Rattle.discovery.specs.Listing.{from_row}
use Rattle.report.specs.Puts.{Puts, Adds, printed_line, lines_of}

put_then :
    {out out' out'' xs ys : List ℕ} {at m n next next' : ℕ} →
    Puts out at m xs next out' → Puts out' next n ys next' out'' → Puts out at (m + n) (xs ++ ys) next' out''
put_then {out = out} {xs = xs} {ys = ys} {at = at} p q =
    record {
      sized = length-append xs ys ∙ (cc (p.sized, q.sized));
      within = omega (arith, p.within, q.within, p.follows, ap length p.stores, length-sets out at xs);
      follows = omega (arith, p.follows, q.follows);
      stores = q.stores ∙ rw (p.stores, p.follows, ← p.sized) (sym (sets_append xs ys out at));
    }

pub add_then :
    {t t' t'' : Text} {xs ys : List ℕ} {m n : ℕ} → Adds t m xs t' → Adds t' n ys t'' → Adds t (m + n) (xs ++ ys) t''
add_then a b =
    record {
      puts = put_then a.puts b.puts;
      same_length = b.same_length ∙ a.same_length;
      same_out = b.same_out ∙ a.same_out;
    }

-- a part of the slice, filled with the text of its width
pub part_added :
    (t : Text) (text : ℕ → List ℕ) → ((width : ℕ) → length (text width) ≡ width) → (width : ℕ) {field : List ℕ} {t' : Text} →
    t.at + width ≤ length t.out.now → field ≡ text (length (take (t.at + width - t.at) (drop t.at t.out.now))) →
    t'.out ≡ record t.out { now = take t.at t.out.now ++ (field ++ drop (t.at + width - t.at) (drop t.at t.out.now)) } →
    t'.at ≡ t.at + width → Adds t width (text width) t'
part_added t text long width fits filled out at =
    let stored = ap (λ (r : MutBor (List ℕ)). r.now) out ∙ part_filled text long t.out.now t.at width fits filled in
    record {
      puts = record { sized = long width; within = fits; follows = at; stores = stored };
      same_length = ap length stored ∙ length-sets t.out.now t.at (text width);
      same_out = ap (λ (r : MutBor (List ℕ)). r.ghost_name) out;
    }

-- the same text, its size said by its length
pub put_same :
    {out out' text text' : List ℕ} {at size next : ℕ} → text ≡ text' → Puts out at size text next out' →
    Puts out at (length text') text' next out'
put_same {at = at} e p =
    record {
      sized = refl;
      within = omega (arith, p.within, p.sized, ap length e);
      follows = omega (arith, p.follows, p.sized, ap length e);
      stores = rw e at p.stores;
    }

-- ## Rows of a list

-- the first of the first rows
pub first_rows : (n k m : ℕ) (list : List ℕ) → k ≤ m → take k (first_chunks n m list) ≡ first_chunks n k list
first_rows n zero m list h = refl
first_rows n (suc k) zero list h = absurd (omega (arith, h))
first_rows n (suc k) (suc m) list h = ap (λ (rows : List (List ℕ)). take n list ∷ rows) (first_rows n k m (drop n list) (omega (arith, h)))

-- the lines of one row more
pub lines_more :
    (rows : List (List ℕ)) (k : ℕ) → k < length rows →
    lines_of (take (k + 1) rows) ≡ lines_of (take k rows) ++ printed_line (from_row (get_or rows k []))
lines_more rows k h =
    ap lines_of (take_more rows k [] h)
    ∙ flat_map_append (λ row. printed_line (from_row row)) (take k rows) (get_or rows k [] ∷ [])
    ∙ ap (λ (l : List ℕ). lines_of (take k rows) ++ l) (append-nil (printed_line (from_row (get_or rows k []))))

-- How the code reads a field, from the left with the value so far, and what is claimed of that value.
-- Assumes nothing.
use Rattle.std.specs.Prelude.{ℕ, ◌+◌, ◌-◌, ◌*◌, ◌≡◌, Bool, true, ◌&&◌, eqb, leb, take, Option, Some, None, if◌then◌else◌}
use mathlib.Core.List.{List, foldl}
use Rattle.std.specs.List.{list_all}
use Rattle.fields.specs.declared.Scan.{Scan}
use Rattle.fields.specs.declared.Scan.TheVariants.{Blanks, Digits, Broken}
use Rattle.fields.specs.Field.{blank, is_digit, well_formed, value}

-- one column more: ten times the value so far, plus the digit; after a zero comes nothing
abbrev pub scan_byte : Scan → ℕ → Scan
scan_byte Blanks byte =
    if eqb byte blank then Blanks else if is_digit byte then Digits (byte - 48) else Broken
scan_byte (Digits n) byte =
    if leb 1 n && is_digit byte then Digits (n * 10 + (byte - 48)) else Broken
scan_byte Broken byte = Broken

-- columns read from the left, one after the other: what the code's loop, `scan_columns`, promises to hand back
abbrev pub scanned : List ℕ → Scan
scanned columns = foldl scan_byte Blanks columns

-- the value so far; columns that begin no field have none, and 0 stands for it
abbrev pub so_far : Scan → ℕ
so_far Blanks = 0
so_far (Digits n) = n
so_far Broken = 0

abbrev pub finish : Scan → Option ℕ
finish Blanks = None
finish (Digits n) = Some n
finish Broken = None

abbrev pub are_blanks : List ℕ → Bool
are_blanks columns = list_all (λ byte. eqb byte blank) columns

-- how far a field is read after some columns, by the digits among them and their places
abbrev pub reached : List ℕ → Scan
reached columns =
    if are_blanks columns then Blanks else if well_formed columns then Digits (value columns) else Broken

-- Read with a running value (document 02, request 4), a field of any width comes to its digits and places.
pub record RunningValue : Type 0 where
  -- "a field is to be read from the left with the value so far, ten times it plus the digit": so read, any columns lead where their
  -- digits and places say
  pub by_places : (columns : List ℕ) → scanned columns ≡ reached columns
  -- "After each column of an accepted field the value so far is that of the digits read"
  pub digits_read : (field : List ℕ) (k : ℕ) → well_formed field ≡ true → so_far (scanned (take k field)) ≡ value (take k field)
  -- "0 over blanks"
  pub over_blanks :
      (field : List ℕ) (k : ℕ) → well_formed field ≡ true → are_blanks (take k field) ≡ true → so_far (scanned (take k field)) ≡ 0
  -- "Accepted fields, values and refusals are those of before": accepted are the well_formed ones, each with its value
  pub as_before :
      (field : List ℕ) → finish (scanned field) ≡ (if well_formed field then Some (value field) else None)

-- Fields of columns: decimal, right-justified, filled with blanks, without leading zeros.
-- Assumes nothing.
use Rattle.std.specs.Prelude.{ℕ, zero, suc, ◌+◌, ◌-◌, ◌*◌, ◌/◌, ◌%◌, ◌^◌, Bool, false, not, ◌&&◌, List, [], ◌∷◌, ◌++◌, reverse, eqb, leb, length, replicate, Option, Some, None, if◌then◌else◌}
use Rattle.base.specs.Logic.{in_range}
use Rattle.std.specs.List.{list_all}

abbrev pub blank : ℕ
blank = 32

abbrev pub line_feed : ℕ
line_feed = 10

abbrev pub is_digit : ℕ → Bool
is_digit byte = in_range 48 byte 57

abbrev pub all_digits : List ℕ → Bool
all_digits bytes = list_all is_digit bytes

-- a decimal number without leading zeros: zero is one digit
abbrev pub numeral : List ℕ → Bool
numeral [] = false
numeral (byte ∷ []) = is_digit byte
numeral (byte ∷ (next ∷ bytes)) = is_digit byte && (not (eqb byte 48) && all_digits (next ∷ bytes))

-- blanks, then a number that ends with the field
abbrev pub well_formed : List ℕ → Bool
well_formed [] = false
well_formed (byte ∷ bytes) = if eqb byte blank then well_formed bytes else numeral (byte ∷ bytes)

-- what a column counts: its digit, and a blank nothing
abbrev pub digit : ℕ → ℕ
digit byte = if is_digit byte then byte - 48 else 0

-- the value of the digits among some columns, by their places: a digit counts ten times as much for each column behind it
abbrev pub value : List ℕ → ℕ
value [] = 0
value (byte ∷ bytes) = digit byte * 10 ^ length bytes + value bytes

-- the widest field that the code reads, since nine digits fit 32 bits; no format has a wider one
abbrev pub widest : ℕ
widest = 9

-- what a field holds; one wider than that is malformed for the code's sake
abbrev pub field_of : List ℕ → Option ℕ
field_of bytes =
    if leb (length bytes) widest && well_formed bytes then Some (value bytes) else None

-- the digits of a number, the lowest first, at most `most` of them
abbrev pub digits_of : ℕ → ℕ → List ℕ
digits_of zero n = []
digits_of (suc most) n = (48 + n % 10) ∷ (if leb 10 n then digits_of most (n / 10) else [])

-- a number as a field of this width: blanks, then its digits, of one that does not fit the lowest
unfoldable pub spell : ℕ → ℕ → List ℕ
spell width n =
    let digits = reverse (digits_of width n) in
    replicate (width - length digits) blank ++ digits

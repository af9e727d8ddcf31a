-- How the code puts a field: from its last column to its first. Nothing here has to be believed: proofs/Columns.antt shows that it comes
-- to `spell`.
-- Assumes nothing.
use Rattle.std.specs.Prelude.{ℕ, zero, suc, ◌+◌, ◌/◌, ◌%◌, List, [], ◌∷◌, ◌++◌, eqb, if◌then◌else◌}
use Rattle.fields.specs.Field.{blank}

-- a column before a field's last: a digit, or blank where nothing is left of the number
abbrev pub column_of : ℕ → ℕ
column_of n = if eqb n 0 then blank else 48 + n % 10

-- the columns of a field: its last, and those before it, which take their digits from n
abbrev pub columns : ℕ → ℕ → ℕ → List ℕ
columns zero last n = []
columns (suc width) last n = columns width (column_of n) (n / 10) ++ last ∷ []

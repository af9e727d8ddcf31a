-- Tests: the words that definitions are written in, beside the library's `not`, `◌&&◌` and `◌||◌`.
-- Assumes nothing.
use Rattle.std.specs.Prelude.{ℕ, Bool, true, false, ◌&&◌, leb}

infixr 20 ◌implies◌
abbrev pub ◌implies◌ : Bool → Bool → Bool
true implies q = q
false implies q = true

abbrev pub in_range : ℕ → ℕ → ℕ → Bool
in_range low n high = leb low n && leb n high

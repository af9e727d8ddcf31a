-- A trace's word: which activities occur in it (document 02: a run's step word).
-- Assumes nothing.
use Rattle.std.specs.Prelude.{ℕ, ◌+◌, ◌*◌, ◌≡◌, ◌↔◌, Bool, ◌&&◌, List, [], ◌∷◌, eqb, ltb, map, bit_or, if◌then◌else◌}
use Rattle.std.specs.Int.{bit_at}
use Rattle.base.specs.Lists.{range}
use Rattle.declare.specs.Traces.{most_activities}
use Rattle.declare.specs.Meaning.{occurs}

-- the number with these bits, the lowest first
abbrev pub from_bits : List Bool → ℕ
from_bits [] = 0
from_bits (bit ∷ bits) = (if bit then 1 else 0) + 2 * from_bits bits

-- one 32-bit word a run, bit s set when step s occurs
unfoldable pub word_of : List ℕ → ℕ
word_of trace = from_bits (map (λ s. occurs s trace) (range 0 most_activities))

-- the bit of one activity: the word of the trace that is it alone
abbrev pub bit_of : ℕ → ℕ
bit_of s = word_of (s ∷ [])

-- a word with one activity's bit
abbrev pub with_bit : ℕ → ℕ → ℕ
with_bit word s = bit_or word (bit_of s)

-- bit s is set
abbrev pub has : ℕ → ℕ → Bool
has s word = eqb (bit_at word s) 1

-- its bits say it all: a number is a trace's word just where each of its bits is set just where that activity, one of 32, occurs
abbrev pub JustItsBits : Type 0
JustItsBits = (trace : List ℕ) (word : ℕ) → ((s : ℕ) → has s word ≡ ltb s most_activities && occurs s trace) ↔ (word ≡ word_of trace)

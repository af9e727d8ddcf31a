-- What is counted from words alone (document 02: support is counted without reading steps). Nothing here has to be believed: proofs/Masks.antt
-- shows that over the words of traces it comes to R, support and what pruning keeps.
-- Assumes nothing.
use Rattle.std.specs.Prelude.{ℕ, ◌%◌, ◌<◌, ◌≡◌, min, Bool, not, ◌&&◌, leb, ltb, List, [], eqb, get_or, replicate, bit_and, bit_or, if◌then◌else◌}
use Rattle.std.specs.List.{filter}
use Rattle.base.specs.Logic.{in_range}
use Rattle.base.specs.Lists.{count, range}
use Rattle.base.proofs.Stores.{filled}
use Rattle.declare.specs.Traces.{most_activities}
use Rattle.declare.specs.declared.constraints.Constraint.{Constraint}
use Rattle.declare.specs.Constraints.{pairs}
use Rattle.eventlog.specs.Words.{word_of, bit_of, has}
use Rattle.pruning.specs.declared.Measure.{Measure}
use Rattle.pruning.specs.declared.Class.{Class}
use Rattle.pruning.specs.declared.Class.TheVariants.{WithA, All, Either, Both}
use Rattle.pruning.specs.declared.pairs.PairSupport.{PairSupport}
use Rattle.pruning.specs.declared.WordTest.{WordTest}
use Rattle.pruning.specs.Question.{meets}

-- of a mask's bits a word has just these
abbrev pub just : ℕ → ℕ → ℕ → Bool
just mask bits word = eqb (bit_and word mask) bits

-- it has one of these bits, at least
abbrev pub some_of : ℕ → ℕ → Bool
some_of bits word = not (just bits 0 word)

-- it has all of them
abbrev pub all_of : ℕ → ℕ → Bool
all_of bits = just bits bits

-- R
abbrev pub traces_by : List ℕ → ℕ
traces_by words = count (some_of 4294967295) words

-- a word counts for a class, by the bits of a and b
abbrev pub counts_by : Class → ℕ → ℕ → ℕ → Bool
counts_by WithA a b word = some_of a word
counts_by All a b word = some_of 4294967295 word
counts_by Either a b word = some_of (bit_or a b) word
counts_by Both a b word = all_of (bit_or a b) word

abbrev pub support_by : Class → List ℕ → ℕ → ℕ → ℕ
support_by class words a b = count (counts_by class (bit_of a) (bit_of b)) words

-- the bits of a and of b; in the class of the traces with a, b is a
abbrev pub bits_of : ℕ → ℕ → ℕ
bits_of a b = bit_or (bit_of (a % 32)) (bit_of (b % 32))

-- the test of words for a class and two activities: what a word has of the mask is at least a number, 1 for some of the bits and the mask for all of
-- them
abbrev pub by_mask : Class → ℕ → WordTest
by_mask WithA mask = record { mask = mask; least = 1 }
by_mask All mask = record { mask = 4294967295; least = 1 }
by_mask Either mask = record { mask = mask; least = 1 }
by_mask Both mask = record { mask = mask; least = mask }

abbrev pub test_for : Class → ℕ → ℕ → WordTest
test_for class a b = by_mask class (bits_of a b)

abbrev pub passes : WordTest → ℕ → Bool
passes t word = leb t.least (bit_and word t.mask)

-- the declared activities with which one makes a frequent pair, as a word: those b with which its support meets the threshold
abbrev pub companions_by : Class → Measure → List ℕ → ℕ → ℕ
companions_by class m words a = word_of (filter (λ b. meets m (support_by class words a b)) (range 0 (min m.activities most_activities)))

-- the companions of each declared activity
unfoldable pub companions_of_all : Class → Measure → List ℕ → List ℕ → List ℕ
companions_of_all class m words there = filled (companions_by class m words) (min m.activities most_activities) there

-- how many words have a bit of an activity or of another, at least, for each declared other one, in the place of what there was beside it
abbrev pub with_either_beside : Measure → List ℕ → List (List ℕ) → ℕ → List ℕ
with_either_beside m words there a = filled (support_by Either words a) (min m.activities most_activities) (get_or there a [])

-- beside each declared activity
unfoldable pub with_either_of_all : Measure → List ℕ → List (List ℕ) → List (List ℕ)
with_either_of_all m words there = filled (with_either_beside m words there) (min m.activities most_activities) there

abbrev pub no_pair : PairSupport
no_pair = record { with_either = replicate 32 (replicate 32 0); either = replicate 32 0; both = replicate 32 0 }

abbrev pub counted_by : Measure → List ℕ → PairSupport → PairSupport
counted_by m words p =
    record {
      with_either = with_either_of_all m words p.with_either;
      either = companions_of_all Either m words p.either;
      both = companions_of_all Both m words p.both;
    }

-- the companions of an activity in a class, as a word: in the class of all it is kept beside every one
abbrev pub beside_in : PairSupport → Class → ℕ → ℕ
beside_in p WithA a = get_or p.either (a % 32) 0
beside_in p All a = 4294967295
beside_in p Either a = get_or p.either (a % 32) 0
beside_in p Both a = get_or p.both (a % 32) 0

abbrev pub survives_by : PairSupport → Class → Constraint → Bool
survives_by p class c = has (c.b % 32) (beside_in p class c.a)

-- how many traces have one of two activities, at least
abbrev pub with_either_in : PairSupport → ℕ → ℕ → ℕ
with_either_in p a b = get_or (get_or p.with_either (a % 32) []) (b % 32) 0

-- how many of so many traces activate a constraint
abbrev pub activated_by : PairSupport → ℕ → Constraint → ℕ
activated_by p traces c =
    if in_range 1 c.template 10 then traces
    else if in_range 13 c.template 16 then with_either_in p c.a c.a
    else if in_range 17 c.template 19 then with_either_in p c.b c.b
    else with_either_in p c.a c.b

-- the activities that a template takes beside an a, as a word
abbrev pub Partners : ℕ → ℕ → ℕ → ℕ → Type 0
Partners n template a word = (b : ℕ) → b < most_activities → has b word ≡ ltb b n && pairs template a b

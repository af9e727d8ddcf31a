-- The walk over the constraints that pruning keeps. Nothing here has to be believed: proofs/Walking.antt shows that what it has left at first is
-- what pruning keeps of `constraints n`.
-- Assumes nothing.
use Rattle.std.specs.Prelude.{ℕ, ◌+◌, ◌-◌, ◌*◌, ◌≡◌, ◌<◌, Bool, true, false, List, [], ◌∷◌, ◌++◌, map, if◌then◌else◌}
use Rattle.std.specs.List.{filter}
use Rattle.base.specs.Lists.{range, flat_map}
use Rattle.declare.specs.Traces.{most_activities}
use Rattle.declare.specs.declared.constraints.Constraint.{Constraint}
use Rattle.declare.specs.Constraints.{constraint, pairs}
use Rattle.eventlog.specs.Words.{has}
use Rattle.pruning.specs.declared.pairs.PairSupport.{PairSupport}
use Rattle.pruning.specs.declared.walk.Walk.{Walk}
use Rattle.pruning.specs.Question.{class_of}
use Rattle.pruning.specs.Masks.{survives_by}

-- the activities of a word, rising
unfoldable pub activities_in : ℕ → List ℕ
activities_in word = filter (λ b. has b word) (range 0 most_activities)

-- a template's constraints on an a
abbrev pub on_a : ℕ → ℕ → ℕ → List Constraint
on_a n template a = flat_map (range 0 n) λ b. if pairs template a b then constraint template a b ∷ [] else []

-- on each a from a number on
abbrev pub from_a : ℕ → ℕ → ℕ → List Constraint
from_a n template a = flat_map (range a (n - a)) (on_a n template)

-- and those of each template from one on
abbrev pub from_template : ℕ → ℕ → List Constraint
from_template n template = flat_map (range template (25 - template)) λ template. from_a n template 0

-- by the pairs' support pruning keeps a constraint
abbrev pub keeps : PairSupport → Constraint → Bool
keeps p c = survives_by p (class_of c.template) c

-- what is kept behind a template and a
abbrev pub behind : Walk → List Constraint
behind w = filter (keeps w.pairs.now) (from_a w.activities w.template (w.a + 1) ++ from_template w.activities (w.template + 1))

-- what the walk has left
abbrev pub left : Walk → List Constraint
left w = map (constraint w.template w.a) (activities_in w.rest) ++ behind w

-- the walk stands at a template and an a, and has all left that is kept there and behind it
pub record Stands (w w' : Walk) : Type 0 where
  pub all : left w' ≡ filter (keeps w.pairs.now) (from_a w.activities w.template w.a ++ from_template w.activities (w.template + 1))
  pub template : w'.template ≡ w.template
  pub a : w'.a ≡ w.a

abbrev pub places_left : Walk → ℕ
places_left w = 256 * (24 - w.template) + (256 - w.a)

-- it moves on to the next a or template, if there is one
pub record MovesOn (w w' : Walk) (moved : Bool) : Type 0 where
  pub all : moved ≡ true → behind w ≡ left w'
  pub falls : moved ≡ true → places_left w' < places_left w
  pub ended : moved ≡ false → (behind w ≡ []) × (w' ≡ w)

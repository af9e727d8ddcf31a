-- What is left stays so while the walk moves on to where something is kept.
use Rattle.std.proofs.Common.{◌≡◌}
use Rattle.pruning.specs.Walk.{left, places_left}
use Rattle.pruning.proofs.walk.WalkIterator.next.Given as goal

abbrev pub invariant-loop-self : goal.invariant-loop-self
invariant-loop-self l = left l.initial.self ≡ left l.self

abbrev pub decreases-loop-self : goal.decreases-loop-self
decreases-loop-self l = places_left l.self

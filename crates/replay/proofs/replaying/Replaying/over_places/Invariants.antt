-- What has been counted and what is left come to what all come to.
use Rattle.std.proofs.Common.{drop}
use Rattle.replay.specs.Blocks.{places_in}
use Rattle.replay.proofs.Reading.{Underway}
use Rattle.replay.proofs.replaying.Replaying.over_places.Given as goal

abbrev pub invariant-loop-place : goal.invariant-loop-place
invariant-loop-place l =
    Underway l.self.constraint l.initial.all l.all (places_in l.query l.from l.places) (places_in l.query l.from (drop l.place-index l.places))

-- The places so far that pass stand at the front.
use Rattle.replay.specs.Blocks.{passing}
use Rattle.replay.proofs.Selecting.{Selecting}
use Rattle.replay.proofs.replaying.select.Given as goal

abbrev pub invariant-loop-k : goal.invariant-loop-k
invariant-loop-k l = Selecting (passing l.test l.words) l.k l.n l.places

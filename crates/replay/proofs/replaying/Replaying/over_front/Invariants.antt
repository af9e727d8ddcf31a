-- The first traces are replayed.
use Rattle.replay.specs.Blocks.{ReplaysFront}
use Rattle.replay.proofs.replaying.Replaying.over_front.Given as goal

abbrev pub invariant-loop-k : goal.invariant-loop-k
invariant-loop-k l = ReplaysFront l.query l.self.constraint l.events_read (record { place = l.k; all = l.all })

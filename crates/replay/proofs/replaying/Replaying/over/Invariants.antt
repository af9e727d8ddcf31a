-- The blocks so far are passed.
use Rattle.std.proofs.Common.{◌-◌, length}
use Rattle.replay.proofs.Reading.{Passed}
use Rattle.replay.proofs.replaying.Replaying.over.Given as goal

abbrev pub invariant-loop-from : goal.invariant-loop-from
invariant-loop-from l = Passed l.query l.self.constraint l.events_read l.from l.all

abbrev pub decreases-loop-from : goal.decreases-loop-from
decreases-loop-from l = length l.query.kept.words.now - l.from

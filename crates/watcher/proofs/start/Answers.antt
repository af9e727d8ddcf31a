-- An accepted start, from what the answer was.
use Rattle.std.proofs.Common.{arith}
use Rattle.watcher.proofs.Starting.{starts_started}
use Rattle.watcher.proofs.start.Goals as goal

pub returns : goal.returns
returns c =
    λ there.
    starts_started c.args.activities c.args.numbers.now _ c.in_ok-watcher.ensures there _ _ (omega arith) (omega arith) c.first_turns.ensures

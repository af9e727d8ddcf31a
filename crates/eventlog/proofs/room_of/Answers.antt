use Rattle.eventlog.specs.Store.{last_end}
use Rattle.eventlog.proofs.room_of.Goals as goal

pub returns : goal.returns
unfolding last_end
returns c = rw c.last_end.ensures

-- The loop's invariant: what the whole list says is what the ends from the index on say after `last`.
use Rattle.std.proofs.Common.{drop, ◌≡◌}
use Rattle.eventlog.specs.Store.{rising}
use Rattle.eventlog.proofs.ends_rise.Given as goal

abbrev pub invariant-loop-end : goal.invariant-loop-end
invariant-loop-end l = rising 0 l.ends ≡ rising l.last (drop l.end-index l.ends)

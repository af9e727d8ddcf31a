-- The constraints so far are passed, and the walk has left the others that pruning keeps.
use Rattle.replay.specs.Query.{asked_by}
use Rattle.pruning.specs.Walk.{left}
use Rattle.discovery.proofs.list.Passing.{Passing}
use Rattle.discovery.proofs.list.pass.Given as goal

abbrev pub invariant-loop-c : goal.invariant-loop-c
invariant-loop-c l = Passing (asked_by l.query) l.initial.list l.yielded (left l.c-iterator) l.tally l.list

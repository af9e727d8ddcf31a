-- The numbers so far are put.
use Rattle.std.proofs.Common.{◌≡◌, take}
use Rattle.std.proofs.lemmas.List.Edits.{sets}
use Rattle.discovery.proofs.row.put_row.Given as goal

abbrev pub invariant-loop-k : goal.invariant-loop-k
invariant-loop-k l = l.list ≡ sets l.initial.list l.from (take l.k l.row)

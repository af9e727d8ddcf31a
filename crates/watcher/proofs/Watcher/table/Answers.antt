-- The bytes are those of the automata, and where one activity is declared just one of them differs.
use Rattle.std.proofs.Common.{sym, ap}
use borrow.Author.Tests.{eq-eqb, ne_eqb}
use Rattle.watcher.specs.Table.{table}
use Rattle.watcher.proofs.Watcher.table.Goals as goal

pub returns-then-self-eq1 : goal.returns-then-self-eq1
unfolding table
returns-then-self-eq1 c = ap table (sym (eq-eqb _ _ c.if-self-eq1.true))

pub returns-else-self-eq1 : goal.returns-else-self-eq1
unfolding table
returns-else-self-eq1 c = ap table (sym (ne_eqb _ _ c.if-self-eq1.false))

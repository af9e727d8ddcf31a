-- The lines of the rows passed are put.
use Rattle.std.proofs.Common.{◌*◌, take}
use Rattle.report.specs.Print.{constraint_line_size}
use Rattle.report.specs.Puts.{Adds, lines_of}
use Rattle.report.proofs.text.Text.put_list.Given as goal

abbrev pub invariant-loop-row : goal.invariant-loop-row
invariant-loop-row l = Adds l.initial.self (constraint_line_size * l.row-index) (lines_of (take l.row-index l.rows)) l.self

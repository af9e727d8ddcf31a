-- One row on: its line is behind those of the rows before it.
use Rattle.std.proofs.Common.{◌+◌, ◌*◌, ◌≡◌, arith}
use Rattle.report.specs.Print.{constraint_line_size}
use Rattle.report.proofs.Puts.{add_then, lines_more}
use Rattle.report.proofs.text.Text.put_list.Goals as goal

pub loop-row-preserved : goal.loop-row-preserved
loop-row-preserved c =
    let k = c.loop-row.row-index in
    let size : constraint_line_size * (k + 1) ≡ constraint_line_size * k + constraint_line_size = omega arith in
    rw (size, lines_more c.args.rows.now k c.loop-row-test.true)
    (add_then c.loop-row.invariant (rw c.into.ensures at c.put_constraint.ensures))

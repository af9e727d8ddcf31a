-- Its fields are put one after the other.
use Rattle.report.specs.Print.{constraint_line}
use Rattle.report.proofs.Puts.{add_then}
use Rattle.report.proofs.text.Text.put_constraint.Goals as goal

pub returns : goal.returns
unfolding constraint_line
returns c =
    rw (c.from.ensures, c.from-2.ensures, c.from-3.ensures, c.from-4.ensures)
    at (add_then
    (add_then
    (add_then
    (add_then
    (add_then
    c.put_number.ensures
    c.put_number-2.ensures)
    c.put_second.ensures)
    c.put_number-3.ensures)
    c.put_number-4.ensures)
    c.put_line_feed.ensures)

-- Its fields are put one after the other.
use Rattle.report.specs.Print.{first_line}
use Rattle.report.proofs.Puts.{add_then}
use Rattle.report.proofs.text.Text.put_first.Goals as goal

pub returns : goal.returns
unfolding first_line
returns c =
    add_then (add_then (add_then (add_then c.put_number.ensures c.put_number-2.ensures) c.put_number-3.ensures) c.put_number-4.ensures) c.put_line_feed.ensures

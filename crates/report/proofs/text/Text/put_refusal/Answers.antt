-- Its fields are put one after the other.
use Rattle.report.specs.Print.{refusal_line}
use Rattle.report.proofs.Puts.{add_then}
use Rattle.report.proofs.text.Text.put_refusal.Goals as goal

pub returns : goal.returns
unfolding refusal_line
returns c =
    rw (c.from.ensures, c.number.ensures)
    at (add_then (add_then c.put_number.ensures c.put_number-2.ensures) c.put_line_feed.ensures)

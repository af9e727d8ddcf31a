use Rattle.std.proofs.Common.{sym}
use Rattle.columns.proofs.Lines.{an_event}
use Rattle.columns.proofs.read_line.Goals as goal

pub returns : goal.returns
returns c =
    let bytes = c.args.bytes.now in
    sym
    (an_event bytes c.if-bytes-ne-LINE.false c.in_ok-number.number c.in_ok-activity.activity c.if-bytes-ne-LINE_FEED.false
    (sym (c.in_ok-number.ensures {u = tt})) c.if-number-lt1.false (sym (c.in_ok-activity.ensures {u = tt})))

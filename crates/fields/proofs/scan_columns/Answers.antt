-- Eight columns leave room for a digit more, and one column more is read by `scan_byte`.
use Rattle.std.proofs.Common.{arith, take, get_or, length-take-le}
use Rattle.std.proofs.lemmas.List.{take_more}
use Rattle.fields.proofs.Fields.{scanned_more, scanned_fits}
use Rattle.fields.proofs.scan_columns.Goals as goal

pub next-scan-requires : goal.next-scan-requires
next-scan-requires c =
    let at = c.loop-byte in
    let columns = c.args.columns.now in
    rw at.invariant.1 (scanned_fits (take at.byte-index columns) (rw (length-take-le at.byte-index columns (omega arith)) (omega arith)))

pub loop-byte-preserved : goal.loop-byte-preserved
loop-byte-preserved c =
    let at = c.loop-byte in
    let columns = c.args.columns.now in
    let one_more = take_more columns at.byte-index 0 (omega arith) in
    let read = scanned_more (take at.byte-index columns) (get_or columns at.byte-index 0) in
    (at.invariant.0, cc)

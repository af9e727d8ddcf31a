use Rattle.std.proofs.Common.{arith}
use Rattle.std.proofs.lemmas.Result.{err_from_is_err_and}
use Rattle.report.proofs.Reading.{added_decides, not_added_decides}
use Rattle.report.proofs.read_and_find.Goals as goal

pub returns-in_err-read : goal.returns-in_err-read
returns-in_err-read c =
    let left = err_from_is_err_and c.from_residual.result c.from_residual.ensures.1 in
    rw (left.1, left.2)
    (not_added_decides c.args.store.activities c.args.settings c.args.log.now c.requires.0 c.args.arrays.now
    (record { events = omega arith; ends = omega arith; words = omega arith }) _ _
    (rw c.requires.1 at c.in_err-read.ensures))

pub returns : goal.returns
returns c =
    added_decides c.args.store.activities c.args.settings c.args.log.now c.requires.0 c.args.arrays.now
    (record { events = omega arith; ends = omega arith; words = omega arith }) _ _ _ _ (omega arith)
    (rw c.requires.1 at c.in_ok-read.ensures) c.find.ensures

-- All are proper just where each chunk of three numbers is.
use Rattle.std.proofs.Common.{rules, arith}
use Rattle.watcher.specs.Calls.{proper}
use Rattle.watcher.proofs.Chunks.{each_given}
use Rattle.watcher.proofs.all_proper.Goals as goal

pub returns : goal.returns
returns c =
    each_given c.all.ensures.runs.0 c.args.numbers.now
    (rw (c.all.ensures.runs.1, c.chunks_exact.ensures.rest, c.chunks_exact.ensures.size) at (c.chunks_exact.ensures.runs c.all.ensures.runs.0 c.all.ensures.runs.0.seen (rw (c.all.ensures.runs.1, c.chunks_exact.ensures.size) (omega arith))))
    (proper c.args.activities) _ _ (search rules) (λ x r called. search rules) c.args.numbers c.all.result c.all.ensures.runs.2

use Rattle.std.proofs.Common.{arith}
use Rattle.base.proofs.Lists.{not_counted, count_at_most}
use Rattle.pruning.specs.Masks.{just}
use Rattle.pruning.proofs.with_some.Goals as goal

pub overflow_sub-result : goal.overflow_sub-result
overflow_sub-result c = omega (arith, c.masked.ensures, count_at_most (just c.args.bits 0) c.args.words.words.now)

pub returns : goal.returns
returns c = omega (arith, c.masked.ensures, not_counted (just c.args.bits 0) c.args.words.words.now)

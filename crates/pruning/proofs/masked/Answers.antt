use Rattle.std.proofs.Common.{rules, tests, arith}
use Rattle.std.proofs.lemmas.Iterator.{YieldsList-from_slice}
use Rattle.base.proofs.Counting.{sum_fits, sum_counts}
use Rattle.pruning.specs.Masks.{just}
use Rattle.pruning.proofs.masked.Goals as goal

pub sum-requires-clause-fits : goal.sum-requires-clause-fits
sum-requires-clause-fits c =
    let words = c.args.words in
    sum_fits (just c.args.mask c.args.bits) (YieldsList-from_slice words.words.now (search rules)) c.map.ensures.closure
    (λ word n f k. search (rules, tests)) (omega (arith, words.few))

pub returns : goal.returns
returns c =
    sum_counts (just c.args.mask c.args.bits) (YieldsList-from_slice c.args.words.words.now (search rules)) c.map.ensures.closure
    (λ word n f k. search (rules, tests)) c.sum.ensures.ran

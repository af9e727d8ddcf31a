-- The loop's invariant: beside the activities so far the others are counted, and those behind them are as they were.
use Rattle.std.proofs.Common.{◌≡◌}
use Rattle.pruning.specs.declared.Class.TheVariants.{Either, Both}
use Rattle.base.proofs.Stores.{filled}
use Rattle.pruning.specs.Masks.{companions_by, with_either_beside}
use Rattle.pruning.proofs.pairs.PairSupport.count.Given as goal

abbrev pub invariant-loop-a : goal.invariant-loop-a
invariant-loop-a l =
    let words = l.words.words.now in
    let there = l.initial.self in
    record {
      with_either : l.self.with_either ≡ filled (with_either_beside l.measure words there.with_either) l.a there.with_either;
      either : l.self.either ≡ filled (companions_by Either l.measure words) l.a there.either;
      both : l.self.both ≡ filled (companions_by Both l.measure words) l.a there.both;
    }

-- The loop's invariant: of the activities so far the counts are put, and those that are frequent have their bit.
use Rattle.std.proofs.Common.{◌≡◌}
use Rattle.std.specs.List.{filter}
use Rattle.base.specs.Lists.{range}
use Rattle.eventlog.specs.Words.{word_of}
use Rattle.pruning.specs.Question.{meets}
use Rattle.base.proofs.Stores.{filled}
use Rattle.pruning.specs.Masks.{support_by}
use Rattle.pruning.proofs.pairs.companions.Given as goal

abbrev pub invariant-loop-b : goal.invariant-loop-b
invariant-loop-b l =
    let words = l.words.words.now in
    record {
      counted : l.counts ≡ filled (support_by l.class words l.a) l.b l.initial.counts;
      frequent : l.frequent ≡ word_of (filter (λ b. meets l.measure (support_by l.class words l.a b)) (range 0 l.b));
    }

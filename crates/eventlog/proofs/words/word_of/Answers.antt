use Rattle.std.proofs.Common.{rules, ◌∙◌}
use Rattle.std.proofs.lemmas.Iterator.{YieldsList-from_slice}
use Rattle.std.proofs.lemmas.Iterator.Consumers.{fold_from_yields_List}
use Rattle.eventlog.specs.Words.{with_bit}
use Rattle.eventlog.proofs.WordBits.{folded}
use Rattle.eventlog.proofs.words.word_of.Goals as goal

pub returns : goal.returns
returns c =
    let trace = c.args.trace.now in
    fold_from_yields_List _ with_bit 0 c.fold.result c.fold.ensures.ran (YieldsList-from_slice trace c.iter.ensures.rest)
    (λ before event after f called. search rules)
    ∙ folded trace

use Rattle.std.proofs.Common.{arith, ap, length}
use Rattle.std.proofs.lemmas.List.{length-map}
use Rattle.eventlog.specs.Store.{cut}
use Rattle.eventlog.specs.Words.{word_of}
use Rattle.eventlog.proofs.Laws.{cut_length}
use Rattle.eventlog.proofs.kept_traces.KeptParts.words.Goals as goal

pub invariant_of-result : goal.invariant_of-result
invariant_of-result c =
    let kept = c.args.self in
    omega (
      arith,
      ap length kept.of_traces,
      length-map (cut 0 kept.ends.now kept.events.now) word_of,
      cut_length 0 kept.ends.now kept.events.now,
      kept.few,
    )

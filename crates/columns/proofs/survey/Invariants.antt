-- The loop's invariant: the answer from here on is the answer to the whole log.
use Rattle.std.proofs.Common.{◌+◌, ◌≡◌}
use Rattle.std.specs.Iterator.Adapters.{enumerate_source, enumerate_count}
use Rattle.std.specs.Slice.Iter.{chunks_rest, chunks_size}
use Rattle.columns.specs.Log.{lines}
use Rattle.columns.specs.Survey.{survey_of}
use Rattle.columns.proofs.survey.Given as goal

abbrev pub invariant-loop-k : goal.invariant-loop-k
invariant-loop-k l =
    let chunks = enumerate_source l.k-iterator in
    (chunks_size chunks ≡ 10)
    × (survey_of l.reading.room l.reading.at (enumerate_count l.k-iterator + 1) (lines (chunks_rest chunks)) ≡
    survey_of l.fn.reading.room l.fn.reading.at 1 (lines l.log))

-- The loop's invariant: what is written from here on comes to what the whole log writes, and the rest is accepted.
use Rattle.std.proofs.Common.{ℕ, ◌≡◌, IsOk}
use Rattle.std.specs.Slice.Iter.{chunks_rest, chunks_size}
use Rattle.columns.specs.Log.{lines}
use Rattle.columns.specs.Survey.{survey_of, memory_in, lines_written}
use Rattle.columns.proofs.write_lines.Given as goal

abbrev pub invariant-loop-line : goal.invariant-loop-line
invariant-loop-line l =
    let rest = lines (chunks_rest l.line-iterator) in
    let start = memory_in l.fn.reading.room l.fn.events l.fn.ends l.fn.words in
    record {
      ten : chunks_size l.line-iterator ≡ 10;
      same_room : l.reading.room ≡ l.fn.reading.room;
      accepted : (place : ℕ) × IsOk (survey_of l.reading.room l.reading.at place rest);
      writes : lines_written l.reading.at (memory_in l.reading.room l.events l.ends l.words) rest ≡ lines_written l.fn.reading.at start (lines l.log);
    }

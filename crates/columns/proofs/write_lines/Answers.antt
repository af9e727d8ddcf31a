-- A line of an accepted log has no fault, and what is written with it is what the log's lines write.
use Rattle.std.proofs.Common.{◌+◌, ◌∙◌, sym, ap}
use Rattle.eventlog.specs.declared.Room.{Room}
use Rattle.columns.specs.Survey.{memory_in, lines_written}
use Rattle.columns.proofs.Lines.{chunk_line, no_chunk}
use Rattle.columns.proofs.Written.{passes_fault, passes_on, written_on, not_malformed}
use Rattle.columns.proofs.write_lines.Goals as goal

pub write_line-reading-requires-clause-passes : goal.write_line-reading-requires-clause-passes
write_line-reading-requires-clause-passes c =
    let at = c.loop-line in
    let cut = chunk_line at.line-iterator c.next.new.self c.in-Some.line at.invariant.ten c.in-Some.ensures.steps in
    passes_fault at.reading.room at.reading.at at.invariant.accepted.0 cut at.invariant.accepted.1 c.in-Some-read_line.ensures

pub loop-line-preserved-in-Some-read_line : goal.loop-line-preserved-in-Some-read_line
loop-line-preserved-in-Some-read_line c =
    let at = c.loop-line in
    let steps = c.in-Some.ensures.steps in
    let place = at.invariant.accepted.0 in
    let cut = chunk_line at.line-iterator c.next.new.self c.in-Some.line at.invariant.ten steps in
    let wrote = c.write_line-reading.ensures in
    record {
      ten = steps.0 ∙ at.invariant.ten;
      same_room = wrote.room ∙ at.invariant.same_room;
      accepted = (
        place + 1,
        rw (wrote.room, wrote.at)
            (passes_on at.reading.room at.reading.at place cut at.invariant.accepted.1 c.in-Some-read_line.ensures),
      );
      writes =
          rw (wrote.room, wrote.at, wrote.written)
          (sym (written_on at.reading.room at.reading.at place cut at.invariant.accepted.1 c.in-Some-read_line.ensures
          (memory_in at.reading.room at.events at.ends at.words)) ∙ at.invariant.writes);
    }

pub loop-line-preserved : goal.loop-line-preserved
loop-line-preserved c =
    let at = c.loop-line in
    let cut = chunk_line at.line-iterator c.next.new.self c.in-Some.line at.invariant.ten c.in-Some.ensures.steps in
    not_malformed at.reading.room at.reading.at at.invariant.accepted.0 cut at.invariant.accepted.1 c.in_default.ensures

pub returns : goal.returns
returns c =
    let at = c.loop-line in
    let none = no_chunk at.line-iterator c.next.new.self c.in-None.ensures.steps in
    ap (λ (r : Room). memory_in r at.events at.ends at.words) (sym at.invariant.same_room)
    ∙ sym (ap (lines_written at.reading.at (memory_in at.reading.room at.events at.ends at.words)) none) ∙ at.invariant.writes

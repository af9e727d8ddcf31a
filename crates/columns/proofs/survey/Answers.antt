-- One line on, a line that is refused, and the end of the log, in the words of the invariant.
use Rattle.std.proofs.Common.{◌+◌, ◌∙◌, sym, ap}
use Rattle.std.specs.Iterator.Adapters.{enumerate_source, enumerate_count}
use Rattle.columns.specs.Survey.{survey_of}
use Rattle.columns.proofs.Lines.{chunk_line, no_chunk}
use Rattle.columns.proofs.LineSteps.{survey_on, survey_stops}
use Rattle.columns.proofs.survey.Goals as goal

pub loop-k-preserved : goal.loop-k-preserved
loop-k-preserved c =
    let at = c.loop-k in
    let steps = c.in-Some.ensures.steps in
    let cut = chunk_line (enumerate_source at.k-iterator) (enumerate_source c.next.new.self) c.in-Some.line at.invariant.0 steps.0 in
    let taken = c.in-Ok.ensures in (
      steps.0.0 ∙ at.invariant.0,
      rw (taken.0, steps.2)
          (sym (survey_on at.reading.room at.reading.at (enumerate_count at.k-iterator + 1) cut taken.1) ∙ at.invariant.1),
    )

pub returns-in-Err : goal.returns-in-Err
returns-in-Err c =
    let at = c.loop-k in
    let steps = c.in-Some.ensures.steps in
    let cut = chunk_line (enumerate_source at.k-iterator) (enumerate_source c.next.new.self) c.in-Some.line at.invariant.0 steps.0 in
    rw (c.with.ensures, steps.1)
    (sym (survey_stops at.reading.room at.reading.at (enumerate_count at.k-iterator + 1) cut c.in-Err.ensures) ∙ at.invariant.1)

pub returns : goal.returns
returns c =
    let at = c.loop-k in
    let none = no_chunk (enumerate_source at.k-iterator) (enumerate_source c.next.new.self) c.in-None.ensures.steps.0 in
    sym (ap (survey_of at.reading.room at.reading.at (enumerate_count at.k-iterator + 1)) none) ∙ at.invariant.1

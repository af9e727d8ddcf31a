-- Each place's trace is one that the constraint reads, and what is counted fits.
use Rattle.std.proofs.Common.{length, ap, ◌∙◌, arith}
use Rattle.pruning.specs.Question.{reads}
use Rattle.eventlog.specs.SoundStore.{traces_in}
use Rattle.eventlog.proofs.Laws.{cut_length}
use Rattle.replay.proofs.Reading.{underway_start, underway_place, places_done, is_read, read_within, events_fit, fulfilled_fits, underway_on}
use Rattle.replay.proofs.replaying.Replaying.over_places.Goals as goal

pub loop-place-init : goal.loop-place-init
loop-place-init c = underway_start c.args.self.constraint c.args.before c.requires.read

pub trace-requires : goal.trace-requires
trace-requires c =
    let h = c.args.self.constraint in
    let kept = c.args.query.kept in
    let here = underway_place h c.args.query c.args.from c.args.places.now c.loop-place.invariant c.loop-place-test.true c.from.ensures in
    omega (arith, read_within h (traces_in kept) _ (is_read h here), cut_length 0 kept.ends.now kept.events.now)

pub overflow_add-from : goal.overflow_add-from
overflow_add-from c = omega (arith, trace-requires c, c.args.query.kept.few)

pub over_trace-one-requires-clause-read : goal.over_trace-one-requires-clause-read
over_trace-one-requires-clause-read c =
    let h = c.args.self.constraint in
    let here = underway_place h c.args.query c.args.from c.args.places.now c.loop-place.invariant c.loop-place-test.true c.from.ensures in
    ap (reads h) c.trace.ensures ∙ is_read h here

pub over_trace-one-requires-clause-fits : goal.over_trace-one-requires-clause-fits
over_trace-one-requires-clause-fits c =
    let h = c.args.self.constraint in
    let here = underway_place h c.args.query c.args.from c.args.places.now c.loop-place.invariant c.loop-place-test.true c.from.ensures in
    omega (arith, ap length c.trace.ensures, events_fit h here c.requires.countable)

pub overflow_add-all : goal.overflow_add-all
overflow_add-all c =
    let h = c.args.self.constraint in
    let here = underway_place h c.args.query c.args.from c.args.places.now c.loop-place.invariant c.loop-place-test.true c.from.ensures in
    let told = (rw c.trace.ensures at c.over_trace-one.ensures).fulfilled in
    omega (arith, fulfilled_fits h here c.requires.countable c.over_trace-one.result.is_fulfilled told, c.from-in-loop-place.ensures)

pub loop-place-preserved : goal.loop-place-preserved
loop-place-preserved c =
    let h = c.args.self.constraint in
    let here = underway_place h c.args.query c.args.from c.args.places.now c.loop-place.invariant c.loop-place-test.true c.from.ensures in
    underway_on h here (rw c.trace.ensures at c.over_trace-one.ensures) c.from-in-loop-place.ensures

pub returns : goal.returns
returns c = places_done c.args.self.constraint c.args.query c.args.from c.args.places.now c.loop-place.invariant c.loop-place-test.false

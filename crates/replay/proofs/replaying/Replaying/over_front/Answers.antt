-- A trace is replayed where its word passes.
use Rattle.std.proofs.Common.{◌<◌, length, get_or, sym, ap, ◌∙◌, arith}
use Rattle.pruning.specs.Question.{reads}
use Rattle.pruning.specs.Masks.{passes}
use Rattle.eventlog.specs.SoundStore.{traces_in}
use Rattle.eventlog.proofs.Laws.{cut_length}
use Rattle.replay.proofs.Reading.{as_many_words, told, front_start, front_fulfilled_fits, front_events_fit, front_on}
use Rattle.replay.proofs.replaying.Replaying.over_front.Goals as goal

pub loop-k-init : goal.loop-k-init
loop-k-init c = front_start c.requires

pub trace-requires : goal.trace-requires
trace-requires c =
    let kept = c.args.query.kept in
    omega (arith, c.loop-k-test.true, as_many_words c.args.query, cut_length 0 kept.ends.now kept.events.now)

pub over_trace-one-requires-clause-read : goal.over_trace-one-requires-clause-read
over_trace-one-requires-clause-read c =
    let h = c.args.self.constraint in
    let query = c.args.query in
    let k = c.loop-k.k in
    ap (reads h) c.trace.ensures
    ∙ sym (told query h c.requires.over k (omega (arith, c.loop-k-test.true, as_many_words query)))
    ∙ ap (λ test. passes test (get_or query.kept.words.now k 0)) (sym c.args.self.tested)
    ∙ sym c.passes.ensures ∙ c.if-not-passes.false

pub over_trace-one-requires-clause-fits : goal.over_trace-one-requires-clause-fits
over_trace-one-requires-clause-fits c =
    let ahead : c.loop-k.k < length (traces_in c.args.query.kept) = omega (arith, c.loop-k-test.true, as_many_words c.args.query) in
    omega (arith, ap length c.trace.ensures, front_events_fit c.requires c.loop-k.invariant ahead)

pub overflow_add-all : goal.overflow_add-all
overflow_add-all c =
    let ahead : c.loop-k.k < length (traces_in c.args.query.kept) = omega (arith, c.loop-k-test.true, as_many_words c.args.query) in
    omega (arith, front_fulfilled_fits c.requires c.loop-k.invariant ahead c.over_trace-one.result.is_fulfilled, c.from.ensures)

pub loop-k-preserved : goal.loop-k-preserved
loop-k-preserved c =
    let h = c.args.self.constraint in
    let query = c.args.query in
    let k = c.loop-k.k in
    let ahead : k < length (traces_in query.kept) = omega (arith, c.loop-k-test.true, as_many_words query) in
    let is_read = sym (told query h c.requires.over k ahead)
    ∙ ap (λ test. passes test (get_or query.kept.words.now k 0)) (sym c.args.self.tested)
    ∙ sym c.passes.ensures ∙ c.if-not-passes.false in
    front_on c.requires c.loop-k.invariant ahead is_read (rw c.trace.ensures at c.over_trace-one.ensures) c.from.ensures

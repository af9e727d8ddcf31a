use Rattle.std.proofs.Common.{◌∙◌, ◌+◌, ap, arith}
use Rattle.automata.specs.Automata.{moves_of}
use Rattle.eventlog.specs.SoundStore.{traces_in}
use Rattle.eventlog.specs.Store.{total}
use Rattle.replay.proofs.Counting.{replay_counts, read_of_some}
use Rattle.replay.proofs.replay.Goals as goal

pub invariant_of-replaying-clause-moved : goal.invariant_of-replaying-clause-moved
invariant_of-replaying-clause-moved c =
    let h = c.args.c in
    c.set.ensures ∙ ap (λ automaton. record { to = moves_of automaton h.a h.b; verdicts = automaton.verdicts }) c.of.ensures

pub returns : goal.returns
returns c =
    let query = c.args.query in
    let h = c.args.c in
    let traces = traces_in query.kept in
    record {
      fulfilled = omega (arith, c.over-all.ensures.fulfilled, replay_counts query.measure.activities h query.few_activities c.requires.over traces query.declared);
      counted = ap (λ k. k + 1) c.from.ensures;
      read = c.over-all.ensures.read ∙ ap (λ traces. c.args.events_read + total traces) (read_of_some h traces);
    }

use Rattle.std.proofs.Common.{refl, ◌∙◌, arith}
use Rattle.declare.proofs.constraints.Members.{few_numbers}
use Rattle.replay.proofs.Querying.{measured}
use Rattle.discovery.proofs.list.Passing.{fulfilments_few, activations_few, passes_one, considers_kept}
use Rattle.discovery.proofs.list.consider.Goals as goal

pub overflow_cast-counts : goal.overflow_cast-counts
overflow_cast-counts c = omega (arith, c.replay-replayed.ensures.fulfilled, fulfilments_few c.args.query c.args.c)

pub overflow_cast-counts-2 : goal.overflow_cast-counts-2
overflow_cast-counts-2 c = omega (arith, c.activated.ensures, c.requires.counted, activations_few c.args.query c.args.c)

pub overflow_cast-result : goal.overflow_cast-result
overflow_cast-result c =
    let query = c.args.query in
    omega (arith, passes_one c.enter.ensures, few_numbers query.measure.activities c.args.tally.listed query.few_activities c.requires.tally_fits.listed)

pub overflow_cast-result-2 : goal.overflow_cast-result-2
overflow_cast-result-2 c =
    let query = c.args.query in
    let few = few_numbers query.measure.activities c.args.tally.replayed query.few_activities c.requires.tally_fits.replayed in
    omega (arith, c.replay-replayed.ensures.counted, few)

pub returns : goal.returns
returns c = considers_kept c.replay-replayed.ensures c.requires.replayable.survived (c.activated.ensures ∙ c.requires.counted) (rw (measured c.args.query) at c.enter.ensures) refl refl

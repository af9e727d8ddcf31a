use Rattle.std.proofs.Common.{◌≡◌, ◌∙◌, min, ap, arith}
use Rattle.declare.specs.Traces.{most_activities}
use Rattle.std.specs.List.{filter}
use Rattle.declare.specs.Constraints.{constraints}
use Rattle.pruning.specs.Walk.{keeps, left}
use Rattle.replay.proofs.Querying.{kept_asked, activated_asked}
use Rattle.discovery.proofs.list.Passing.{events_few, passing_few, passing_fits, passing_over, passing_survives, passing_next, passing_done, considers_none}
use Rattle.discovery.proofs.list.pass.Goals as goal

pub loop-c-init : goal.loop-c-init
loop-c-init c =
    let query = c.args.query in
    let all : min query.measure.activities most_activities ≡ query.measure.activities = omega (arith, query.few_activities) in
    record {
      so_far = considers_none;
      all =
          ap left c.into_iter-c-iterator.ensures.into_iter_gives ∙ c.over-c-items.ensures
          ∙ ap (λ n. filter (keeps c.count.new.self) (constraints n)) all
          ∙ kept_asked query c.none-pairs.result c.count.ensures c.words.ensures;
    }

pub consider-tally-requires-clause-replayable : goal.consider-tally-requires-clause-replayable
consider-tally-requires-clause-replayable c =
    let query = c.args.query in
    let passing = c.loop-c.invariant in
    let first = (c.in-Some.ensures {u = tt}).steps in
    record {
      over = passing_over passing first;
      survived = passing_survives passing first;
      fits = passing_fits passing (events_few query) query.few_activities;
    }

pub consider-tally-requires-clause-counted : goal.consider-tally-requires-clause-counted
consider-tally-requires-clause-counted c =
    activated_asked c.args.query c.none-pairs.result c.count.ensures c.words.ensures _
    (passing_over c.loop-c.invariant (c.in-Some.ensures {u = tt}).steps)

pub consider-tally-requires-clause-tally_fits : goal.consider-tally-requires-clause-tally_fits
consider-tally-requires-clause-tally_fits c = passing_few c.loop-c.invariant (events_few c.args.query)

pub loop-c-preserved : goal.loop-c-preserved
loop-c-preserved c = passing_next c.loop-c.invariant (c.in-Some.ensures {u = tt}).steps c.consider-tally.ensures

pub returns : goal.returns
returns c = passing_done c.loop-c.invariant (c.in-None.ensures {u = tt}).steps.0

use Rattle.std.proofs.Common.{arith}
use Rattle.replay.proofs.Reading.{front_passed, next_block, passed_more, passed_all, as_many_words}
use Rattle.replay.proofs.replaying.Replaying.over.Goals as goal

pub loop-from-init : goal.loop-from-init
loop-from-init c = front_passed c.over_front-place.ensures

pub over_block-all-requires : goal.over_block-all-requires
over_block-all-requires c =
    let words = as_many_words c.args.query in
    next_block c.requires c.loop-from.invariant c.min-to.result
    (omega (arith, c.min-to.ensures, c.loop-from-test.true)) (omega (arith, c.min-to.ensures)) (omega (arith, c.min-to.ensures, words))

pub loop-from-smaller : goal.loop-from-smaller
loop-from-smaller c = omega (arith, c.min-to.ensures, c.loop-from-test.true)

pub loop-from-preserved : goal.loop-from-preserved
loop-from-preserved c =
    let words = as_many_words c.args.query in
    passed_more c.requires c.loop-from.invariant
    (omega (arith, c.min-to.ensures, c.loop-from-test.true)) (omega (arith, c.min-to.ensures, words)) c.over_block-all.ensures

pub returns : goal.returns
returns c =
    passed_all c.requires c.loop-from.invariant (omega (arith, c.loop-from-test.false, as_many_words c.args.query))

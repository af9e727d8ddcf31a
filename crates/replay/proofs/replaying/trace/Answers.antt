-- The part lies in the events, and is the trace that the ends cut off.
use Rattle.std.proofs.Common.{sym, ap, ◌∙◌, ◌≤◌, get_or, arith}
use Rattle.std.proofs.Math.Seq.{slice}
use Rattle.base.proofs.Lists.{part_slice}
use Rattle.eventlog.proofs.Parts.{cut_at, starts_low, ends_low}
use Rattle.replay.proofs.replaying.trace.Goals as goal

pub slice_bounds-result-count : goal.slice_bounds-result-count
slice_bounds-result-count c =
    let kept = c.args.kept in
    omega (arith, c.end_before-from.ensures, starts_low 0 kept.ends.now c.args.k kept.rise c.requires)

pub slice_bounds-result-start : goal.slice_bounds-result-start
slice_bounds-result-start c =
    let kept = c.args.kept in
    omega (arith, c.end_before-from.ensures, starts_low 0 kept.ends.now c.args.k kept.rise c.requires, ends_low 0 kept.ends.now c.args.k kept.rise c.requires, kept.fit)

pub slice_bounds-result-end : goal.slice_bounds-result-end
slice_bounds-result-end c =
    let kept = c.args.kept in
    omega (arith, c.end_before-from.ensures, starts_low 0 kept.ends.now c.args.k kept.rise c.requires, ends_low 0 kept.ends.now c.args.k kept.rise c.requires, kept.fit)

pub returns : goal.returns
returns c =
    let kept = c.args.kept in
    let events = kept.events.now in
    let end = get_or kept.ends.now c.args.k 0 in
    let from = c.end_before-from.result in
    let low : from ≤ end = omega (arith, c.end_before-from.ensures, starts_low 0 kept.ends.now c.args.k kept.rise c.requires) in
    part_slice from end events low
    ∙ ap (λ from. slice from end events) c.end_before-from.ensures
    ∙ sym (cut_at 0 kept.ends.now events c.args.k c.requires)

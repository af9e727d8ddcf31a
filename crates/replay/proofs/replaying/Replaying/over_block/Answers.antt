-- What stands at the places selected is what is read of the block.
use Rattle.std.proofs.Common.{sym, ap, subst, ◌∙◌, arith}
use Rattle.std.specs.List.{list_all}
use Rattle.pruning.specs.Question.{reads}
use Rattle.eventlog.proofs.Counting.{few_traces}
use Rattle.replay.specs.Blocks.{block_of, Countable, ReplaysAll}
use Rattle.replay.proofs.Selecting.{all_filtered}
use Rattle.replay.proofs.Reading.{places_read, read_countable}
use Rattle.replay.proofs.replaying.Replaying.over_block.Goals as goal

pub offset_bounds-query-from : goal.offset_bounds-query-from
offset_bounds-query-from c = omega (arith, c.requires.starts, c.requires.within, few_traces c.args.query.kept)

pub over_places-requires-clause-read : goal.over_places-requires-clause-read
over_places-requires-clause-read c =
    let h = c.args.self.constraint in
    ap (list_all (reads h)) (places_read c.requires c.args.self.tested c.select-n.ensures)
    ∙ all_filtered (reads h) (block_of c.args.query c.args.from c.args.to)

pub over_places-requires-clause-countable : goal.over_places-requires-clause-countable
over_places-requires-clause-countable c =
    subst (Countable c.args.before) (sym (places_read c.requires c.args.self.tested c.select-n.ensures)) (read_countable c.requires)

pub returns : goal.returns
returns c =
    subst (λ traces. ReplaysAll c.args.self.constraint traces c.args.before c.over_places.result)
    (places_read c.requires c.args.self.tested c.select-n.ensures) c.over_places.ensures

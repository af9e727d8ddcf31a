use Rattle.std.proofs.Common.{ap, ◌∙◌}
use Rattle.std.specs.List.{filter}
use Rattle.declare.specs.Constraints.{constraints}
use Rattle.pruning.specs.Walk.{keeps}
use Rattle.pruning.proofs.Walking.{from_the_first}
use Rattle.pruning.proofs.walk.Walk.over.Goals as goal

pub returns : goal.returns
returns c =
    c.stand.ensures.all
    ∙ ap (filter (keeps c.args.pairs.now)) (from_the_first c.min.result ∙ ap constraints c.min.ensures)

-- A step that is taken, from what the answer was.
use Rattle.watcher.proofs.Stepping.{steps_taken}
use Rattle.watcher.proofs.step.Goals as goal

pub returns : goal.returns
returns c = steps_taken c.in_ok-step_answer.ensures c.turns.ensures

-- In any memory the record is what open leaves of the one there was.
use mathlib.Core.Path.{refl}
use Rattle.history.proofs.open.Goals as goal

pub returns : goal.returns
returns c = λ m. (_, c.open.ensures m.store, refl, refl)

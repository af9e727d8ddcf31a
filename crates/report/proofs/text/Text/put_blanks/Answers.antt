-- The field is filled in its part of the slice.
use native.Mathlib.Omega.{arith}
use mathlib.Core.Path.{refl}
use lib.ListN.{replicate, length-replicate}
use Rattle.fields.specs.Field.{blank}
use Rattle.report.proofs.Puts.{part_added}
use Rattle.report.proofs.text.Text.put_blanks.Goals as goal

pub returns : goal.returns
returns c = part_added c.args.self.now (λ w. replicate w blank) (λ w. length-replicate w blank) c.args.width (omega arith) c.put_blanks.ensures refl refl

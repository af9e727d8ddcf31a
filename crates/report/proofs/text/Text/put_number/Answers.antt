-- The field is filled in its part of the slice.
use native.Mathlib.Omega.{arith}
use mathlib.Core.Path.{refl}
use Rattle.fields.specs.Field.{spell}
use Rattle.fields.proofs.Fields.{length_spell}
use Rattle.report.proofs.Puts.{part_added}
use Rattle.report.proofs.text.Text.put_number.Goals as goal

pub returns : goal.returns
returns c = part_added c.args.self.now (λ w. spell w c.args.n) (λ w. length_spell w c.args.n) c.args.width (omega arith) c.put_field.ensures refl refl

-- Before a column is stored, the columns that are left are all of them: the number as it is spelled.
use Rattle.std.proofs.Common.{append-nil}
use Rattle.std.proofs.Math.Seq.{drop-length}
use Rattle.fields.proofs.Columns.{columns_spell}
use Rattle.fields.proofs.put_field.Goals as goal

pub loop-i-init : goal.loop-i-init
loop-i-init c = simp (drop-length, append-nil) (columns_spell _ _)

-- The loop's invariant: the columns that are left, before those stored, are those of the whole field.
use Rattle.std.proofs.Common.{length, ◌≡◌, ◌++◌, drop}
use Rattle.fields.specs.Columns.{columns}
use Rattle.fields.specs.Field.{spell}
use Rattle.fields.proofs.put_field.Given as goal

abbrev pub invariant-loop-i : goal.invariant-loop-i
invariant-loop-i l = columns l.i l.byte l.rest ++ drop l.i l.field ≡ spell (length l.field) l.n

-- The loop's invariant: the columns so far, read one after the other.
use Rattle.std.proofs.Common.{length, ◌≡◌, ◌≤◌, take}
use Rattle.fields.specs.Field.{widest}
use Rattle.fields.specs.Scan.{scanned}
use Rattle.fields.proofs.scan_columns.Given as goal

abbrev pub invariant-loop-byte : goal.invariant-loop-byte
invariant-loop-byte l = (length l.columns ≤ widest) × (l.scan ≡ scanned (take l.byte-index l.columns))

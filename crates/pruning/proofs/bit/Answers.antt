use Rattle.std.proofs.Common.{sym, ◌∙◌, ◌%◌, arith}
use Rattle.std.proofs.lemmas.Nat.{one_shl}
use Rattle.pruning.proofs.Masks.{single}
use Rattle.pruning.proofs.bit.Goals as goal

pub returns : goal.returns
returns c = one_shl (c.args.activity % 32) 32 (omega arith) ∙ sym (single (c.args.activity % 32) (omega arith))

use Rattle.std.proofs.Common.{sym, ◌∙◌, arith}
use borrow.Author.Tests.{lt-ltb, le-ltb}
use Rattle.std.proofs.lemmas.Nat.{one_shl}
use Rattle.declare.specs.Traces.{most_activities}
use Rattle.eventlog.proofs.WordBits.{word_alone}
use Rattle.eventlog.proofs.words.bit_of.Goals as goal

pub returns-then-from-lt-MOST_ACTIVITIES : goal.returns-then-from-lt-MOST_ACTIVITIES
returns-then-from-lt-MOST_ACTIVITIES c =
    one_shl c.args.activity 32 (omega arith) ∙ sym (word_alone c.args.activity ∙ rw (lt-ltb c.args.activity most_activities (omega arith)))

pub returns-else-from-lt-MOST_ACTIVITIES : goal.returns-else-from-lt-MOST_ACTIVITIES
returns-else-from-lt-MOST_ACTIVITIES c = sym (word_alone c.args.activity ∙ rw (le-ltb c.args.activity most_activities (omega arith)))

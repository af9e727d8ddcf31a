use Rattle.std.proofs.Common.{ℕ, Bool, refl, sym, ap, ◌∙◌, arith}
use Rattle.base.proofs.Lists.{count_at_most}
use Rattle.eventlog.specs.Words.{bit_of, with_bit}
use Rattle.eventlog.proofs.WordBits.{word_of_none}
use Rattle.pruning.specs.Question.{meets}
use Rattle.base.proofs.Stores.{filled_more}
use Rattle.pruning.specs.Masks.{counts_by, support_by}
use Rattle.pruning.proofs.Counted.{bit_more, no_bit_more}
use Rattle.pruning.proofs.pairs.companions.Goals.{then-meets, else-meets}
use Rattle.pruning.proofs.pairs.companions.Goals as goal

pub loop-b-init : goal.loop-b-init
loop-b-init c = record { counted = refl; frequent = sym word_of_none }

pub overflow_cast-counts : goal.overflow_cast-counts
overflow_cast-counts c =
    let words = c.args.words in
    omega (arith, c.support-count.ensures, count_at_most (counts_by c.args.class (bit_of c.args.a) (bit_of c.loop-b.b)) words.words.now, words.few)

pub loop-b-preserved : goal.loop-b-preserved
loop-b-preserved c =
    let counts = support_by c.args.class c.args.words.words.now c.args.a in
    let frequent : ℕ → Bool = λ b. meets c.args.measure (counts b) in
    let b = c.loop-b.b in
    let meets_it = sym (ap (meets c.args.measure) c.support-count.ensures) ∙ sym c.meets.ensures in
    record {
      counted =
          rw (c.loop-b.invariant.counted, c.from.ensures, c.support-count.ensures)
          (filled_more counts b c.args.counts.now (omega (arith, c.told-counts, c.loop-b-test.true, c.min-b-end.ensures)));
      frequent =
          elim c.if-meets.branch [
            | then-meets w ↦ w.frequent-is ∙ w.with_bit-frequent.ensures ∙ ap (λ word. with_bit word b) c.loop-b.invariant.frequent ∙ bit_more frequent b (meets_it ∙ w.if-meets.true)
            | else-meets w ↦ w.frequent-is ∙ c.loop-b.invariant.frequent ∙ no_bit_more frequent b (meets_it ∙ w.if-meets.false)
          ];
    }

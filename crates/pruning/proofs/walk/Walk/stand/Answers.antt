use Rattle.std.proofs.Common.{◌≡◌, ◌<◌, ℕ, ◌+◌, ◌%◌, bit_and, refl, ap, ap₂, ◌∙◌, arith}
use mathlib.Core.Bool.{◌&&◌}
use lib.Dec.{ltb}
use Rattle.declare.specs.Traces.{most_activities}
use Rattle.declare.specs.Constraints.{constraint, pairs}
use Rattle.eventlog.specs.Words.{has}
use Rattle.pruning.specs.declared.pairs.PairSupport.{PairSupport}
use Rattle.pruning.specs.declared.Class.{Class}
use Rattle.pruning.specs.Question.{class_of}
use Rattle.pruning.specs.Masks.{Partners, beside_in}
use Rattle.pruning.specs.Walk.{keeps, from_template}
use Rattle.pruning.proofs.Walking.{has_and, kept_from_a}
use Rattle.pruning.proofs.walk.Walk.stand.Goals as goal

-- the bits are those of what the pairs keep
kept_bits :
    (s : PairSupport) (class : Class) (n template a beside partners : ℕ) → class ≡ class_of template → beside ≡ beside_in s class a →
    Partners n template a partners → (b : ℕ) → b < most_activities →
    has b (bit_and beside partners) ≡ keeps s (constraint template a b) && (ltb b n && pairs template a b)
kept_bits s class n template a beside partners of_template made taken b low =
    let same : b ≡ b % 32 = omega arith in
    has_and b beside partners
    ∙ ap₂ (λ p q. p && q) (ap₂ has same (made ∙ ap (λ class. beside_in s class a) of_template)) (taken b low)

pub returns : goal.returns
returns c =
    let w = c.args.self.now in
    record {
      all =
          kept_from_a (keeps w.pairs.now) w.activities w.template w.a (bit_and c.beside.result c.partners.result) w.few w.a_declared
          (kept_bits w.pairs.now c.of-class.result w.activities w.template w.a c.beside.result c.partners.result c.of-class.ensures c.beside.ensures c.partners.ensures) (from_template w.activities (w.template + 1));
      template = refl;
      a = refl;
    }

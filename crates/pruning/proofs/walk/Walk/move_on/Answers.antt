use Rattle.std.proofs.Common.{◌≡◌, ◌<◌, ◌++◌, ◌+◌, refl, sym, ◌∙◌, arith}
use Rattle.std.specs.List.{filter}
use Rattle.base.proofs.Bools.{clash}
use Rattle.pruning.specs.declared.walk.Walk.{Walk}
use Rattle.pruning.specs.Walk.{keeps, behind, from_a, from_template, places_left}
use Rattle.pruning.proofs.Walking.{kept_from_template}
use Rattle.pruning.proofs.walk.Walk.move_on.Goals as goal
use Rattle.pruning.proofs.walk.Walk.move_on.Goals.{then-self, else-self+then-self-lt24}

-- where it stands next
record Next (w s : Walk) : Type 0 where
  all : behind w ≡ filter (keeps s.pairs.now) (from_a s.activities s.template s.a ++ from_template s.activities (s.template + 1))
  falls : places_left s < places_left w

next : (c : goal.After-stand) → Next c.args.self.now c.if-self.self
next c =
    let w = c.args.self.now in
    elim c.if-self.branch [
      | then-self b ↦ rw b.self-is (record { all = refl; falls = omega (arith, w.a_declared) })
      | else-self+then-self-lt24 b ↦ rw b.self-is (record { all = kept_from_template (keeps w.pairs.now) w.activities w.template w.a b.if-self.false b.if-self-lt24.true; falls = omega (arith, w.a_declared, w.few, b.if-self-lt24.true) })
    ]

pub returns : goal.returns
returns c =
    record {
      all = λ moved. (next c).all ∙ sym c.stand.ensures.all;
      falls = λ moved. omega (arith, (next c).falls, c.stand.ensures.template, c.stand.ensures.a);
      ended = λ ended. clash refl ended;
    }

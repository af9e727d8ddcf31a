use Rattle.std.proofs.Common.{◌≡◌, ◌<◌, ◌-◌, ◌%◌, ◌^◌, ℕ, ◌∷◌, ◌++◌, length, map, bit_and, sym, ap, ◌∙◌, rules, arith}
use Rattle.std.specs.Int.{w32, trailing_zeros}
use Rattle.std.proofs.lemmas.Nat.Bits.{bit_at-trailing_zeros}
use Rattle.declare.specs.Constraints.{constraint}
use Rattle.eventlog.specs.Words.{bit_of}
use Rattle.pruning.specs.declared.walk.Walk.{Walk}
use Rattle.pruning.specs.Walk.{activities_in, behind, left}
use Rattle.pruning.proofs.Masks.{single}
use Rattle.pruning.proofs.Walking.{none_in, lowest_in}
use Rattle.pruning.proofs.walk.WalkIterator.next.Goals as goal

-- nothing is left beside an a whose word has no bit
none_beside : (w : Walk) → w.rest ≡ 0 → left w ≡ behind w
none_beside w none = ap (λ word. map (constraint w.template w.a) (activities_in word) ++ behind w) none ∙ ap (λ bs. map (constraint w.template w.a) bs ++ behind w) none_in

pub loop-self-preserved : goal.loop-self-preserved
loop-self-preserved c = c.loop-self.invariant ∙ none_beside c.loop-self.self c.loop-self-test.true ∙ c.move_on.ensures.all c.if-not-move_on.false

pub returns-then-not-move_on-clause-steps : goal.returns-then-not-move_on-clause-steps
returns-then-not-move_on-clause-steps c =
    let w = c.loop-self.self in
    let ended = c.move_on.ensures.ended c.if-not-move_on.true in
    let none = none_beside w c.loop-self-test.true ∙ ended.0 in
    (c.loop-self.invariant ∙ none, ap left ended.1 ∙ none)

-- the lowest bit's constraint is given, and the others are left
first_left :
    (w : Walk) (bit : ℕ) → (w.rest ≡ 0 → ⊥) → w.rest < 4294967296 → bit ≡ bit_of (trailing_zeros w32 w.rest % 32) →
    left w
    ≡ constraint w.template w.a (trailing_zeros w32 w.rest)
    ∷ (map (constraint w.template w.a) (activities_in (bit_and w.rest (4294967295 - bit))) ++ behind w)
first_left w bit some fits made =
    let k = trailing_zeros w32 w.rest in
    let lowest = lowest_in w.rest (omega (arith, some)) fits in
    let low : k < 32 = (bit_at-trailing_zeros w32 w.rest (omega (arith, some)) fits).0 in
    let same : k % 32 ≡ k = omega arith in
    let is : 2 ^ k ≡ bit = sym (made ∙ ap bit_of same ∙ single k low) in
    ap (λ bs. map (constraint w.template w.a) bs ++ behind w) lowest
    ∙ ap (λ bit. constraint w.template w.a k ∷ (map (constraint w.template w.a) (activities_in (bit_and w.rest (4294967295 - bit))) ++ behind w)) is

pub returns-clause-steps : goal.returns-clause-steps
returns-clause-steps c =
    let w = c.loop-self.self in
    c.loop-self.invariant ∙ first_left w c.bit.result c.loop-self-test.false (omega arith) c.bit.ensures

pub returns-clause-goes : goal.returns-clause-goes
returns-clause-goes c =
    let w = c.loop-self.self in
    let e = c.loop-self.invariant ∙ first_left w c.bit.result c.loop-self-test.false (omega arith) c.bit.ensures in search (rules, ap length e)

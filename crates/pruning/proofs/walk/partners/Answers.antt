use Rattle.std.proofs.Common.{ap, ap₂, ◌∙◌, ◌≡◌, ◌^◌, ◌<◌, ◌≤◌, ◌-◌, ◌*◌, ◌%◌, ℕ, arith, bit_and, bit_or}
use mathlib.Core.Bool.{Bool, not, ◌&&◌}
use borrow.Author.Tests.{le-leb, lt-leb}
use lib.Dec.{eqb, ltb}
use Rattle.std.proofs.lemmas.Nat.{pow_pos}
use Rattle.declare.specs.Traces.{most_activities}
use Rattle.eventlog.specs.Words.{has, bit_of}
use Rattle.pruning.proofs.Masks.{single}
use Rattle.pruning.proofs.Walking.{declared_bits, other_bits, upper_bits, has_and, has_power}
use Rattle.pruning.proofs.walk.partners.Goals as goal

own : {a bit : ℕ} → a < most_activities → bit ≡ bit_of (a % 32) → bit ≡ 2 ^ a
own {a} low made = let same : a % 32 ≡ a = omega arith in made ∙ ap bit_of same ∙ single a low

pub overflow_sub-result : goal.overflow_sub-result
overflow_sub-result c = omega (arith, own c.requires.a_few c.bit-own.ensures, pow_pos c.args.a)

-- those declared of a mask's
module _ (n b mask : ℕ) (taken : Bool) (few : n ≤ 32) (low : b < 32) where
  declared_of : has b mask ≡ taken → has b (bit_and (1 * 2 ^ n % 18446744073709551616 - 1) mask) ≡ ltb b n && taken
  declared_of is = has_and b _ mask ∙ ap₂ (λ p q. p && q) (declared_bits n 0 b few (omega arith) low) is

pub returns-in-0-to-8 : goal.returns-in-0-to-8
returns-in-0-to-8 c b low =
    rw (le-leb c.args.template 8 (omega arith))
    (declared_of c.args.activities b _ (eqb c.args.a b) c.requires.few low (ap (has b) (own c.requires.a_few c.bit-own.ensures) ∙ has_power c.args.a b))

pub returns-in-9-to-12 : goal.returns-in-9-to-12
returns-in-9-to-12 c b low =
    rw (lt-leb c.args.template 8 (omega arith), le-leb c.args.template 12 (omega arith))
    (declared_of c.args.activities b _ (ltb c.args.a b) c.requires.few low
    (ap (λ own. has b (4294967295 - bit_or own (own - 1))) (own c.requires.a_few c.bit-own.ensures)
    ∙ upper_bits 0 c.args.a b (omega arith) c.requires.a_few low))

pub returns-in_default : goal.returns-in_default
returns-in_default c b low =
    rw (lt-leb c.args.template 8 (omega arith), lt-leb c.args.template 12 (omega arith))
    (declared_of c.args.activities b _ (not (eqb c.args.a b)) c.requires.few low
    (ap (λ own. has b (4294967295 - own)) (own c.requires.a_few c.bit-own.ensures) ∙ other_bits 0 c.args.a b (omega arith) c.requires.a_few low))

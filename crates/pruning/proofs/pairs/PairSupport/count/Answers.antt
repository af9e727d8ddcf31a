use Rattle.std.proofs.Common.{◌≡◌, ◌<◌, ◌+◌, ◌%◌, ℕ, List, [], length, get_or, set, min, sym, ap, ◌∙◌, arith}
use Rattle.base.proofs.Stores.{filled, filled_more, filled_next, filled_at}
use Rattle.declare.specs.Traces.{most_activities}
use Rattle.pruning.specs.declared.Class.TheVariants.{Either, Both}
use Rattle.pruning.specs.declared.Measure.{Measure}
use Rattle.pruning.specs.Question.{meets}
use Rattle.pruning.specs.Masks.{support_by, companions_by, with_either_beside, companions_of_all, with_either_of_all}
use Rattle.pruning.proofs.Counted.{none_beside}
use Rattle.pruning.proofs.pairs.PairSupport.count.Goals.{then-meets, else-meets}
use Rattle.pruning.proofs.pairs.PairSupport.count.Goals as goal

-- one more in its place
more :
    {A : Type 0} (f : ℕ → A) (a i : ℕ) (now there : List A) (new : A) → now ≡ filled f a there → a < length there → i ≡ a → new ≡ f a →
    set now i new ≡ filled f (a + 1) there
more f a i now there new so_far within at made = rw (so_far, at, made) (filled_more f a there within)

done : {A : Type 0} (f : ℕ → A) (a : ℕ) {n : ℕ} (now there : List A) → now ≡ filled f a there → a ≡ n → now ≡ filled f n there
done f a now there so_far all = so_far ∙ ap (λ a. filled f a there) all

-- beside an activity, how many traces have it
itself :
    (m : Measure) (words : List ℕ) (a : ℕ) (now there : List (List ℕ)) → now ≡ filled (with_either_beside m words there) (a + 1) there →
    a < min m.activities most_activities → get_or (get_or now (a % 32) []) (a % 32) 0 ≡ support_by Either words a a
itself m words a now there counted within =
    let same : a % 32 ≡ a = omega arith in
    rw (same, counted, filled_at (with_either_beside m words there) (a + 1) there [] a (omega arith))
    (filled_at (support_by Either words a) (min m.activities most_activities) (get_or there a []) 0 a within)

pub loop-a-preserved : goal.loop-a-preserved
loop-a-preserved c =
    let m = c.args.measure in
    let words = c.args.words.words.now in
    let there = c.args.self.now in
    let at = c.loop-a in
    let declared : at.a < min m.activities most_activities = omega (arith, c.loop-a-test.true, c.min-a-end.ensures) in
    let within : at.a < 32 = omega (arith, declared) in
    let beside : get_or at.self.with_either c.from-place.result [] ≡ get_or there.with_either at.a [] =
    rw (c.from-place.ensures, at.invariant.with_either) (filled_next (with_either_beside m words there.with_either) at.a there.with_either [] (omega (arith, within))) in
    let counted = more (with_either_beside m words there.with_either) at.a _ at.self.with_either there.with_either _ at.invariant.with_either (omega (arith, within)) c.from-place.ensures
    (c.companions.ensures.counted ∙ ap (filled (support_by Either words at.a) (min m.activities most_activities)) beside) in
    let alone = ap (meets m) (sym (itself m words at.a _ there.with_either counted declared) ∙ sym c.with_either.ensures) ∙ sym c.meets.ensures in
    record {
      with_either = counted;
      either = more (companions_by Either m words) at.a _ at.self.either there.either _ at.invariant.either (omega (arith, within)) c.from-place.ensures c.companions.ensures.frequent;
      both =
          more (companions_by Both m words) at.a _ at.self.both there.both _ at.invariant.both (omega (arith, within)) c.from-place.ensures
          (elim c.if-meets.branch [
            | then-meets w ↦ w.self-is ∙ w.companions-then-meets.ensures.frequent
            | else-meets w ↦ w.self-is ∙ none_beside m words at.a within (alone ∙ w.if-meets.false)
          ]);
    }

pub returns : goal.returns
unfolding companions_of_all with_either_of_all
returns c =
    let m = c.args.measure in
    let words = c.args.words.words.now in
    let there = c.args.self.now in
    let at = c.loop-a in
    let all : at.a ≡ min m.activities most_activities = omega (arith, c.loop-a-test.false, at.auto.a-end, c.min-a-end.ensures) in
    λ i.
    record {
      with_either = done (with_either_beside m words there.with_either) at.a at.self.with_either there.with_either at.invariant.with_either all i;
      either = done (companions_by Either m words) at.a at.self.either there.either at.invariant.either all i;
      both = done (companions_by Both m words) at.a at.self.both there.both at.invariant.both all i;
    }

-- A query's words tell what its question asks of traces.
-- Assumes nothing.
use mathlib.Core.Path.{◌≡◌, refl, ap, ap₂, ◌∙◌}
use mathlib.Core.List.{List, map}
use Prim.Native.Nat.{ℕ}
use mathlib.Core.Bool.{true}
use Rattle.std.specs.List.{filter, list_all}
use Rattle.base.proofs.Lists.{filter_same}
use Rattle.declare.specs.Traces.{most_activities, all_below}
use Rattle.declare.proofs.Occurrence.{all_below_more}
use Rattle.eventlog.specs.SoundStore.{traces_in}
use Rattle.eventlog.specs.Words.{word_of}
use Rattle.pruning.specs.Question.{measure_of, activations, survives}
use Rattle.pruning.specs.declared.pairs.PairSupport.{PairSupport}
use Rattle.pruning.specs.Masks.{counted_by, activated_by}
use Rattle.pruning.specs.Walk.{keeps}
use Rattle.declare.specs.declared.constraints.Constraint.{Constraint}
use Rattle.declare.specs.Constraints.{constraints, Over}
use Rattle.declare.proofs.constraints.Members.{constraints_over}
use Rattle.pruning.proofs.Counted.{survives_counted, activations_counted}
use Rattle.replay.specs.declared.query.Query.{Query}
use Rattle.replay.specs.Query.{asked_by}

-- a query's measure is that of its question
pub measured : (query : Query) → query.measure ≡ measure_of (asked_by query)
measured query = ap (λ (n : ℕ). record { activities = query.measure.activities; settings = query.measure.settings; traces = n }) query.counted

module _ {pairs : PairSupport} {words : List ℕ} (query : Query) (there : PairSupport) (same : pairs ≡ counted_by query.measure words there)
    (of_words : words ≡ map word_of (traces_in query.kept)) where
  abbrev n : ℕ
  n = query.measure.activities

  declared : list_all (all_below most_activities) (traces_in query.kept) ≡ true
  declared = all_below_more n most_activities query.few_activities (traces_in query.kept) query.declared

  counted : pairs ≡ counted_by (measure_of (asked_by query)) (map word_of (traces_in query.kept)) there
  counted = same ∙ (λ i. counted_by (measured query i) (of_words i) there)

  -- what pairs keep of the constraints by their support is what the question does
  pub kept_asked : filter (keeps pairs) (constraints n) ≡ filter (survives (asked_by query)) (constraints n)
  kept_asked =
      ap (λ pairs. filter (keeps pairs) (constraints n)) counted
      ∙ filter_same (keeps (counted_by (measure_of (asked_by query)) (map word_of (traces_in query.kept)) there)) (survives (asked_by query)) (constraints n)
      (λ c over.
      survives_counted (traces_in query.kept) declared n query.few_activities query.measure.settings c (constraints_over n c over) there refl)

  -- and they tell in how many traces a constraint is activated
  pub activated_asked : (c : Constraint) → Over n c → activated_by pairs query.measure.traces c ≡ activations (asked_by query).traces c
  activated_asked c over =
      ap₂ (λ pairs traces. activated_by pairs traces c) counted query.counted
      ∙ activations_counted (traces_in query.kept) declared n query.few_activities query.measure.settings c over there

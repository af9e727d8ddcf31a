use Rattle.std.proofs.Common.{ap, ◌∙◌, ◌≡◌, List, ℕ, true}
use Rattle.std.specs.List.{list_all}
use Rattle.declare.specs.Traces.{most_activities, all_below}
use Rattle.declare.proofs.Occurrence.{all_below_more}
use Rattle.eventlog.specs.Store.{kept}
use Rattle.eventlog.specs.SoundStore.{memory_of, traces_in}
use Rattle.eventlog.specs.declared.sound_store.SoundStore.{SoundStore}
use Rattle.eventlog.proofs.Laws.{sound_facts, kept_declared}
use Rattle.pruning.specs.Masks.{traces_by}
use Rattle.pruning.proofs.Masks.{traces_counted}
use Rattle.replay.proofs.query.Query.new.Goals as goal

pub invariant_of-result-clause-few_activities : goal.invariant_of-result-clause-few_activities
invariant_of-result-clause-few_activities c = (sound_facts _ c.args.sound.is_sound).few_activities

module _ (sound : SoundStore) {now : List (List ℕ)} (same : now ≡ kept (memory_of sound)) where
  declared : list_all (all_below sound.store.activities) now ≡ true
  declared = ap (list_all (all_below sound.store.activities)) same ∙ kept_declared _ sound.is_sound

pub invariant_of-result-clause-declared : goal.invariant_of-result-clause-declared
invariant_of-result-clause-declared c = declared c.args.sound c.kept-kept.ensures

pub invariant_of-result-clause-counted : goal.invariant_of-result-clause-counted
invariant_of-result-clause-counted c =
    let n = c.args.sound.store.activities in
    let few = (sound_facts _ c.args.sound.is_sound).few_activities in
    let traces = traces_in c.kept-kept.result in
    c.trace_count.ensures ∙ ap traces_by c.words.ensures
    ∙ traces_counted traces (all_below_more n most_activities few traces (declared c.args.sound c.kept-kept.ensures))

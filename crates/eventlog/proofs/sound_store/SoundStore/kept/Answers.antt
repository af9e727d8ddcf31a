use Rattle.std.proofs.Common.{refl, sym, arith}
use lib.Seq.{length-take-le}
use Rattle.eventlog.specs.Store.{kept, last_end}
use Rattle.eventlog.proofs.Laws.{sound_facts}
use Rattle.eventlog.proofs.sound_store.SoundStore.kept.Goals as goal

pub slice_bounds-result-end : goal.slice_bounds-result-end
slice_bounds-result-end c = sym (length-take-le _ _ (sound_facts _ c.args.self.is_sound).has_ends)

pub slice_bounds-result-end-2 : goal.slice_bounds-result-end-2
slice_bounds-result-end-2 c = sym (length-take-le _ _ (sound_facts _ c.args.self.is_sound).has_words)

pub invariant_of-result-clause-rise : goal.invariant_of-result-clause-rise
invariant_of-result-clause-rise c = (sound_facts _ c.args.self.is_sound).rises

pub invariant_of-result-clause-fit : goal.invariant_of-result-clause-fit
unfolding last_end
invariant_of-result-clause-fit c = (sound_facts _ c.args.self.is_sound).fits

pub invariant_of-result-clause-few : goal.invariant_of-result-clause-few
invariant_of-result-clause-few c =
    let s = sound_facts _ c.args.self.is_sound in omega (arith, length-take-le c.args.self.store.traces c.args.self.ends.now s.has_ends, s.few_traces)

pub invariant_of-result-clause-of_traces : goal.invariant_of-result-clause-of_traces
unfolding kept
invariant_of-result-clause-of_traces c = (sound_facts _ c.args.self.is_sound).right_words

pub returns : goal.returns
unfolding kept
returns c = refl

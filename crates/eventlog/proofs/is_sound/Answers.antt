use Rattle.std.proofs.Common.{rules, tests, sym, ◌∙◌}
use Rattle.std.proofs.lemmas.Iterator.{YieldsList-from_slice, YieldsList-from_zip}
use Rattle.std.proofs.lemmas.Iterator.Consumers.{YieldsList-from_first}
use Rattle.std.proofs.lemmas.Iterator.Search.{all_from_yields_List}
use Rattle.eventlog.specs.Store.{lent, kept, last_end}
use Rattle.eventlog.proofs.Laws.{kept_words}
use Rattle.eventlog.proofs.Soundness.{right_low_pair, low_are_right, sound_by_traces}
use Rattle.eventlog.proofs.is_sound.Goals as goal

pub returns : goal.returns
unfolding kept last_end
returns c =
    let m = lent c.args.store c.args.events.now c.args.ends.now c.args.words.now in
    let traces = YieldsList-from_first (λ t. t.now) (λ traces. traces) (kept m) (c.zip.ensures.first ∙ c.cut.ensures) in
    let words = YieldsList-from_slice {s = c.zip.result.b} (kept_words m) (search rules) in
    all_from_yields_List (right_low_pair m.store.activities) c.all.new.self _ c.all.result c.all.ensures.ran (YieldsList-from_zip traces words)
    (λ pair passes f called. search (rules, tests))
    ∙ low_are_right m.store.activities (sym c.declarable.ensures ∙ c.if-not-declarable.false) _
    ∙ sound_by_traces m (sym c.declarable.ensures ∙ c.if-not-declarable.false) c.if-store-gt-MOST_TRACES.false c.if-ends-traces.false
    c.if-words-traces.false (sym c.ends_rise.ensures ∙ c.if-not-ends_rise.false) (rw c.last_end.ensures at c.if-events-last_end.false)

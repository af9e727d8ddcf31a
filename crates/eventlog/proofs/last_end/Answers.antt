use Rattle.std.proofs.Common.{ap, ◌∙◌, take, length, ◌-◌}
use Rattle.std.specs.Prelude.{unwrap_or}
use Rattle.std.proofs.lemmas.List.{take_min}
use Rattle.std.proofs.lemmas.Option.{unwrap_or-slice_get}
use Rattle.eventlog.specs.Store.{last_from}
use Rattle.eventlog.proofs.Walks.{last_read}
use Rattle.eventlog.proofs.last_end.Goals as goal

pub returns : goal.returns
returns c =
    let ends = c.args.ends.now in
    c.unwrap_or.ensures
    ∙ ap (λ o. unwrap_or o 0) (c.copied.ensures ∙ c.last.ensures.value)
    ∙ unwrap_or-slice_get (take c.min-kept.result ends) (length (take c.min-kept.result ends) - 1) 0
    ∙ last_read (take c.min-kept.result ends)
    ∙ ap (λ k. last_from 0 (take k ends)) c.min-kept.ensures
    ∙ ap (last_from 0) (take_min c.args.store.traces ends)

-- The list is that of the pass over the constraints, where every check passed.
use Rattle.std.proofs.Common.{ℕ, List, length, sym, ap, ap₂, subst, ◌∙◌, ◌≡◌, rules}
use Rattle.declare.specs.Constraints.{constraints}
use Rattle.std.proofs.lemmas.Result.{err_from_is_err_and}
use Rattle.answers.specs.Answers.{done_said}
use Rattle.eventlog.specs.Store.{lent}
use Rattle.eventlog.specs.SoundStore.{memory_of}
use Rattle.pruning.specs.declared.Measure.{Measure}
use Rattle.pruning.specs.Question.{question_over, asked, trace_count}
use Rattle.discovery.specs.Listing.{listed}
use Rattle.discovery.specs.Passes.{fit_of, Considers, none_yet}
use Rattle.discovery.proofs.FindContract.{settings_refused, finds_listed}
use Rattle.discovery.proofs.find.Goals as goal

pub returns-in_err-check : goal.returns-in_err-check
returns-in_err-check c =
    let m = lent c.args.store c.args.events.now c.args.ends.now c.args.words.now in
    let memory : memory_of c.in_ok-sound.sound ≡ m = search rules in
    let left = err_from_is_err_and c.from_residual-in_err-check.result c.from_residual-in_err-check.ensures.1 in
    rw (left.1, left.2)
    (settings_refused m c.args.settings c.args.list.now _ (rw memory at c.in_ok-sound.sound.is_sound)
    (ap done_said (sym (c.in_err-check.was {u = tt})) ∙ c.check.ensures))

pub returns : goal.returns
returns c =
    let m = lent c.args.store c.args.events.now c.args.ends.now c.args.words.now in
    let list = c.args.list.now in
    let memory : memory_of c.in_ok-sound.sound ≡ m = search rules in
    let made = c.new-query.ensures in
    let asks =
    ap₂ (λ (measure : Measure) (traces : List (List ℕ)). question_over measure.activities traces measure.settings) made.measure made.kept
    ∙ ap (λ m. asked m c.args.settings) memory in
    finds_listed m c.args.settings
    (rw memory at c.in_ok-sound.sound.is_sound)
    (ap done_said (sym (c.in_ok-check.was {u = tt})) ∙ c.check.ensures)
    (c.new-query.result.counted ∙ ap trace_count asks)
    c.if-query-eq0.false
    (ap (λ q. fit_of (length (listed q)) list) (sym asks) ∙ sym c.look.ensures.fit ∙ c.in_ok-look.was {u = tt})
    (subst (λ q. Considers q (constraints q.activities) none_yet list c.pass-tally.result c.pass-tally.new.list) asks
    (rw c.look.ensures.list_unchanged at c.pass-tally.ensures))

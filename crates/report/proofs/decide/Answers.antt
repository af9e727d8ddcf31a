-- Each way out is one of the checks before the log, or the answer to the log.
use Rattle.std.proofs.Common.{◌≡◌, ◌-◌, sym, ap, ◌∙◌, arith, length, drop, length-drop}
use Rattle.std.proofs.Math.Seq.{take_all}
use Rattle.std.proofs.lemmas.Result.{err_from_is_err_and}
use Rattle.answers.specs.declared.Reason.{Reason}
use Rattle.answers.specs.Answers.{done_said}
use Rattle.eventlog.specs.Calls.{empty}
use Rattle.report.proofs.Setting.{set_by}
use Rattle.report.proofs.Deciding.{open_accepted, too_long, malformed, undeclarable, refused_settings, goes_on}
use Rattle.report.proofs.decide.Goals as goal

pub returns-then-input-gt-MOST_INPUT : goal.returns-then-input-gt-MOST_INPUT
returns-then-input-gt-MOST_INPUT c = rw c.into.ensures (too_long _ _ c.if-input-gt-MOST_INPUT.true)

pub returns-in_err-activities : goal.returns-in_err-activities
returns-in_err-activities c =
    let none = c.in_err-activities.ensures.ok_part in
    let left = err_from_is_err_and c.from_residual.result c.from_residual.ensures.1 in
    let malformed_settings : left.0 ≡ record { reason = Reason.Malformed; detail = 0 } = cc (left.2, rw none at c.in_err-activities.ensures.value) in
    rw (left.1, malformed_settings) (malformed _ _ c.if-input-gt-MOST_INPUT.false (sym c.read_settings.ensures ∙ none))

pub returns-in_err-store : goal.returns-in_err-store
returns-in_err-store c =
    let line = set_by (sym c.read_settings.ensures ∙ c.in_ok-activities.ensures.ok_part) in
    let left = err_from_is_err_and c.from_residual-in_err-store.result c.from_residual-in_err-store.ensures.1 in
    rw (left.1, left.2) (undeclarable _ _ c.if-input-gt-MOST_INPUT.false _ _ line _ (c.in_err-store.ensures (empty 0)))

pub returns-in_err-check : goal.returns-in_err-check
returns-in_err-check c =
    let line = set_by (sym c.read_settings.ensures ∙ c.in_ok-activities.ensures.ok_part) in
    let fresh = open_accepted (c.in_ok-store.ensures (empty 0)) in
    let left = err_from_is_err_and c.from_residual-in_err-check.result c.from_residual-in_err-check.ensures.1 in
    rw (left.1, left.2)
    (refused_settings _ _ c.if-input-gt-MOST_INPUT.false _ _ line fresh.declared _ (ap done_said (sym (c.in_err-check.was {u = tt})) ∙ c.check.ensures))

pub slice_bounds-read_and_find-count : goal.slice_bounds-read_and_find-count
slice_bounds-read_and_find-count c = (set_by (sym c.read_settings.ensures ∙ c.in_ok-activities.ensures.ok_part)).long

pub slice_bounds-read_and_find-start : goal.slice_bounds-read_and_find-start
slice_bounds-read_and_find-start c = (set_by (sym c.read_settings.ensures ∙ c.in_ok-activities.ensures.ok_part)).long

pub read_and_find-requires : goal.read_and_find-requires
read_and_find-requires c =
    let fresh = open_accepted (c.in_ok-store.ensures (empty 0)) in
    (rw fresh.same fresh.declared, fresh.no_trace)

pub returns : goal.returns
returns c =
    let input = c.args.input.now in
    let line = set_by (sym c.read_settings.ensures ∙ c.in_ok-activities.ensures.ok_part) in
    let fresh = open_accepted (c.in_ok-store.ensures (empty 0)) in
    goes_on _ _ c.if-input-gt-MOST_INPUT.false _ _ line fresh.declared _ (ap done_said (sym (c.in_ok-check.was {u = tt})) ∙ c.check.ensures)
    (take_all (length input - 12) (drop 12 input) (omega (arith, length-drop 12 input)))
    (rw fresh.same at c.read_and_find.ensures)

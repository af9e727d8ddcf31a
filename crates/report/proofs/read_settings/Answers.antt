-- Each return goes by what `settings_of` says of such an input.
use Rattle.std.proofs.Common.{sym, ◌∙◌, eq-eqb}
use borrow.Author.Tests.{ne_eqb}
use Rattle.report.proofs.Setting.{cut_short, no_line_feed, fields_set}
use Rattle.report.proofs.read_settings.Goals.{then-input-lt-SETTINGS_LINE-via-then-input-lt-SETTINGS_LINE, then-input-lt-SETTINGS_LINE-via-else-input-lt-SETTINGS_LINE+then-input-ne-LINE_FEED}
use Rattle.report.proofs.read_settings.Goals as goal

pub returns-then-input-lt-SETTINGS_LINE : goal.returns-then-input-lt-SETTINGS_LINE
returns-then-input-lt-SETTINGS_LINE c =
    sym
    (elim c.then-input-lt-SETTINGS_LINE.branch [
      | then-input-lt-SETTINGS_LINE-via-then-input-lt-SETTINGS_LINE short ↦ cut_short c.args.input.now short.if-input-lt-SETTINGS_LINE.true
      | then-input-lt-SETTINGS_LINE-via-else-input-lt-SETTINGS_LINE+then-input-ne-LINE_FEED other ↦ no_line_feed c.args.input.now (ne_eqb _ _ other.if-input-ne-LINE_FEED.true)
    ])

pub returns-in_err-activities : goal.returns-in_err-activities
returns-in_err-activities c =
    c.from_residual.ensures
    ∙ rw (sym (c.in_err-activities.ensures {u = tt}))
    at (fields_set c.args.input.now c.if-input-lt-SETTINGS_LINE.false (eq-eqb _ _ c.if-input-ne-LINE_FEED.false))

pub returns-in_err-threshold : goal.returns-in_err-threshold
returns-in_err-threshold c =
    c.from_residual-in_err-threshold.ensures
    ∙ rw (sym (c.in_ok-activities.ensures {u = tt}), sym (c.in_err-threshold.ensures {u = tt}))
    at (fields_set c.args.input.now c.if-input-lt-SETTINGS_LINE.false (eq-eqb _ _ c.if-input-ne-LINE_FEED.false))

pub returns-in_err-confidence : goal.returns-in_err-confidence
returns-in_err-confidence c =
    c.from_residual-in_err-confidence.ensures
    ∙ rw (sym (c.in_ok-activities.ensures {u = tt}), sym (c.in_ok-threshold.ensures {u = tt}), sym (c.in_err-confidence.ensures {u = tt}))
    at (fields_set c.args.input.now c.if-input-lt-SETTINGS_LINE.false (eq-eqb _ _ c.if-input-ne-LINE_FEED.false))

pub returns : goal.returns
returns c =
    rw (sym (c.in_ok-activities.ensures {u = tt}), sym (c.in_ok-threshold.ensures {u = tt}), sym (c.in_ok-confidence.ensures {u = tt}))
    at (fields_set c.args.input.now c.if-input-lt-SETTINGS_LINE.false (eq-eqb _ _ c.if-input-ne-LINE_FEED.false))

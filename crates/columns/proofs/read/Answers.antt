-- Each return by what the answer was.
use Rattle.std.proofs.Common.{arith, refl}
use Rattle.std.proofs.lemmas.Result.{err_from_is_err_and}
use Rattle.base.proofs.Outcomes.{outcome_refused, outcome_accepted}
use Rattle.columns.proofs.ReadContract.{begun, says, few_added, appended}
use Rattle.columns.proofs.read.Goals as goal

pub returns-in_err-added : goal.returns-in_err-added
returns-in_err-added c =
    let start = c.start-start.ensures in
    let b = begun c.in_ok-sound_store.sound_store (rw c.in_ok-sound_store.ensures.ok_part at c.new.ensures) start.room start.at in
    let left = err_from_is_err_and c.from_residual-in_err-added.result c.from_residual-in_err-added.ensures.1 in
    rw (left.1, left.2) (outcome_refused (says b c.args.log.now c.in_err-added.ensures) refl)

pub overflow_cast-store : goal.overflow_cast-store
overflow_cast-store c =
    let start = c.start-start.ensures in
    let b = begun c.in_ok-sound_store.sound_store (rw c.in_ok-sound_store.ensures.ok_part at c.new.ensures) start.room start.at in
    record { fits = omega (arith, few_added b c.args.log.now c.in_ok-added.added c.in_ok-added.ensures) }

pub overflow_add-store : goal.overflow_add-store
overflow_add-store c =
    let start = c.start-start.ensures in
    let b = begun c.in_ok-sound_store.sound_store (rw c.in_ok-sound_store.ensures.ok_part at c.new.ensures) start.room start.at in
    record { fits = omega (arith, few_added b c.args.log.now c.in_ok-added.added c.in_ok-added.ensures) }

pub returns : goal.returns
returns c =
    let start = c.start-start.ensures in
    let b = begun c.in_ok-sound_store.sound_store (rw c.in_ok-sound_store.ensures.ok_part at c.new.ensures) start.room start.at in
    let log = c.args.log.now in
    outcome_accepted (says b log c.in_ok-added.ensures) refl
    (appended b log c.in_ok-added.added c.in_ok-added.ensures c.write_lines.new.events c.write_lines.new.ends c.write_lines.new.words
    c.write_lines.ensures)

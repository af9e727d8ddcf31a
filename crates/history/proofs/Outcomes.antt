-- Nothing in the calls' contracts is left to the program: in any memory, sound or not, two outcomes of one call that meet its contract
-- are the same outcome.
-- Assumes nothing.
use mathlib.Core.Path.{◌≡◌, sym, ap, ◌∙◌}
use Rattle.base.proofs.Outcomes as outcomes
use Rattle.eventlog.specs.declared.Store.{Store}
use Rattle.eventlog.specs.Store.{Memory, with_store}
use Rattle.history.specs.Ledger.{Call, open_for, add, read, find, Shown}
use Rattle.history.specs.Histories.{Called}

shown_one : {s t : Shown} → s.said ≡ t.said → s.list ≡ t.list → s ≡ t
shown_one said list = λ i. record { said = said i; list = list i }

pub one_outcome : (m : Memory) (c : Call) (s t : Shown) (m' m'' : Memory) → Called m c s m' → Called m c t m'' → (s ≡ t) × (m' ≡ m'')
one_outcome m (open_for n) s t m' m'' (store, opens, left, list) (store', opens', left', list') =
    let one = outcomes.one_outcome opens opens' in
    (shown_one one.0 (list ∙ sym list'), left ∙ ap (λ (store : Store). with_store store m) one.1 ∙ sym left')
one_outcome m (add trace) s t m' m'' (adds, list) (adds', list') =
    let one = outcomes.one_outcome adds adds' in (shown_one one.0 (list ∙ sym list'), one.1)
one_outcome m (read log) s t m' m'' (reads, list) (reads', list') =
    let one = outcomes.one_outcome reads reads' in (shown_one one.0 (list ∙ sym list'), one.1)
one_outcome m (find settings list) s t m' m'' (finds, left) (finds', left') =
    let one = outcomes.one_outcome finds finds' in (shown_one one.0 one.1, left ∙ sym left')

use Rattle.std.proofs.Common.{rules, arith, ◌≡◌, true, ◌≤◌, length, ℕ, List, ◌∷◌, take, drop, ◌-◌, sym, ap, ◌∙◌}
use Rattle.base.proofs.Lists.{part_slice}
use Rattle.eventlog.specs.Store.{rising, last_from, cut}
use Rattle.eventlog.proofs.Laws.{rising_facts, rises_on}
use Rattle.eventlog.proofs.kept_traces.KeptTracesIterator.next.Goals as goal

-- the first end is not below the place, and lies within the events
record First (from end : ℕ) (events : List ℕ) : Type 0 where
  pub above : from ≤ end
  pub within : end ≤ length events

module _ (from end : ℕ) (ends ends' events : List ℕ) (e : ends ≡ end ∷ ends') where
  first : rising from ends ≡ true → last_from from ends ≤ length events → First from end events
  first rise fit =
      let r = rising_facts from end ends' (rw e at rise) in
      let fit' : last_from end ends' ≤ length events = rw e at fit in
      record { above = r.above; within = omega (arith, rises_on end ends' r.rest) }

  first_cut : from ≤ end → cut from ends events ≡ take (end - from) (drop from events) ∷ cut end ends' events
  first_cut above = ap (λ l. cut from l events) e ∙ ap (λ part. part ∷ cut end ends' events) (sym (part_slice from end events above))

pub slice_bounds-trace-end : goal.slice_bounds-trace-end
slice_bounds-trace-end c =
    let f = first _ _ _ _ c.self.inside.events.now (c.in_ok-end.ensures {u = tt}).cases.0 c.self.invariant.0 c.self.invariant.1 in search rules

pub returns-clause-steps : goal.returns-clause-steps
returns-clause-steps c =
    let e = (c.in_ok-end.ensures {u = tt}).cases.0 in
    sym c.self.view_is
    ∙ first_cut _ _ _ _ c.self.inside.events.now e (first _ _ _ _ c.self.inside.events.now e c.self.invariant.0 c.self.invariant.1).above

-- The kept traces and their events are few, so that no number which counts them wraps.
-- Assumes nothing.
use Prim.Native.Nat.{◌≤◌}
use native.Mathlib.Omega.{arith}
use lib.ListN.{length}
use Rattle.eventlog.specs.declared.kept_traces.KeptParts.{KeptParts}
use Rattle.eventlog.specs.Store.{most_traces, most_events, total}
use Rattle.eventlog.specs.SoundStore.{traces_in}
use Rattle.eventlog.proofs.Laws.{cut_length, cut_total, rises_bound}

pub few_traces : (kept : KeptParts) → length (traces_in kept) ≤ most_traces
few_traces kept = omega (arith, cut_length 0 kept.ends.now kept.events.now, kept.few)

pub few_events : (kept : KeptParts) → total (traces_in kept) ≤ most_events
few_events kept =
    let ends = kept.ends.now in
    omega (arith, cut_total 0 ends kept.events.now kept.rise kept.fit, rises_bound 0 ends kept.rise, kept.few)

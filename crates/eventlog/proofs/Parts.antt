-- The trace of each place: the part of the events from the end before to its own.
-- Assumes nothing.
use Prim.Native.Nat.{ℕ, zero, suc, ◌≤◌, ◌<◌}
use native.Mathlib.Omega.{arith}
use mathlib.Core.Path.{◌≡◌, refl}
use mathlib.Core.Bool.{true}
use mathlib.Core.List.{List, [], ◌∷◌}
use lib.ListN.{length, take, get_or}
use lib.Seq.{slice}
use Rattle.eventlog.specs.Store.{cut, last_from, rising}
use Rattle.eventlog.proofs.Laws.{rising_facts, rises_on}

-- where it starts
abbrev pub start_at : ℕ → List ℕ → ℕ → ℕ
start_at from ends k = last_from from (take k ends)

pub cut_at :
    (from : ℕ) (ends events : List ℕ) (k : ℕ) → k < length ends →
    get_or (cut from ends events) k [] ≡ slice (start_at from ends k) (get_or ends k 0) events
cut_at from [] events k within = absurd (omega arith)
cut_at from (end ∷ ends) events zero within = refl
cut_at from (end ∷ ends) events (suc k) within = cut_at end ends events k (omega arith)

-- behind the first it starts at the end before
pub start_after : (from : ℕ) (ends : List ℕ) (k : ℕ) → k < length ends → start_at from ends (suc k) ≡ get_or ends k 0
start_after from [] k within = absurd (omega arith)
start_after from (end ∷ ends) zero within = refl
start_after from (end ∷ ends) (suc k) within = start_after end ends k (omega arith)

pub starts_low : (from : ℕ) (ends : List ℕ) (k : ℕ) → rising from ends ≡ true → k < length ends → start_at from ends k ≤ get_or ends k 0
starts_low from [] k rise within = absurd (omega arith)
starts_low from (end ∷ ends) zero rise within = (rising_facts from end ends rise).above
starts_low from (end ∷ ends) (suc k) rise within = starts_low end ends k (rising_facts from end ends rise).rest (omega arith)

pub ends_low : (from : ℕ) (ends : List ℕ) (k : ℕ) → rising from ends ≡ true → k < length ends → get_or ends k 0 ≤ last_from from ends
ends_low from [] k rise within = absurd (omega arith)
ends_low from (end ∷ ends) zero rise within = rises_on end ends (rising_facts from end ends rise).rest
ends_low from (end ∷ ends) (suc k) rise within = ends_low end ends k (rising_facts from end ends rise).rest (omega arith)

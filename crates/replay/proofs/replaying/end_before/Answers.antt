use Rattle.std.proofs.Common.{sym, ap, ◌∙◌, ◌-◌, ◌≡◌, ℕ, suc, zero, List, length, get_or, ◌≤◌, arith, refl}
use Rattle.eventlog.proofs.Parts.{start_at, start_after}
use Rattle.replay.proofs.replaying.end_before.Goals as goal

behind : (ends : List ℕ) (k : ℕ) → (k ≡ 0 → ⊥) → k ≤ length ends → get_or ends (k - 1) 0 ≡ start_at 0 ends k
behind ends zero some within = absurd (some refl)
behind ends (suc k) some within = ap (λ i. get_or ends i 0) (omega arith) ∙ sym (start_after 0 ends k (omega arith))

pub returns-else-k-eq0 : goal.returns-else-k-eq0
returns-else-k-eq0 c = behind c.args.ends.now c.args.k c.if-k-eq0.false c.requires

use Prim.Native.Nat.{ℕ, ◌+◌, ◌<◌}
use mathlib.Core.Path.{◌≡◌, sym, ap, ◌∙◌}
use mathlib.Core.List.{List, ◌++◌}
use native.Mathlib.Numerals.{add-one}
use native.Mathlib.Omega.{arith}
use lib.ListN.{length, get_or, take, drop, set}
use lib.Seq.{paste, paste-suc, sets-eq, take-length}
use Rattle.eventlog.proofs.copy_in.Goals as goal

pub loop-i-preserved : goal.loop-i-preserved
loop-i-preserved c =
    let events = c.args.events.now in
    let trace = c.args.trace.now in
    let i = c.loop-i.i in
    let within : i < length trace = omega arith in
    ap (λ (l : List ℕ). set l (c.args.from + i) (get_or trace i 0)) c.loop-i.invariant
    ∙ paste-suc events c.args.from trace i 0 (omega arith) within
    ∙ ap (paste events c.args.from trace) (sym (add-one i))

pub returns : goal.returns
returns c =
    let events = c.args.events.now in
    let trace = c.args.trace.now in
    let all : c.loop-i.i ≡ length trace = omega arith in
    c.loop-i.invariant
    ∙ ap (paste events c.args.from trace) all
    ∙ ap (λ (l : List ℕ). take c.args.from events ++ l ++ drop (c.args.from + length trace) events) (take-length trace)
    ∙ sym (sets-eq trace events c.args.from (omega arith))

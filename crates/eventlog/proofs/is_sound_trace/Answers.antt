use Rattle.std.proofs.Common.{arith, refl, sym, ap, ap₂, ◌∙◌, ◌&&◌, ltb, take, get_or, map}
use lib.Seq.{take-suc}
use native.Mathlib.Numerals.{add-one}
use Rattle.std.specs.Prelude.{bit_or}
use Rattle.std.proofs.lemmas.Nat.{one_shl}
use Rattle.base.proofs.Lists.{all_last}
use Rattle.declare.specs.Traces.{all_below}
use Rattle.eventlog.specs.Words.{word_of}
use Rattle.eventlog.proofs.WordBits.{word_of_none, low, one_low_more}
use Rattle.eventlog.proofs.is_sound_trace.Goals as goal

pub loop-event-init : goal.loop-event-init
loop-event-init c = record { declared = refl; made = sym word_of_none }

pub loop-event-preserved : goal.loop-event-preserved
loop-event-preserved c =
    let trace = c.args.trace.now in
    let i = c.loop-event.event-index in
    let more = ap (λ k. take k trace) (add-one i) ∙ take-suc trace i 0 c.loop-event-test.true in
    record {
      declared =
          ap₂ (λ before event. before && ltb event c.args.n) c.loop-event.invariant.declared c.from.ensures
          ∙ sym (ap (all_below c.args.n) more ∙ all_last _ (take i trace) (get_or trace i 0));
      made =
          rw c.loop-event.invariant.made
          (ap (bit_or (word_of (map low (take i trace)))) (one_shl (low (get_or trace i 0)) 32 (omega arith))
          ∙ one_low_more (take i trace) (get_or trace i 0)
          ∙ ap (λ events. word_of (map low events)) (sym more));
    }

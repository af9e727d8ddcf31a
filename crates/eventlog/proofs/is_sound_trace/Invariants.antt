-- The loop's invariant: whether the events so far are declared, and the word that their lowest five bits make.
use Rattle.std.proofs.Common.{◌≡◌, take, map}
use Rattle.declare.specs.Traces.{all_below}
use Rattle.eventlog.specs.Words.{word_of}
use Rattle.eventlog.proofs.WordBits.{low}
use Rattle.eventlog.proofs.is_sound_trace.Given as goal

abbrev pub invariant-loop-event : goal.invariant-loop-event
invariant-loop-event l =
    record {
      declared : l.declared ≡ all_below l.n (take l.event-index l.trace);
      made : l.made ≡ word_of (map low (take l.event-index l.trace));
    }

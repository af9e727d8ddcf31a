use Rattle.eventlog.specs.SoundStore.{memory_of}
use Rattle.eventlog.proofs.Laws.{sound_facts}
use Rattle.columns.proofs.Laws.{bounded_start}
use Rattle.columns.proofs.reading.Reading.start.Goals as goal

pub invariant_of-result : goal.invariant_of-result
invariant_of-result c = record {
  few_activities = rw c.room-room.ensures (sound_facts (memory_of c.args.store) c.args.store.is_sound).few_activities;
  in_bounds = rw c.room-room.ensures (bounded_start (memory_of c.args.store) c.args.store.is_sound);
}

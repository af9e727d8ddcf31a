-- The memory of a store that is known to be sound, and the traces in its kept parts.
-- Assumes nothing.
use Rattle.std.specs.Prelude.{ℕ, List}
use Rattle.eventlog.specs.declared.kept_traces.KeptParts.{KeptParts}
use Rattle.eventlog.specs.declared.sound_store.SoundStore.{SoundStore}
use Rattle.eventlog.specs.Store.{Memory, lent, cut}

-- the record beside what stands behind its three references
abbrev pub memory_of : SoundStore → Memory
memory_of s = lent s.store s.events.now s.ends.now s.words.now

-- the traces that its ends cut off
abbrev pub traces_in : KeptParts → List (List ℕ)
traces_in parts = cut 0 parts.ends.now parts.events.now

-- Each return from the tests that led there.
use Rattle.std.proofs.Common.{arith, sym, ap, ◌∙◌, ◌≡◌, ◌+◌, ◌≤◌, ℕ, List, [], true, false, length, drop, not, ltb, Option, None}
use borrow.Author.Tests.{lt-ltb, le-ltb}
use Rattle.std.specs.List.{position}
use Rattle.base.specs.Checks.{refused, reply}
use Rattle.answers.specs.Answers.{refusal_said}
use Rattle.declare.specs.Traces.{all_below}
use Rattle.eventlog.specs.Store.{Memory, sound, last_end, room, full, lent}
use Rattle.eventlog.specs.Calls.{checks_of_add}
use Rattle.eventlog.specs.declared.sound_store.SoundStore.{SoundStore}
use Rattle.eventlog.specs.SoundStore.{memory_of}
use Rattle.eventlog.proofs.Laws.{sound_facts}
use Rattle.eventlog.proofs.Walks.{none_undeclared, some_undeclared}
use Rattle.eventlog.proofs.place_for.Goals as goal

-- what is known past the checks 1, 6 and 7
record Short (m : Memory) (trace : List ℕ) : Type 0 where
  pub is_sound : sound m ≡ true
  pub declared : all_below m.store.activities trace ≡ true
  pub short : length trace ≤ 4096

short_by :
    {m : Memory} {trace : List ℕ} {place : Option ℕ} → sound m ≡ true →
    place ≡ position (λ event. not (ltb event m.store.activities)) trace → place ≡ None → length trace ≤ 4096 → Short m trace
short_by {m = m} {trace = trace} passed found none few =
    record { is_sound = passed; declared = none_undeclared m.store.activities trace (sym found ∙ none); short = few }

past_three : (m : Memory) (trace : List ℕ) → Short m trace → reply (checks_of_add m trace) [] ≡ reply (drop 3 (checks_of_add m trace)) []
past_three m trace s = simp (s.is_sound, s.declared, le-ltb _ _ s.short)

-- past the check 8 too
past_four : (m : Memory) (trace : List ℕ) → Short m trace → full (room m) ≡ false → reply (checks_of_add m trace) [] ≡ reply (drop 4 (checks_of_add m trace)) []
past_four m trace s f = past_three m trace s ∙ rw f

-- the store that the test for soundness hands on is the one that was lent, so that this one is sound
lent_sound : {m : Memory} (s : SoundStore) → memory_of s ≡ m → sound m ≡ true
lent_sound s there = ap sound (sym there) ∙ s.is_sound

pub returns-in-Some-clause-says : goal.returns-in-Some-clause-says
returns-in-Some-clause-says c =
    let sound = lent_sound c.in_ok-sound.sound (rw c.in_ok-sound.ensures.ok_part at c.new.ensures) in
    let found = some_undeclared c.args.store.activities c.args.trace.now c.in-Some.place (sym c.first_undeclared.ensures ∙ c.in-Some.is) in
    simp (c.with.ensures, sound, found.0) (ap (λ place. refused 6 (place + 1)) found.1)

pub returns-then-trace-clause-says : goal.returns-then-trace-clause-says
returns-then-trace-clause-says c =
    let sound = lent_sound c.in_ok-sound.sound (rw c.in_ok-sound.ensures.ok_part at c.new.ensures) in
    let declared = none_undeclared c.args.store.activities c.args.trace.now (sym c.first_undeclared.ensures ∙ c.in_default.is) in
    ap refusal_said c.into.ensures ∙ sym (simp (sound, declared, lt-ltb _ _ c.if-trace.true))

pub returns-then-is_full-clause-says : goal.returns-then-is_full-clause-says
returns-then-is_full-clause-says c =
    let there = rw c.in_ok-sound.ensures.ok_part at c.new.ensures in
    let m = lent c.args.store c.args.events.now c.args.ends.now c.args.words.now in
    let s : Short m c.args.trace.now = short_by (lent_sound c.in_ok-sound.sound there) c.first_undeclared.ensures c.in_default.is c.if-trace.false in
    let full : full (room m) ≡ true = sym (ap full (c.room-room.ensures ∙ ap room there)) ∙ sym c.is_full.ensures ∙ c.if-is_full.true in
    ap refusal_said c.into-then-is_full.ensures ∙ sym (past_three m c.args.trace.now s ∙ rw full)

pub overflow_sub-room : goal.overflow_sub-room
overflow_sub-room c =
    let there = rw c.in_ok-sound.ensures.ok_part at c.new.ensures in
    let same = c.room-room.ensures ∙ ap room there in
    omega (arith, ap (λ r. r.last) same, ap (λ r. r.space.events) same, (sound_facts _ (lent_sound c.in_ok-sound.sound there)).fits)

pub returns-then-room-last-clause-says : goal.returns-then-room-last-clause-says
returns-then-room-last-clause-says c =
    let there = rw c.in_ok-sound.ensures.ok_part at c.new.ensures in
    let m = lent c.args.store c.args.events.now c.args.ends.now c.args.words.now in
    let same = c.room-room.ensures ∙ ap room there in
    let s : Short m c.args.trace.now = short_by (lent_sound c.in_ok-sound.sound there) c.first_undeclared.ensures c.in_default.is c.if-trace.false in
    let more : full (room m) ≡ false = sym (ap full same) ∙ sym c.is_full.ensures ∙ c.if-is_full.false in
    ap refusal_said c.into-then-room-last.ensures
    ∙ sym
    (past_four m c.args.trace.now s more
    ∙ rw (lt-ltb (length m.events) (last_end m + length c.args.trace.now)
    (omega (arith, c.if-room-last.true, ap (λ r. r.last) same, ap (λ r. r.space.events) same))))

pub returns-clause-says : goal.returns-clause-says
returns-clause-says c =
    let there = rw c.in_ok-sound.ensures.ok_part at c.new.ensures in
    let m = lent c.args.store c.args.events.now c.args.ends.now c.args.words.now in
    let same = c.room-room.ensures ∙ ap room there in
    let s : Short m c.args.trace.now = short_by (lent_sound c.in_ok-sound.sound there) c.first_undeclared.ensures c.in_default.is c.if-trace.false in
    let more : full (room m) ≡ false = sym (ap full same) ∙ sym c.is_full.ensures ∙ c.if-is_full.false in
    let fits : last_end m ≤ length m.events = (sound_facts _ s.is_sound).fits in
    sym
    (past_four m c.args.trace.now s more
    ∙ rw (le-ltb (length m.events) (last_end m + length c.args.trace.now)
    (omega (arith, fits, c.if-room-last.false, ap (λ r. r.last) same, ap (λ r. r.space.events) same))))

-- What the answer says of the trace gives each bound.
use Rattle.std.proofs.Common.{arith}
use Rattle.eventlog.specs.Store.{lent}
use Rattle.eventlog.proofs.Adding.{bounds}
use Rattle.eventlog.proofs.append.Goals as goal

pub copy_in-requires : goal.copy_in-requires
copy_in-requires c =
    let m = lent c.args.store.now c.args.events.now c.args.ends.now c.args.words.now in
    (bounds m c.args.trace.now c.requires.accepted c.requires.place).fits

pub overflow_cast-ends : goal.overflow_cast-ends
overflow_cast-ends c =
    let m = lent c.args.store.now c.args.events.now c.args.ends.now c.args.words.now in
    record { fits = (bounds m c.args.trace.now c.requires.accepted c.requires.place).small }

pub bounds-ends-store : goal.bounds-ends-store
bounds-ends-store c =
    let m = lent c.args.store.now c.args.events.now c.args.ends.now c.args.words.now in
    (bounds m c.args.trace.now c.requires.accepted c.requires.place).has_end

pub bounds-words-store : goal.bounds-words-store
bounds-words-store c =
    let m = lent c.args.store.now c.args.events.now c.args.ends.now c.args.words.now in
    (bounds m c.args.trace.now c.requires.accepted c.requires.place).has_word

pub overflow_add-store : goal.overflow_add-store
overflow_add-store c =
    let m = lent c.args.store.now c.args.events.now c.args.ends.now c.args.words.now in
    let few = (bounds m c.args.trace.now c.requires.accepted c.requires.place).few in
    omega arith

pub returns : goal.returns
returns c = simp (c.copy_in.ensures, c.requires.place, c.word_of.ensures)

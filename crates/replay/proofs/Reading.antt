-- Over a query's traces, block after block: those that a constraint reads, told by their words.
-- Assumes nothing.
use Prim.Native.Nat.{ℕ, zero, suc, ◌+◌, ◌-◌, ◌≤◌, ◌<◌}
use native.Mathlib.Omega.{arith}
use mathlib.Core.Path.{◌≡◌, refl, sym, ap, subst, ◌∙◌}
use mathlib.Core.Bool.{Bool, true, false, cond}
use mathlib.Core.List.{List, [], ◌∷◌, ◌++◌}
use mir.Val.{bool_byte}
use lib.ListN.{length, take, drop, get_or, drop_of_length-le}
use lib.Seq.{length-take-le}
use lib.Seq.{drop-cons}
use lib.Dec.{leb}
use borrow.Author.Tests.{leb-true, leb-false}
use native.Mathlib.Numerals.{add-one}
use Rattle.std.proofs.Math.Seq.{length-slice, take_all}
use Rattle.std.proofs.lemmas.List.{get_or_past, get_or-take, get_or-drop, get_or-map, take-append-drop, take-take, length-map}
use Rattle.std.specs.Prelude.{if◌then◌else◌}
use Rattle.std.specs.List.{filter, list_all}
use Rattle.base.specs.Lists.{count}
use Rattle.base.proofs.Bools.{and_left, and_right, either, clash}
use Rattle.base.proofs.Lists.{part_slice, filter_append, count_append, count_cons, count_at_most}
use Rattle.declare.specs.declared.constraints.Constraint.{Constraint}
use Rattle.declare.specs.Traces.{most_activities, all_below}
use Rattle.declare.specs.Constraints.{Over}
use Rattle.declare.proofs.Occurrence.{all_below_more}
use Rattle.eventlog.specs.Store.{total}
use Rattle.eventlog.specs.SoundStore.{traces_in}
use Rattle.eventlog.specs.Words.{word_of}
use Rattle.eventlog.proofs.Counting.{few_traces, few_events}
use Rattle.eventlog.proofs.Laws.{total_append}
use Rattle.eventlog.proofs.Totals.{total_at_most}
use Rattle.pruning.specs.declared.WordTest.{WordTest}
use Rattle.pruning.specs.Question.{class_of, reads}
use Rattle.pruning.specs.Masks.{test_for, passes}
use Rattle.pruning.proofs.Masks.{passes_reads}
use Rattle.replay.specs.declared.query.Query.{Query}
use Rattle.replay.specs.declared.replaying.Front.{Front}
use Rattle.replay.specs.declared.replaying.OfTrace.{OfTrace}
use Rattle.replay.specs.declared.replaying.OfTraces.{OfTraces}
use Rattle.replay.proofs.Selecting.{at_front, one_at_most}
use Rattle.replay.specs.Replays.{moves_for, replays_fulfilled, ReplaysTrace}
use Rattle.replay.specs.Blocks.{block, passing, selected, Selects, places_in, block_of, ReplaysAll, ReplaysFront, Countable, Block, Readable}

first_count :
    (c : Constraint) (trace : List ℕ) (left : List (List ℕ)) →
    count (replays_fulfilled (moves_for c)) (trace ∷ left)
    ≡ bool_byte (replays_fulfilled (moves_for c) trace) + count (replays_fulfilled (moves_for c)) left
first_count c trace left = count_cons (replays_fulfilled (moves_for c)) trace left ∙ go (replays_fulfilled (moves_for c) trace) _
  where
    go : (t : Bool) (k : ℕ) → (if t then suc k else k) ≡ bool_byte t + k
    go true k = omega arith
    go false k = omega arith

-- ## Traces that are read, one after the other: what has been counted and what is left come to what all come to

module _ (c : Constraint) where
  pub record Underway (before all : OfTraces) (traces left : List (List ℕ)) : Type 0 where
    pub fulfilled :
        all.fulfilled + count (replays_fulfilled (moves_for c)) left ≡ before.fulfilled + count (replays_fulfilled (moves_for c)) traces
    pub read : all.events_read + total left ≡ before.events_read + total traces
    pub each : list_all (reads c) left ≡ true

  pub underway_start : (before : OfTraces) {traces : List (List ℕ)} → list_all (reads c) traces ≡ true → Underway before before traces traces
  underway_start before each = record { fulfilled = refl; read = refl; each = each }

  pub underway_done : {before all : OfTraces} {traces : List (List ℕ)} → Underway before all traces [] → ReplaysAll c traces before all
  underway_done u = record { fulfilled = omega (arith, u.fulfilled); read = omega (arith, u.read) }

  module _ {before all : OfTraces} {traces left : List (List ℕ)} {trace : List ℕ} (u : Underway before all traces (trace ∷ left)) where
    pub is_read : reads c trace ≡ true
    is_read = and_left (reads c trace) (list_all (reads c) left) u.each

    first : count (replays_fulfilled (moves_for c)) (trace ∷ left) ≡ bool_byte (replays_fulfilled (moves_for c) trace) + count (replays_fulfilled (moves_for c)) left
    first = first_count c trace left

    pub events_fit : Countable before traces → all.events_read + length trace < 18446744073709551616
    events_fit countable = omega (arith, u.read, countable.read)

    pub fulfilled_fits : Countable before traces → (t : Bool) → t ≡ replays_fulfilled (moves_for c) trace → all.fulfilled + bool_byte t < 4294967296
    fulfilled_fits countable t same =
        omega (arith, u.fulfilled, countable.fulfilled, count_at_most (replays_fulfilled (moves_for c)) traces, first, ap bool_byte same)

    pub underway_on :
        {one : OfTrace} {more : ℕ} → ReplaysTrace c trace all.events_read one → more ≡ bool_byte one.is_fulfilled →
        Underway before (record { fulfilled = all.fulfilled + more; events_read = one.events_read }) traces left
    underway_on {one} replays same =
        record {
          fulfilled = omega (arith, u.fulfilled, same, ap bool_byte replays.fulfilled, first);
          read = omega (arith, u.read, replays.read);
          each = and_right (reads c trace) (list_all (reads c) left) u.each;
        }

-- what is read is there
pub read_within : (c : Constraint) (traces : List (List ℕ)) (k : ℕ) → reads c (get_or traces k []) ≡ true → k < length traces
read_within c traces k read =
    either (leb (length traces) k)
    (λ past. clash read (ap (reads c) (get_or_past traces k [] (leb-true _ _ past))))
    (λ within. leb-false _ _ within)

-- the traces of places, the first of those left first
module _ (c : Constraint) (query : Query) (from : ℕ) (places : List ℕ) {before all : OfTraces} {i : ℕ}
    (u : Underway c before all (places_in query from places) (places_in query from (drop i places))) where
  pub underway_place :
      {k : ℕ} → i < length places → k ≡ get_or places i 0 →
      Underway c before all (places_in query from places)
      (get_or (traces_in query.kept) (from + k) [] ∷ places_in query from (drop (i + 1) places))
  underway_place {k} within same =
      let next : drop i places ≡ k ∷ drop (i + 1) places = rw (add-one, same, drop-cons places i 0) in
      subst (λ left. Underway c before all (places_in query from places) (places_in query from left)) next u

  pub places_done : length places ≤ i → ReplaysAll c (places_in query from places) before all
  places_done over =
      underway_done c (subst (λ left. Underway c before all (places_in query from places) (places_in query from left)) (drop_of_length-le places over) u)

-- ## A block: its places that pass are those of the traces that are read

each_of : {A : Type 0} (p : A → Bool) (d : A) (xs : List A) (k : ℕ) → list_all p xs ≡ true → k < length xs → p (get_or xs k d) ≡ true
each_of p d [] k h within = absurd (omega arith)
each_of p d (x ∷ xs) zero h within = and_left (p x) (list_all p xs) h
each_of p d (x ∷ xs) (suc k) h within = each_of p d xs k (and_right (p x) (list_all p xs) h) (omega arith)

pub as_many_words : (query : Query) → length query.kept.words.now ≡ length (traces_in query.kept)
as_many_words query = ap length query.kept.of_traces ∙ length-map (traces_in query.kept) word_of

-- whether a trace is read is told by its word
pub told :
    (query : Query) (c : Constraint) → Over query.measure.activities c → (k : ℕ) → k < length (traces_in query.kept) →
    passes (test_for (class_of c.template) c.a c.b) (get_or query.kept.words.now k 0) ≡ reads c (get_or (traces_in query.kept) k [])
told query c over k within =
    let ts = traces_in query.kept in
    let few = all_below_more query.measure.activities most_activities query.few_activities ts query.declared in
    let word = ap (λ words. get_or words k 0) query.kept.of_traces ∙ get_or-map word_of ts k [] 0 within in
    ap (passes (test_for (class_of c.template) c.a c.b)) word
    ∙ passes_reads query.measure.activities query.few_activities c over (get_or ts k []) (each_of (all_below most_activities) [] ts k few within)

module _ {query : Query} {c : Constraint} {from to : ℕ} {before : OfTraces} (r : Block query c from to before) where
  abbrev words : List ℕ
  words = take (to - from) (drop from query.kept.words.now)

  long : length (block_of query from to) ≡ to - from
  long = length-slice from to (traces_in query.kept) r.within

  -- each of its places
  at_place : (i : ℕ) → i < to - from → get_or (traces_in query.kept) (from + i) [] ≡ get_or (block_of query from to) i []
  at_place i within =
      let ts = traces_in query.kept in
      sym
      (ap (λ part. get_or part i []) (sym (part_slice from to ts r.starts))
      ∙ get_or-take (to - from) (drop from ts) i [] within
      ∙ get_or-drop from ts i [])

  told_at :
      (i : ℕ) → i < to - from → passing (test_for (class_of c.template) c.a c.b) words i ≡ reads c (get_or (traces_in query.kept) (from + i) [])
  told_at i within =
      ap (passes (test_for (class_of c.template) c.a c.b))
      (get_or-take (to - from) (drop from query.kept.words.now) i 0 within ∙ get_or-drop from query.kept.words.now i 0)
      ∙ told query c r.over (from + i) (omega (arith, r.within))

  words_long : length words ≡ to - from
  words_long =
      let all = as_many_words query in
      ap length (part_slice from to query.kept.words.now r.starts)
      ∙ length-slice from to query.kept.words.now (omega (arith, all, r.within))

  pub places_read :
      {test : WordTest} {n : ℕ} {places : List ℕ} → test ≡ test_for (class_of c.template) c.a c.b →
      Selects test words n places → places_in query from (take n places) ≡ filter (reads c) (block_of query from to)
  places_read tested selects =
      let test = test_for (class_of c.template) c.a c.b in
      ap (places_in query from) selects.front
      ∙ ap (λ test. places_in query from (selected test words)) tested
      ∙ at_front (passing test words) (reads c) (λ k. get_or (traces_in query.kept) (from + k) []) [] (block_of query from to) (length words)
      (omega (arith, words_long, long)) (λ i within. at_place i (omega (arith, long))) (λ i within. told_at i (omega (arith, long)))
      ∙ ap (filter (reads c)) (take_all (length words) (block_of query from to) (omega (arith, words_long, long)))

  -- what is read of it can be counted
  pub read_countable : Countable before (filter (reads c) (block_of query from to))
  read_countable = record { fulfilled = omega (arith, r.countable.fulfilled, count_at_most (reads c) (block_of query from to)); read = omega (arith, r.countable.read, total_at_most (reads c) (block_of query from to)) }

-- ## The first traces, one after the other

module _ {query : Query} {c : Constraint} {events_read : ℕ} (r : Readable query c events_read) where
  pub front_start : ReplaysFront query c events_read (record { place = 0; all = record { fulfilled = 0; events_read = events_read } })
  front_start =
      record {
        within = omega arith;
        countable = record { fulfilled = omega (arith, few_traces query.kept); read = omega (arith, few_events query.kept, r.fits) };
        fulfilled = omega arith;
        read = refl;
      }

  module _ {k : ℕ} {all : OfTraces} (f : ReplaysFront query c events_read (record { place = k; all = all })) (ahead : k < length (traces_in query.kept)) where
    abbrev rest : List (List ℕ)
    rest = drop (k + 1) (traces_in query.kept)

    next : drop k (traces_in query.kept) ≡ get_or (traces_in query.kept) k [] ∷ rest
    next = rw (add-one, drop-cons (traces_in query.kept) k [])

    pub front_fulfilled_fits : (t : Bool) → all.fulfilled + bool_byte t < 4294967296
    front_fulfilled_fits t = omega (arith, f.countable.fulfilled, ap length next, one_at_most t)

    pub front_events_fit : all.events_read + length (get_or (traces_in query.kept) k []) < 18446744073709551616
    front_events_fit = omega (arith, f.countable.read, ap total next)

    pub front_on :
        {one : OfTrace} {more : ℕ} → reads c (get_or (traces_in query.kept) k []) ≡ true →
        ReplaysTrace c (get_or (traces_in query.kept) k []) all.events_read one → more ≡ bool_byte one.is_fulfilled →
        ReplaysFront query c events_read
        (record { place = k + 1; all = record { fulfilled = all.fulfilled + more; events_read = one.events_read } })
    front_on {one} is_read replays same =
        let trace = get_or (traces_in query.kept) k [] in
        let fulfils = replays_fulfilled (moves_for c) in
        let first : filter (reads c) (drop k (traces_in query.kept)) ≡ trace ∷ filter (reads c) rest =
        ap (filter (reads c)) next ∙ ap (λ t. cond t (trace ∷ filter (reads c) rest) (filter (reads c) rest)) is_read in
        record {
          within = omega arith;
          countable =
              record {
                fulfilled = omega (arith, f.countable.fulfilled, ap length next, same, one_at_most one.is_fulfilled);
                read = omega (arith, f.countable.read, ap total next, replays.read);
              };
          fulfilled =
              omega (
                arith,
                f.fulfilled,
                ap (count fulfils) first,
                first_count c trace (filter (reads c) rest),
                same,
                ap bool_byte replays.fulfilled,
              );
          read = omega (arith, f.read, ap total first, replays.read);
        }

-- ## All of a query, block after block

pub record Passed (query : Query) (c : Constraint) (events_read from : ℕ) (all : OfTraces) : Type 0 where
  pub within : from ≤ length (traces_in query.kept)
  pub so_far : ReplaysAll c (filter (reads c) (take from (traces_in query.kept))) (record { fulfilled = 0; events_read = events_read }) all

-- the first are passed
pub front_passed :
    {query : Query} {c : Constraint} {events_read : ℕ} {front : Front} → ReplaysFront query c events_read front →
    Passed query c events_read front.place front.all
front_passed {query} {c} {front = front} f =
    let ts = traces_in query.kept in
    let fulfils = replays_fulfilled (moves_for c) in
    let split : filter (reads c) ts ≡ filter (reads c) (take front.place ts) ++ filter (reads c) (drop front.place ts) =
    ap (filter (reads c)) (sym (take-append-drop front.place ts)) ∙ filter_append (reads c) (take front.place ts) (drop front.place ts) in
    record {
      within = f.within;
      so_far =
          record {
            fulfilled =
                omega (
                  arith,
                  f.fulfilled,
                  ap (count fulfils) split,
                  count_append fulfils (filter (reads c) (take front.place ts)) (filter (reads c) (drop front.place ts)),
                );
            read =
                omega (
                  arith,
                  f.read,
                  ap total split,
                  total_append (filter (reads c) (take front.place ts)) (filter (reads c) (drop front.place ts)),
                );
          };
    }

module _ {query : Query} {c : Constraint} {events_read from : ℕ} {all : OfTraces} (r : Readable query c events_read) (p : Passed query c events_read from all) where
  front_of : (to : ℕ) → from ≤ to → take to (traces_in query.kept) ≡ take from (traces_in query.kept) ++ block_of query from to
  front_of to ahead =
      let ts = traces_in query.kept in
      sym (take-append-drop from (take to ts)) ∙ ap (λ xs. xs ++ block_of query from to) (take-take from to ts ahead)

  pub next_block : (to : ℕ) → from ≤ to → to ≤ from + block → to ≤ length (traces_in query.kept) → Block query c from to all
  next_block to ahead few within =
      let ts = traces_in query.kept in
      record {
        over = r.over;
        starts = ahead;
        few = few;
        within = within;
        countable =
            record {
              fulfilled =
                  omega (
                    arith,
                    p.so_far.fulfilled,
                    count_at_most (replays_fulfilled (moves_for c)) (filter (reads c) (take from ts)),
                    count_at_most (reads c) (take from ts),
                    length-take-le from ts p.within,
                    length-slice from to ts within,
                    few_traces query.kept,
                  );
              read =
                  omega (
                    arith,
                    p.so_far.read,
                    total_at_most (reads c) (take from ts),
                    ap total (front_of to ahead),
                    total_append (take from ts) (block_of query from to),
                    ap total (take-append-drop to ts),
                    total_append (take to ts) (drop to ts),
                    few_events query.kept,
                    r.fits,
                  );
            };
      }

  pub passed_more :
      {to : ℕ} {all' : OfTraces} → from ≤ to → to ≤ length (traces_in query.kept) →
      ReplaysAll c (filter (reads c) (block_of query from to)) all all' → Passed query c events_read to all'
  passed_more {to} ahead within more =
      let ts = traces_in query.kept in
      let fulfils = replays_fulfilled (moves_for c) in
      let split = ap (filter (reads c)) (front_of to ahead) ∙ filter_append (reads c) (take from ts) (block_of query from to) in
      record {
        within = within;
        so_far =
            record {
              fulfilled =
                  omega (
                    arith,
                    p.so_far.fulfilled,
                    more.fulfilled,
                    ap (count fulfils) split,
                    count_append fulfils (filter (reads c) (take from ts)) (filter (reads c) (block_of query from to)),
                  );
              read =
                  omega (
                    arith,
                    p.so_far.read,
                    more.read,
                    ap total split,
                    total_append (filter (reads c) (take from ts)) (filter (reads c) (block_of query from to)),
                  );
            };
      }

  pub passed_all : length (traces_in query.kept) ≤ from → ReplaysAll c (filter (reads c) (traces_in query.kept)) (record { fulfilled = 0; events_read = events_read }) all
  passed_all all_passed =
      subst (λ ts. ReplaysAll c (filter (reads c) ts) (record { fulfilled = 0; events_read = events_read }) all)
      (take_all from (traces_in query.kept) all_passed) p.so_far

-- Laws of the store that hold for its definitions alone: what a sound memory keeps, and what one trace more changes.
-- Assumes nothing.
use Prim.Native.Nat.{ℕ, suc, ◌+◌, ◌-◌, ◌*◌, ◌≤◌, ◌<◌}
use native.Mathlib.Numerals.{add-one}
use native.Mathlib.Omega.{arith}
use mathlib.Core.Path.{◌≡◌, refl, sym, ap, ◌∙◌}
use mathlib.Core.Bool.{true, ◌&&◌, and-true, and_assoc}
use mathlib.Core.List.{List, [], ◌∷◌, ◌++◌, map, map-append}
use borrow.Author.Tests.{leb-true, le-leb, eqb-true, eq-eqb}
use lib.Dec.{leb, ltb, eqb}
use lib.ListN.{length, take, drop, set, length-append, length-set}
use Rattle.std.proofs.Common.{take-add}
use Rattle.std.proofs.Math.Seq.{length-slice}
use lib.Seq.{slice, length-sets, sets-eq, length-take-le, take-take, take_at, drop_at, take-suc-set}
use Rattle.std.specs.List.{list_all}
use Rattle.base.specs.Lists.{equal_lists}
use Rattle.base.proofs.Lists.{part_slice, all_append, all_joined, equal_lists_same, equal_lists_refl}
use Rattle.base.proofs.Bools.{and_left, and_right, and_both}
use Rattle.base.proofs.Ranges.{range_facts}
use Rattle.declare.specs.Traces.{most_activities, longest_trace, declarable, all_below}
use Rattle.eventlog.specs.Store.{most_traces, Memory, memory, cut, kept, total}
use Rattle.eventlog.specs.Store.{last_from, last_end, rising, sound, room, after_traces}
use Rattle.eventlog.specs.Calls.{empty, with_trace}
use Rattle.eventlog.specs.Words.{word_of}

-- ## A sound memory, by its facts

abbrev pub kept_ends : Memory → List ℕ
kept_ends m = take m.store.traces m.ends

abbrev pub kept_words : Memory → List ℕ
kept_words m = take m.store.traces m.words

pub record Sound (m : Memory) : Type 0 where
  pub some_activity : 1 ≤ m.store.activities
  pub few_activities : m.store.activities ≤ most_activities
  pub few_traces : m.store.traces ≤ most_traces
  pub has_ends : m.store.traces ≤ length m.ends
  pub rises : rising 0 (kept_ends m) ≡ true
  pub fits : last_end m ≤ length m.events
  pub declared : all_below m.store.activities (take (last_end m) m.events) ≡ true
  pub has_words : m.store.traces ≤ length m.words
  pub right_words : kept_words m ≡ map word_of (kept m)

pub sound_facts : (m : Memory) → sound m ≡ true → Sound m
unfolding sound
sound_facts m h =
    let range = declarable m.store.activities in
    let few = leb m.store.traces most_traces in
    let has_ends = leb m.store.traces (length m.ends) in
    let rises = rising 0 (kept_ends m) in
    let fits = leb (last_end m) (length m.events) in
    let declared = all_below m.store.activities (take (last_end m) m.events) in
    let has_words = leb m.store.traces (length m.words) in
    let right_words = equal_lists eqb (kept_words m) (map word_of (kept m)) in
    let h7 = and_left (range && few && has_ends && rises && fits && declared && has_words) right_words h in
    let h6 = and_left (range && few && has_ends && rises && fits && declared) has_words h7 in
    let h5 = and_left (range && few && has_ends && rises && fits) declared h6 in
    let h4 = and_left (range && few && has_ends && rises) fits h5 in
    let h3 = and_left (range && few && has_ends) rises h4 in
    let h2 = and_left (range && few) has_ends h3 in
    let bounds = range_facts 1 m.store.activities most_activities (and_left range few h2) in
    record {
      some_activity = bounds.0;
      few_activities = bounds.1;
      few_traces = leb-true _ _ (and_right range few h2);
      has_ends = leb-true _ _ (and_right (range && few) has_ends h3);
      rises = and_right (range && few && has_ends) rises h4;
      fits = leb-true _ _ (and_right (range && few && has_ends && rises) fits h5);
      declared = and_right (range && few && has_ends && rises && fits) declared h6;
      has_words = leb-true _ _ (and_right (range && few && has_ends && rises && fits && declared) has_words h7);
      right_words =
          equal_lists_same eqb eqb-true (kept_words m) (map word_of (kept m))
          (and_right (range && few && has_ends && rises && fits && declared && has_words) right_words h);
    }

pub facts_sound : (m : Memory) → Sound m → sound m ≡ true
unfolding sound
facts_sound m s =
    simp (
      le-leb _ _ s.some_activity,
      le-leb _ _ s.few_activities,
      le-leb _ _ s.few_traces,
      le-leb _ _ s.has_ends,
      s.rises,
      le-leb _ _ s.fits,
      s.declared,
      le-leb _ _ s.has_words,
      s.right_words,
      equal_lists_refl eqb (λ x. eq-eqb x x refl) (map word_of (kept m)),
    )

-- ## Rising ends

-- the first end of a rising list, and the rest
pub record Rises (last end : ℕ) (ends : List ℕ) : Type 0 where
  pub above : last ≤ end
  pub near : end ≤ last + longest_trace
  pub rest : rising end ends ≡ true

pub rising_facts : (last end : ℕ) (ends : List ℕ) → rising last (end ∷ ends) ≡ true → Rises last end ends
rising_facts last end ends h =
    let k = and_right (leb last end) _ h in
    record {
      above = leb-true _ _ (and_left (leb last end) _ h);
      near = leb-true _ _ (and_left (leb end (last + longest_trace)) _ k);
      rest = and_right (leb end (last + longest_trace)) _ k;
    }

pub rises_on : (last : ℕ) (ends : List ℕ) → rising last ends ≡ true → last ≤ last_from last ends
rises_on last [] h = omega arith
rises_on last (end ∷ ends) h =
    let r = rising_facts last end ends h in
    omega (arith, rises_on end ends r.rest)

pub rises_bound : (last : ℕ) (ends : List ℕ) → rising last ends ≡ true → last_from last ends ≤ last + 4096 * length ends
rises_bound last [] h = omega arith
rises_bound last (end ∷ ends) h =
    let r = rising_facts last end ends h in
    omega (arith, rises_bound end ends r.rest)

pub last_snoc : (last : ℕ) (ends : List ℕ) (end : ℕ) → last_from last (ends ++ (end ∷ [])) ≡ end
last_snoc last [] end = refl
last_snoc last (e ∷ ends) end = last_snoc e ends end

pub rising_snoc :
    (last : ℕ) (ends : List ℕ) (end : ℕ) → rising last ends ≡ true →
    last_from last ends ≤ end → end ≤ last_from last ends + longest_trace →
    rising last (ends ++ (end ∷ [])) ≡ true
rising_snoc last [] end h low high = and_both _ _ (le-leb _ _ low) (and_both _ _ (le-leb _ _ high) refl)
rising_snoc last (e ∷ ends) end h low high =
    let r = rising_facts last e ends h in
    and_both _ _ (le-leb _ _ r.above) (and_both _ _ (le-leb _ _ r.near) (rising_snoc e ends end r.rest low high))

-- ## The traces that ends cut off

pub cut_length : (from : ℕ) (ends events : List ℕ) → length (cut from ends events) ≡ length ends
cut_length from [] events = refl
cut_length from (end ∷ ends) events = ap suc (cut_length end ends events)

pub total_append : (xs ys : List (List ℕ)) → total (xs ++ ys) ≡ total xs + total ys
total_append [] ys = omega arith
total_append (x ∷ xs) ys = omega (arith, total_append xs ys)

-- what the ends cut off reaches from the first of them to the last
pub cut_total :
    (from : ℕ) (ends events : List ℕ) → rising from ends ≡ true → last_from from ends ≤ length events →
    from + total (cut from ends events) ≡ last_from from ends
cut_total from [] events h fits = omega arith
cut_total from (end ∷ ends) events h fits =
    let r = rising_facts from end ends h in
    let part = length-slice from end events (omega (arith, rises_on end ends r.rest)) in
    omega (arith, part, r.above, cut_total end ends events r.rest fits)

pub cut_snoc :
    (from : ℕ) (ends : List ℕ) (end : ℕ) (events : List ℕ) →
    cut from (ends ++ (end ∷ [])) events ≡ cut from ends events ++ (slice (last_from from ends) end events ∷ [])
cut_snoc from [] end events = refl
cut_snoc from (e ∷ ends) end events = rw (cut_snoc e ends end events)

-- events past the last end do not matter
pub cut_same :
    (from : ℕ) (ends : List ℕ) (last : ℕ) (events events' : List ℕ) → rising from ends ≡ true → last_from from ends ≤ last →
    take last events ≡ take last events' → cut from ends events ≡ cut from ends events'
cut_same from [] last events events' h within same = refl
cut_same from (end ∷ ends) last events events' h within same =
    let r = rising_facts from end ends h in
    let on = rises_on end ends r.rest in
    let low : end ≤ last = omega arith in
    let first : take end events ≡ take end events' =
    sym (take-take end last events low) ∙ ap (take end) same ∙ take-take end last events' low in
    cc (ap (drop from) first, cut_same end ends last events events' r.rest within same)

-- what lies before the last end is declared just where what lies before the first and all the traces are
declared_parts :
    (n from : ℕ) (ends events : List ℕ) → rising from ends ≡ true →
    all_below n (take (last_from from ends) events) ≡ all_below n (take from events) && list_all (all_below n) (cut from ends events)
declared_parts n from [] events h = sym (and-true (all_below n (take from events)))
declared_parts n from (end ∷ ends) events h =
    let r = rising_facts from end ends h in
    let front = all_below n (take from events) in
    let here = all_below n (slice from end events) in
    let rest = list_all (all_below n) (cut end ends events) in
    let two : all_below n (take end events) ≡ front && here =
    ap (λ k. all_below n (take k events)) (there end r.above)
    ∙ ap (all_below n) (take-add from (end - from) events)
    ∙ all_joined (λ x. ltb x n) (take from events) (take (end - from) (drop from events))
    ∙ ap (λ part. front && all_below n part) (part_slice from end events r.above) in
    declared_parts n end ends events r.rest ∙ ap (λ t. t && rest) two ∙ and_assoc front here rest
  where
    there : (end : ℕ) → from ≤ end → end ≡ from + (end - from)
    there end above = omega arith

-- from the first event on
pub declared_traces :
    (n : ℕ) (ends events : List ℕ) → rising 0 ends ≡ true →
    all_below n (take (last_from 0 ends) events) ≡ list_all (all_below n) (cut 0 ends events)
declared_traces n ends events h = declared_parts n 0 ends events h

-- ## What a sound memory keeps

pub kept_length : (m : Memory) → sound m ≡ true → length (kept m) ≡ m.store.traces
unfolding kept
kept_length m h =
    cut_length 0 (kept_ends m) m.events ∙ length-take-le _ _ (sound_facts m h).has_ends

-- the kept traces reach to the last end
pub kept_total : (m : Memory) → sound m ≡ true → total (kept m) ≡ last_end m
unfolding kept last_end
kept_total m h =
    let s = sound_facts m h in
    omega (arith, cut_total 0 (kept_ends m) m.events s.rises s.fits)

-- every kept trace has declared activities alone
pub kept_declared : (m : Memory) → sound m ≡ true → list_all (all_below m.store.activities) (kept m) ≡ true
unfolding kept last_end
kept_declared m h =
    let s = sound_facts m h in
    sym (declared_traces m.store.activities (kept_ends m) m.events s.rises) ∙ s.declared

pub last_end_bound : (m : Memory) → sound m ≡ true → last_end m ≤ 4096 * m.store.traces
unfolding last_end
last_end_bound m h =
    let s = sound_facts m h in
    omega (arith, rises_bound 0 (kept_ends m) s.rises, length-take-le m.store.traces m.ends s.has_ends)

-- ## One trace more

-- a trace that add accepts in memory m
pub record Addable (m : Memory) (trace : List ℕ) : Type 0 where
  pub declared : all_below m.store.activities trace ≡ true
  pub short : length trace ≤ longest_trace
  pub below_most : m.store.traces < most_traces
  pub has_end : m.store.traces < length m.ends
  pub has_word : m.store.traces < length m.words
  pub fits : last_end m + length trace ≤ length m.events

module _ (m : Memory) (trace : List ℕ) (h : sound m ≡ true) (a : Addable m trace) where
  s : Sound m
  s = sound_facts m h

  kept_ends_added : kept_ends (with_trace m trace) ≡ kept_ends m ++ ((last_end m + length trace) ∷ [])
  kept_ends_added = rw add-one (take-suc-set m.ends m.store.traces (last_end m + length trace) a.has_end)

  pub last_end_added : last_end (with_trace m trace) ≡ last_end m + length trace
  unfolding last_end
  last_end_added = rw kept_ends_added (last_snoc 0 (kept_ends m) _)

  pub room_added : room (with_trace m trace) ≡ after_traces (room m) (trace ∷ [])
  room_added =
      let more : last_end m + length trace ≡ last_end m + total (trace ∷ []) = omega arith in
      rw (last_end_added, length-sets, length-set m.ends, length-set m.words, more)

  length_before : length (take (last_end m) m.events) ≡ last_end m
  length_before = length-take-le (last_end m) m.events s.fits

  -- what lies before the new last end: the old events, then the trace
  pub events_added :
      take (last_end m + length trace) (with_trace m trace).events ≡ take (last_end m) m.events ++ trace
  events_added =
      rw (sets-eq trace m.events (last_end m) a.fits)
      (take_at (take (last_end m) m.events ++ trace) _ (last_end m + length trace)
      (length-append (take (last_end m) m.events) trace ∙ ap (λ (k : ℕ). k + length trace) length_before))

  events_before : take (last_end m) (with_trace m trace).events ≡ take (last_end m) m.events
  events_before =
      sym (take-take (last_end m) (last_end m + length trace) _ (omega arith))
      ∙ ap (take (last_end m)) events_added
      ∙ take_at (take (last_end m) m.events) trace (last_end m) length_before

  pub kept_added : kept (with_trace m trace) ≡ kept m ++ (trace ∷ [])
  unfolding kept last_end
  kept_added =
      rw (kept_ends_added, cut_snoc, events_added)
      (cc (
        cut_same 0 (kept_ends m) (last_end m) _ m.events s.rises (omega arith) events_before,
        drop_at (take (last_end m) m.events) trace (last_end m) length_before,
      ))

  words_added : kept_words (with_trace m trace) ≡ map word_of (kept (with_trace m trace))
  words_added =
      ap (λ (k : ℕ). take k (set m.words m.store.traces (word_of trace))) (add-one m.store.traces)
      ∙ take-suc-set m.words m.store.traces (word_of trace) a.has_word
      ∙ (ap (λ (l : List ℕ). l ++ (word_of trace ∷ [])) s.right_words
      ∙ sym (ap (map word_of) kept_added ∙ map-append word_of (kept m) (trace ∷ [])))

  pub sound_added : sound (with_trace m trace) ≡ true
  unfolding last_end
  sound_added =
      facts_sound (with_trace m trace)
      (record {
        some_activity = s.some_activity;
        few_activities = s.few_activities;
        few_traces = omega (arith, a.below_most);
        has_ends = simp length-set (omega (arith, a.has_end));
        rises = rw kept_ends_added (rising_snoc 0 (kept_ends m) _ s.rises (omega arith) (omega (arith, a.short)));
        fits = rw last_end_added (simp length-sets a.fits);
        declared = rw (last_end_added, events_added) (all_append _ (take (last_end m) m.events) trace s.declared a.declared);
        has_words = simp length-set (omega (arith, a.has_word));
        right_words = words_added;
      })

-- ## A fresh store

module _ (n : ℕ) (events ends words : List ℕ) where
  abbrev pub fresh : Memory
  fresh = memory (empty n) events ends words

  pub fresh_kept : kept fresh ≡ []
  unfolding kept
  fresh_kept = refl

  pub fresh_sound : declarable n ≡ true → sound fresh ≡ true
  unfolding last_end
  fresh_sound declared =
      let range = range_facts 1 n most_activities declared in
      facts_sound fresh
      (record {
        some_activity = range.0;
        few_activities = range.1;
        few_traces = omega arith;
        has_ends = omega arith;
        rises = refl;
        fits = omega arith;
        declared = refl;
        has_words = omega arith;
        right_words = sym (ap (map word_of) fresh_kept);
      })

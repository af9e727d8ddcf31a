-- What start and step leave, by their loops, is `slots_after`.
-- Assumes nothing.
use Prim.Native.Nat.{ℕ, ◌+◌, ◌*◌, ◌/◌, ◌%◌, ◌≤◌, ◌<◌}
use native.Mathlib.Omega.{arith}
use mathlib.Core.Path.{◌≡◌, sym, ap, ap₂, ◌∙◌}
use mathlib.Core.Bool.{true, ◌&&◌}
use mathlib.Core.List.{List, [], ◌∷◌, ◌++◌, map}
use borrow.Author.Tests.{eqb-true, ltb-true, ltb-false, not-false}
use lib.Dec.{eqb, ltb}
use lib.ListN.{length, get_or, drop, length-append, length-map, get_or-append}
use lib.Seq.{drop_at}
use Rattle.std.specs.List.{list_all}
use Rattle.base.specs.Lists.{range}
use Rattle.base.specs.Checks.{gives, reply}
use Rattle.base.specs.Logic.{in_range}
use Rattle.base.proofs.Bools.{and_left, and_right}
use Rattle.base.proofs.Ranges.{range_facts}
use Rattle.base.proofs.Lists.{map_map, all_map, all_range, same_on_range, range_at, range_length}
use Rattle.base.proofs.Checks.{NoneFail, none_fail}
use Rattle.declare.specs.declared.constraints.Constraint.{Constraint}
use Rattle.declare.specs.Constraints.{pairs, Over}
use Rattle.declare.specs.Traces.{declarable}
use Rattle.automata.proofs.Shifting.{follow_small}
use Rattle.automata.proofs.Following.{follow_append}
use Rattle.automata.specs.Ahead.{state_number, outlook}
use Rattle.watcher.specs.Calls.{constraint_at, given, proper, all_whole, Slots, slots_after, start_checks}
use Rattle.watcher.specs.Table.{table, place, state_after}
use Rattle.watcher.specs.Loops.{each_of, put, first_turn, turn_by}
use Rattle.watcher.proofs.Filling.{all_filled}
use Rattle.watcher.proofs.Looking.{outlook_there, next_there}

-- ## What start accepts

pub proper_over : (n : ℕ) (c : Constraint) → proper n c ≡ true → Over n c
proper_over n c h =
    let range-test = in_range 1 c.template 24 in
    let a_test = ltb c.a n in
    let b-test = ltb c.b n in
    let all-but-pair = and_left (range-test && a_test && b-test) (pairs c.template c.a c.b) h in
    let first_two = and_left (range-test && a_test) b-test all-but-pair in
    let ranged = range_facts 1 c.template 24 (and_left range-test a_test first_two) in
    record {
      from_1 = ranged.0;
      to_24 = ranged.1;
      a_declared = ltb-true c.a n (and_right range-test a_test first_two);
      b_declared = ltb-true c.b n (and_right (range-test && a_test) b-test all-but-pair);
      paired = and_right (range-test && a_test && b-test) (pairs c.template c.a c.b) h;
    }

-- ## The constraints by their places

module _ (numbers : List ℕ) where
  count : ℕ
  count = length numbers / 3

  -- by places: what is made of each constraint, and then what was there
  abbrev placed : (ℕ → ℕ) → List ℕ → List ℕ
  placed f l = map f (range 0 count) ++ drop count l

  pub given_length : length (given numbers) ≡ length numbers / 3
  unfolding given
  given_length = length-map (range 0 (length numbers / 3)) (constraint_at numbers) ∙ range_length 0 (length numbers / 3)

  by_places : (f : Constraint → ℕ) (l : List ℕ)
      → map f (given numbers) ++ drop (length (given numbers)) l ≡ placed (λ i. f (constraint_at numbers i)) l
  unfolding count given
  by_places f l = ap₂ (λ x k. x ++ drop k l) (map_map f (constraint_at numbers) (range 0 count)) given_length

  placed_length : (f : ℕ → ℕ) → length (map f (range 0 count)) ≡ count
  placed_length f = length-map (range 0 count) f ∙ range_length 0 count

  placed_at : (f : ℕ → ℕ) (l : List ℕ) (i : ℕ) → i < count → get_or (placed f l) i 0 ≡ f i
  placed_at f l i h = get_or-append (map f (range 0 count)) (drop count l) 0 i (omega (arith, placed_length f)) ∙ range_at f count i 0 h

  placed_past : (f : ℕ → ℕ) (l : List ℕ) → drop count (placed f l) ≡ drop count l
  placed_past f l = drop_at (map f (range 0 count)) (drop count l) count (placed_length f)

-- ## What start accepts, and what is left

module _ (n : ℕ) (numbers : List ℕ) (started : reply (start_checks n numbers) [] ≡ gives []) where
  passes : NoneFail (start_checks n numbers)
  passes = none_fail (start_checks n numbers) [] [] started

  pub few_activities : n ≤ 32
  few_activities = (range_facts 1 n 32 (not-false (declarable n) passes.0)).1

  pub not_many : length numbers ≤ 768
  not_many = ltb-false 768 (length numbers) passes.1.0

  well : all_whole n numbers ≡ true
  well = not-false (all_whole n numbers) passes.1.1.0

  pub none_cut : 3 * (length numbers / 3) ≡ length numbers
  none_cut =
      let no-rest = eqb-true (length numbers % 3) 0 (and_left (eqb (length numbers % 3) 0) (list_all (proper n) (given numbers)) well) in omega arith

  pub all_proper : list_all (proper n) (given numbers) ≡ true
  all_proper = and_right (eqb (length numbers % 3) 0) (list_all (proper n) (given numbers)) well

  -- whatever was lent, each constraint has a place in what is left
  left_room : (f : Constraint → ℕ) (l : List ℕ) → length numbers / 3 ≤ length (map f (given numbers) ++ drop (length (given numbers)) l)
  left_room f l =
      let both = length-append (map f (given numbers)) (drop (length (given numbers)) l) in
      let made = length-map (given numbers) f in
      let counted = given_length numbers in omega arith

  pub each_over : (i : ℕ) → i < length numbers / 3 → Over n (constraint_at numbers i)
  unfolding given
  each_over i h =
      proper_over n (constraint_at numbers i)
      (all_range (λ i. proper n (constraint_at numbers i)) 0 (length numbers / 3) i
      (sym (all_map (proper n) (constraint_at numbers) (range 0 (length numbers / 3))) ∙ all_proper) (omega arith) (omega arith))

  table_here : List ℕ
  table_here = table (eqb n 1)

  state_at : List ℕ → ℕ → ℕ
  state_at trace i = state_after (constraint_at numbers i) trace

  -- what is told is what the states tell
  told_by : (trace : List ℕ) (i : ℕ) → i < count numbers → outlook n (constraint_at numbers i) trace ≡ get_or table_here (4 * state_at trace i + 3) 0
  unfolding count table_here state_at
  told_by trace i h =
      let c = constraint_at numbers i in
      let over = each_over i h in
      let small = follow_small c.template over.from_1 over.to_24 c.a c.b 0 trace (omega arith) in
      sym (outlook_there (eqb n 1) c.template (state_number c trace) over.from_1 over.to_24 small)

  after_placed : (before : Slots) (trace : List ℕ)
      → slots_after n numbers before trace
      ≡ record {
        states = placed numbers (state_at trace) before.states;
        told = placed numbers (λ i. get_or table_here (4 * state_at trace i + 3) 0) before.told;
      }
  unfolding state_at
  after_placed before trace =
      ap₂ (λ x y. record { states = x; told = y })
      (by_places numbers (λ c. state_after c trace) before.states)
      (by_places numbers (λ c. outlook n c trace) before.told
      ∙ ap (λ l. l ++ drop (count numbers) before.told)
      (same_on_range (λ i. outlook n (constraint_at numbers i) trace) (λ i. get_or table_here (4 * state_at trace i + 3) 0) 0 (count numbers)
      (λ i h. told_by trace i (omega arith))))

  module _ (before : Slots) (states-fit : length numbers / 3 ≤ length before.states) (told_fit : length numbers / 3 ≤ length before.told) where
    pub starting : each_of (first_turn (table (eqb n 1)) numbers) (length numbers / 3) 0 before ≡ slots_after n numbers before []
    unfolding count table_here state_at
    starting =
        all_filled table_here (first_turn table_here numbers) (count numbers) (state_at []) before
        (λ i l h same.
        let over = each_over i h in
        ap (λ k. put table_here i k l) (omega arith))
        states-fit told_fit
        ∙ sym (after_placed before [])

  module _ (before : Slots) (trace : List ℕ) (activity : ℕ) where
    next_state : (i : ℕ) → i < count numbers → (state : ℕ) → state ≡ state_at trace i
        → get_or table_here (place (constraint_at numbers i).a (constraint_at numbers i).b state activity) 0 ≡ state_at (trace ++ (activity ∷ [])) i
    unfolding count state_at table_here
    next_state i h state e =
        let c = constraint_at numbers i in
        let over = each_over i h in
        let small = follow_small c.template over.from_1 over.to_24 c.a c.b 0 trace (omega arith) in
        ap (λ k. get_or table_here (place c.a c.b k activity) 0) e
        ∙ next_there (eqb n 1) c.template (state_number c trace) over.from_1 over.to_24 small c.a c.b activity
        ∙ ap (λ k. c.template + 32 * k) (sym (follow_append c.template c.a c.b 0 trace (activity ∷ [])))

    pub stepping :
        each_of (turn_by (table (eqb n 1)) numbers activity) (length numbers / 3) 0 (slots_after n numbers before trace)
        ≡ slots_after n numbers before (trace ++ (activity ∷ []))
    unfolding count table_here
    stepping =
        let l₀ = slots_after n numbers before trace in
        let known = after_placed before trace in
        let tell : ℕ → ℕ = λ i. get_or table_here (4 * state_at (trace ++ (activity ∷ [])) i + 3) 0 in
        all_filled table_here (turn_by table_here numbers activity) (count numbers) (state_at (trace ++ (activity ∷ []))) l₀
        (λ i l h same.
        ap (λ k. put table_here i k l)
        (next_state i h (get_or l.states i 0)
        (same ∙ ap (λ (l : Slots). get_or l.states i 0) known ∙ placed_at numbers (state_at trace) before.states i h)))
        (left_room (λ c. state_after c trace) before.states) (left_room (λ c. outlook n c trace) before.told)
        ∙ ap₂ (λ x y. record { states = map (state_at (trace ++ (activity ∷ []))) (range 0 (count numbers)) ++ x; told = map tell (range 0 (count numbers)) ++ y })
        (ap (λ (l : Slots). drop (count numbers) l.states) known ∙ placed_past numbers (state_at trace) before.states)
        (ap (λ (l : Slots). drop (count numbers) l.told) known ∙ placed_past numbers (λ i. get_or table_here (4 * state_at trace i + 3) 0) before.told)
        ∙ sym (after_placed before (trace ++ (activity ∷ [])))

-- What the automata's states tell is the state of the definition: one test over the table, and one lemma.
-- Assumes nothing.
use Prim.Native.Nat.{ℕ, zero, suc, ◌<◌}
use native.Mathlib.Omega.{arith}
use mathlib.Core.Path.{◌≡◌, refl, sym, ap, subst, ◌∙◌}
use mathlib.Core.Bool.{Bool, true, false, not, ◌&&◌, ◌||◌, beq}
use mathlib.Core.Logic.{◌⊎◌, inl, inr}
use mathlib.Core.List.{List, [], ◌∷◌, ◌++◌}
use borrow.Author.Tests.{eqb-true, eqb-false, ltb-true, lt-ltb, not-true, eq-eqb, ne_eqb}
use lib.Dec.{eqb, leb, ltb}
use Rattle.std.specs.Prelude.{if◌then◌else◌}
use Rattle.base.specs.Logic.{◌implies◌}
use Rattle.std.specs.List.{list_all}
use Rattle.base.specs.Lists.{range}
use Rattle.base.proofs.Bools.{equal_same, and_left, and_right, and_both, implied, fails_too, either, at_both, clash, not_itself}
use Rattle.base.proofs.Lists.{all_range, all_append}
use Rattle.declare.specs.declared.constraints.Constraint.{Constraint}
use Rattle.declare.specs.Constraints.{Over}
use Rattle.declare.specs.Traces.{all_below}
use Rattle.automata.specs.Automata.{next_of, verdict_of, follow, letter}
use Rattle.automata.specs.Outlook.{holds_on, Every, Some, State}
use Rattle.automata.specs.Ahead.{holds_in, second, reaches, outlook_in, state_number, outlook}
use Rattle.automata.proofs.Agreement.{letter_small}
use Rattle.automata.proofs.Shifting.{at_every_state, next_small, follow_small}
use Rattle.automata.proofs.Following.{follow_append, follow_holds_constraint}

-- ## The four exclude each other

-- a state by whether the constraint holds, and whether that is settled
abbrev Reading : ℕ → Constraint → List ℕ → ℕ → Bool → Type 0
Reading n c trace s truth =
    (holds_on c trace ≡ truth)
    × ((Every n c trace truth × (s ≡ (if truth then 0 else 3))) ⊎ (Some n c trace (not truth) × (s ≡ (if truth then 1 else 2))))

read : (n : ℕ) (c : Constraint) (trace : List ℕ) (s : ℕ) → State n c trace s → (truth : Bool) × Reading n c trace s truth
read n c trace zero h = (true, (h.0, inl (h.1, refl)))
read n c trace (suc zero) h = (true, (h.0, inr (h.1, refl)))
read n c trace (suc (suc zero)) h = (false, (h.0, inr (h.1, refl)))
read n c trace (suc (suc (suc zero))) h = (false, (h.0, inl (h.1, refl)))
read n c trace (suc (suc (suc (suc s)))) h = absurd h

module _ (n : ℕ) (c : Constraint) (trace : List ℕ) where
  agree : (truth : Bool) (s s' : ℕ) → Reading n c trace s truth → Reading n c trace s' truth → s ≡ s'
  agree truth s s' h k = go h.1 k.1
    where
      against : Every n c trace truth → Some n c trace (not truth) → s ≡ s'
      against every some = not_itself truth (sym (every some.0 some.1) ∙ some.2)

      go : (Every n c trace truth × (s ≡ (if truth then 0 else 3))) ⊎ (Some n c trace (not truth) × (s ≡ (if truth then 1 else 2)))
          → (Every n c trace truth × (s' ≡ (if truth then 0 else 3))) ⊎ (Some n c trace (not truth) × (s' ≡ (if truth then 1 else 2)))
          → s ≡ s'
      go (inl x) (inl y) = x.1 ∙ sym y.1
      go (inl x) (inr y) = against x.0 y.0
      go (inr x) (inl y) = against y.0 x.0
      go (inr x) (inr y) = x.1 ∙ sym y.1

  pub exclude : (s s' : ℕ) → State n c trace s → State n c trace s' → s ≡ s'
  exclude s s' h k =
      let x = read n c trace s h in
      let y = read n c trace s' k in
      agree x.0 s s' x.1 (subst (Reading n c trace s') (sym y.1.0 ∙ x.1.0) y.1)

-- ## The test over the table: what is settled stays so under every letter that can come

-- of one activity no b comes, and nothing else where it is the only one declared
abbrev comes : Bool → ℕ → ℕ → Bool
comes only template letter = if leb template 8 then eqb letter 0 || (eqb letter 2 && not only) else true

-- no way leads from a state to one of the other truth
abbrev settled : Bool → ℕ → Bool → ℕ → Bool
settled only template truth k = not (reaches only template (not truth) 3 k)

-- what is settled in a state is so in the next one
abbrev passed_on : Bool → ℕ → ℕ → ℕ → Bool → Bool
passed_on only template k next truth = settled only template truth k implies settled only template truth next

abbrev stays : Bool → ℕ → ℕ → ℕ → Bool
stays only template k letter =
    let next = next_of template k letter in
    comes only template letter implies (passed_on only template k next true && passed_on only template k next false)

-- with others declared, and without (then there are templates 1 to 8 alone, but the test holds of all)
all_stay : (only : Bool) → list_all (λ t. list_all (λ k. list_all (stays only t k) (range 0 3)) (range 0 8)) (range 1 24) ≡ true
unfolding next_of verdict_of
all_stay true = refl
all_stay false = refl

-- ## The lemma

-- where no way leads to the other truth, the state has this one
settled_holds : (only : Bool) (template : ℕ) (truth : Bool) (k : ℕ) → settled only template truth k ≡ true → holds_in template k ≡ truth
settled_holds only template truth k h = go (holds_in template k) truth _ _ (not-true _ h)
  where
    go : (held truth by_a otherwise : Bool) → beq held (not truth) || by_a || otherwise ≡ false → held ≡ truth
    go true true by_a otherwise e = refl
    go true false by_a otherwise e = clash refl e
    go false true by_a otherwise e = clash refl e
    go false false by_a otherwise e = refl

module _ (n : ℕ) (c : Constraint) (over : Over n c) where
  -- a constraint on one activity repeats it
  repeats : leb c.template 8 ≡ true → c.a ≡ c.b
  repeats h = eqb-true c.a c.b (rw h at over.paired)

  -- a constraint on two has two
  apart : leb c.template 8 ≡ false → c.a ≡ c.b → ⊥
  apart h same =
      either (leb c.template 12) (λ k. omega (arith, ltb-true c.a c.b (rw (h, k) at over.paired)))
      (λ k. eqb-false c.a c.b (not-true _ (rw (h, k) at over.paired)) same)

  letter_comes : (x : ℕ) → x < n → comes (eqb n 1) c.template (letter c.a c.b x) ≡ true
  letter_comes x small =
      either (leb c.template 8)
      (λ h. rw (h, ← repeats h)
      (either (eqb x c.a) (λ e. rw e) (λ e. rw (e, ne_eqb n 1 (λ f. eqb-false x c.a e (omega arith))))))
      (λ h. rw h)

  stays_at : (k letter : ℕ) → k < 8 → letter < 3 → stays (eqb n 1) c.template k letter ≡ true
  stays_at k letter small few =
      all_range (stays (eqb n 1) c.template k) 0 3 letter
      (at_every_state (λ t k. list_all (stays (eqb n 1) t k) (range 0 3)) (all_stay (eqb n 1)) c.template k over.from_1 over.to_24 small) (omega arith) few

  abbrev led_to : ℕ → List ℕ → ℕ
  led_to k more = follow c.template c.a c.b k more

  settled_on : (truth : Bool) (k x : ℕ) → k < 8 → x < n → settled (eqb n 1) c.template truth k ≡ true
      → settled (eqb n 1) c.template truth (next_of c.template k (letter c.a c.b x)) ≡ true
  settled_on truth k x small declared h =
      let l = letter c.a c.b x in
      let passed = passed_on (eqb n 1) c.template k (next_of c.template k l) in
      let both = implied _ (passed true && passed false) (stays_at k l small (letter_small c.a c.b x)) (letter_comes x declared) in
      implied _ _ (at_both passed both truth) h

  -- what is settled stays so, whatever comes
  settled_stays : (truth : Bool) (k : ℕ) (more : List ℕ) → k < 8 → all_below n more ≡ true
      → settled (eqb n 1) c.template truth k ≡ true → holds_in c.template (led_to k more) ≡ truth
  settled_stays truth k [] small within h = settled_holds (eqb n 1) c.template truth k h
  settled_stays truth k (x ∷ more) small within h =
      let rest = all_below n more in
      let l = letter c.a c.b x in
      settled_stays truth (next_of c.template k l) more
      (next_small c.template over.from_1 over.to_24 k l small (letter_small c.a c.b x))
      (and_right (ltb x n) rest within)
      (settled_on truth k x small (ltb-true x n (and_left (ltb x n) rest within)) h)

  -- a declared activity for the second letter
  beside_a : ℕ
  beside_a = if leb c.template 8 then (if eqb c.a 0 then 1 else 0) else c.b

  beside_a_says : not (eqb n 1 && leb c.template 8) ≡ true → (beside_a < n) × (letter c.a c.b beside_a ≡ second c.template)
  unfolding beside_a
  beside_a_says h =
      either (leb c.template 8)
      (λ few.
      let several : n ≡ 1 → ⊥ = eqb-false n 1 (fails_too (eqb n 1) (eqb n 1 && leb c.template 8) (λ e. and_both _ _ e few) (not-true _ h)) in
      let other : (x : ℕ) → (x ≡ c.a → ⊥) → letter c.a c.b x ≡ 2 = λ x g. rw (← repeats few, ne_eqb x c.a g) in
      rw few
      (either (eqb c.a 0)
      (λ e. rw e (omega arith, other 1 (λ g. omega (arith, eqb-true c.a 0 e))))
      (λ e. rw e (omega arith, other 0 (λ g. eqb-false c.a 0 e (sym g))))))
      (λ many. rw many (over.b_declared, rw (ne_eqb c.b c.a (λ g. apart many (sym g)), eq-eqb c.b c.b refl)))

  abbrev Way : Bool → ℕ → Type 0
  Way truth k = (more : List ℕ) × (all_below n more ≡ true) × (holds_in c.template (led_to k more) ≡ truth)

  through : (truth : Bool) (k x l : ℕ) → x < n → letter c.a c.b x ≡ l → Way truth (next_of c.template k l) → Way truth k
  through truth k x l declared e w =
      (x ∷ w.0, and_both (ltb x n) _ (lt-ltb x n declared) w.1, rw e w.2)

  way_out : (truth : Bool) (letters k : ℕ) → reaches (eqb n 1) c.template truth letters k ≡ true → Way truth k
  way_out truth zero k h = ([], refl, equal_same _ _ h)
  way_out truth (suc letters) k h =
      let here = beq (holds_in c.template k) truth in
      let by_a = reaches (eqb n 1) c.template truth letters (next_of c.template k 0) in
      let there-is = not (eqb n 1 && leb c.template 8) in
      let otherwise = reaches (eqb n 1) c.template truth letters (next_of c.template k (second c.template)) in
      either here (λ e. ([], refl, equal_same _ _ e))
      (λ e. either by_a
      (λ f. through truth k c.a 0 over.a_declared (rw (eq-eqb c.a c.a refl)) (way_out truth letters (next_of c.template k 0) f))
      (λ f.
      let beside = rw (e, f) at h in
      let there = beside_a_says (and_left there-is otherwise beside) in
      through truth k beside_a (second c.template) there.0 there.1
      (way_out truth letters (next_of c.template k (second c.template)) (and_right there-is otherwise beside))))

  module _ (trace : List ℕ) (within : all_below n trace ≡ true) where
    here : ℕ
    here = state_number c trace

    -- after more, the state reached from here tells whether the constraint holds
    later : (more : List ℕ) → all_below n more ≡ true → holds_in c.template (led_to here more) ≡ holds_on c (trace ++ more)
    unfolding here
    later more declared =
        ap (holds_in c.template) (sym (follow_append c.template c.a c.b 0 trace more))
        ∙ follow_holds_constraint n c over (trace ++ more) (all_append (λ x. ltb x n) trace more within declared)

    every : (truth : Bool) → reaches (eqb n 1) c.template (not truth) 3 here ≡ false → Every n c trace truth
    unfolding here
    every truth none more declared =
        sym (later more declared)
        ∙ settled_stays truth here more (follow_small c.template over.from_1 over.to_24 c.a c.b 0 trace (omega arith)) declared (rw none)

    some : (truth : Bool) → reaches (eqb n 1) c.template truth 3 here ≡ true → Some n c trace truth
    some truth found = let way = way_out truth 3 here found in (way.0, way.1, sym (later way.0 way.1) ∙ way.2)

    by_cases : (holding un-holds holds : Bool) → holds_on c trace ≡ holding
        → reaches (eqb n 1) c.template false 3 here ≡ un-holds → reaches (eqb n 1) c.template true 3 here ≡ holds
        → State n c trace (if holding then (if un-holds then 1 else 0) else (if holds then 2 else 3))
    by_cases true true holds e f g = (e, some false f)
    by_cases true false holds e f g = (e, every true f)
    by_cases false un-holds true e f g = (e, some true g)
    by_cases false un-holds false e f g = (e, every false g)

    -- what the automaton's state tells after a trace is the constraint's state
    pub outlook_right : State n c trace (outlook n c trace)
    unfolding outlook_in here
    outlook_right = by_cases (holds_in c.template here) _ _ (sym (follow_holds_constraint n c over trace within)) refl refl

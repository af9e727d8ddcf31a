-- The tables agree with the summary of the trace, and so with the templates' meanings. They are followed beside the summary, all templates at
-- once: from the start the three letters lead to 154 places, and at each the verdicts are the same, and tell whether the template holds.
-- Assumes nothing.
use Prim.Native.Nat.{ℕ, ◌+◌, ◌*◌, ◌≤◌, ◌<◌}
use native.Mathlib.Omega.{arith}
use mathlib.Core.Path.{◌≡◌, refl, sym, ap, ap₂, ◌∙◌}
use mathlib.Core.Bool.{Bool, true, false, ◌&&◌, beq}
use mathlib.Core.List.{List, [], ◌∷◌, map}
use mir.Val.{bool_byte}
use borrow.Author.Tests.{eqb-true, eqb-false}
use lib.Dec.{eqb}
use lib.ListN.{get_or}
use Rattle.std.specs.Prelude.{if◌then◌else◌}
use Rattle.std.specs.List.{list_all}
use Rattle.base.specs.Lists.{range, equal_lists}
use Rattle.base.proofs.Bools.{equal_same, and_left, and_right}
use Rattle.base.proofs.Lists.{equal_lists_same, all_range, range_at}
use Rattle.declare.specs.declared.Verdict.{Verdict}
use Rattle.declare.specs.declared.Verdict.TheVariants.{Fulfilled, NotActivated, Violated}
use Rattle.declare.specs.Meaning.{holds, verdict}
use Rattle.automata.specs.Automata.{next_of, verdict_of, letter, follow, byte_of, told, stands}
use Rattle.declare.proofs.Summary.{Summary, summary, flags_of, with_event, stepped_all, answer, summed}
use Rattle.declare.proofs.Deciding.{decides_holds, decides}
use Rattle.declare.proofs.Reaching.{among, explored, passed}

-- ## The places

-- Where a trace leads to: the states' numbers, by the templates' numbers (0 is none's), and the flags of the summary. The key is the flags as
-- one number: by it a place is told from others at once.
record Place : Type 0 where
  key : ℕ
  states : List ℕ
  flags : List Bool

abbrev number : List Bool → ℕ
number [] = 0
number (p ∷ flags) = bool_byte p + 2 * number flags

abbrev place : List ℕ → List Bool → Place
place states flags = record { key = number flags; states = states; flags = flags }

-- the place that a letter leads on to
abbrev onward : Place → ℕ → Place
onward p letter =
    place (map (λ t. next_of t (get_or p.states t 0) letter) (range 0 25)) (flags_of (with_event (summary 0 0 p.flags) (eqb letter 0) (eqb letter 1)))

abbrev same : Place → Place → Bool
same p q = eqb p.key q.key && (equal_lists beq p.flags q.flags && equal_lists eqb p.states q.states)

abbrev at_first : Place
at_first = place (map (λ t. 0) (range 0 25)) (flags_of (summary 0 0 []))

-- the verdict of a template's state is the summary's
abbrev right : Place → ℕ → Bool
right p t = eqb (byte_of (verdict_of t (get_or p.states t 0))) (byte_of (summed (summary 0 0 p.flags) t))

-- it tells whether the template holds
abbrev telling : Place → ℕ → Bool
telling p t = beq (stands (verdict_of t (get_or p.states t 0))) (answer (summary 0 0 p.flags) t)

-- a letter leads on to a place among these
abbrev leads : List Place → Place → ℕ → Bool
leads places p letter = among same (onward p letter) places

-- the verdicts are right, and each letter leads on
abbrev fine : List Place → Place → Bool
fine places p = (list_all (right p) (range 1 24) && list_all (telling p) (range 1 24)) && list_all (leads places p) (range 0 3)

abbrev closed : List Place → Bool
closed places = among same at_first places && list_all (fine places) places

unfoldable places : List Place
unfolding next_of
places = explored same (λ p. map (onward p) (range 0 3)) 463 (at_first ∷ []) []

places_closed : closed places ≡ true
unfolding places next_of verdict_of summed answer
places_closed = refl

-- ## What is so at each place of the list

same_equal : (p q : Place) → same p q ≡ true → p ≡ q
same_equal p q h =
    let flags = equal_lists beq p.flags q.flags in
    let states = equal_lists eqb p.states q.states in
    let lists = and_right (eqb p.key q.key) (flags && states) h in
    let k = eqb-true _ _ (and_left (eqb p.key q.key) (flags && states) h) in
    let f = equal_lists_same beq equal_same _ _ (and_left flags states lists) in
    let s = equal_lists_same eqb eqb-true _ _ (and_right flags states lists) in
    λ i. record { key = k i; states = s i; flags = f i }

-- ## Verdicts and letters

told_byte : (v : Verdict) → told (byte_of v) ≡ v
told_byte Fulfilled = refl
told_byte NotActivated = refl
told_byte Violated = refl

pub letter_small : (a b x : ℕ) → letter a b x < 3
letter_small a b x = go (eqb x a) (eqb x b)
  where
    go : (p q : Bool) → (if p then 0 else if q then 1 else 2) < 3
    go true q = omega arith
    go false true = omega arith
    go false false = omega arith

-- with a and b different, a letter tells of both
letter_says : (a b x : ℕ) → eqb a b ≡ false → (eqb (letter a b x) 0 ≡ eqb x a) × (eqb (letter a b x) 1 ≡ eqb x b)
letter_says a b x apart = go (eqb x a) (eqb x b) refl refl
  where
    go : (p q : Bool) → eqb x a ≡ p → eqb x b ≡ q
        → let l : ℕ = if p then 0 else if q then 1 else 2 in (eqb l 0 ≡ p) × (eqb l 1 ≡ q)
    go true true e f = absurd (eqb-false a b apart (sym (eqb-true x a e) ∙ eqb-true x b f))
    go true false e f = (refl, refl)
    go false true e f = (refl, refl)
    go false false e f = (refl, refl)

-- ## The agreement

module _ (p : Place) (found : among same p places ≡ true) where
  is_fine : (list_all (right p) (range 1 24) ≡ true) × (list_all (telling p) (range 1 24) ≡ true) × (list_all (leads places p) (range 0 3) ≡ true)
  is_fine =
      let All-right = list_all (right p) (range 1 24) in
      let all_tell = list_all (telling p) (range 1 24) in
      let all_lead = list_all (leads places p) (range 0 3) in
      let all_fine = and_right (among same at_first places) (list_all (fine places) places) places_closed in
      let h = passed same same_equal (fine places) p places all_fine found in
      let both = and_left (All-right && all_tell) all_lead h in
      (and_left All-right all_tell both, and_right All-right all_tell both, and_right (All-right && all_tell) all_lead h)

  onward_found : (letter : ℕ) → letter < 3 → among same (onward p letter) places ≡ true
  onward_found letter h = all_range (leads places p) 0 3 letter is_fine.2 (omega arith) h

  module _ (template : ℕ) (low : 1 ≤ template) (high : template ≤ 24) where
    same_verdict : verdict_of template (get_or p.states template 0) ≡ summed (summary 0 0 p.flags) template
    same_verdict =
        let v = verdict_of template (get_or p.states template 0) in
        let w = summed (summary 0 0 p.flags) template in
        sym (told_byte v)
        ∙ ap told (eqb-true (byte_of v) (byte_of w) (all_range (right p) 1 24 template is_fine.0 low (omega arith)))
        ∙ told_byte w

    same_answer : stands (verdict_of template (get_or p.states template 0)) ≡ answer (summary 0 0 p.flags) template
    same_answer = equal_same _ _ (all_range (telling p) 1 24 template is_fine.1 low (omega arith))

module _ (template a b : ℕ) (low : 1 ≤ template) (high : template ≤ 24) (apart : eqb a b ≡ false) where
  -- what is read off a state by the table, and what is read off the summary, agree after a trace where they agree at each place
  agree_from : {A : Type 0} (of-state : ℕ → A) (of-summary : Summary → A)
      → ((p : Place) → among same p places ≡ true → of-state (get_or p.states template 0) ≡ of-summary (summary a b p.flags))
      → (p : Place) (trace : List ℕ) → among same p places ≡ true
      → of-state (follow template a b (get_or p.states template 0) trace) ≡ of-summary (stepped_all (summary a b p.flags) trace)
  agree_from of-state of-summary there p [] found = there p found
  agree_from of-state of-summary there p (x ∷ trace) found =
      let l = letter a b x in
      let says = letter_says a b x apart in
      let at_once = range_at (λ t. next_of t (get_or p.states t 0) l) 25 template 0 (omega arith) in
      ap (λ k. of-state (follow template a b k trace)) (sym at_once)
      ∙ agree_from of-state of-summary there (onward p l) trace (onward_found p found l (letter_small a b x))
      ∙ ap₂ (λ is_a is_b. of-summary (stepped_all (with_event (summary a b p.flags) is_a is_b) trace)) says.0 says.1

  agree_at_first : {A : Type 0} (of-state : ℕ → A) (of-summary : Summary → A)
      → ((p : Place) → among same p places ≡ true → of-state (get_or p.states template 0) ≡ of-summary (summary a b p.flags))
      → (trace : List ℕ) → of-state (follow template a b 0 trace) ≡ of-summary (stepped_all (summary a b []) trace)
  agree_at_first of-state of-summary there trace =
      ap (λ k. of-state (follow template a b k trace)) (sym (range_at (λ t. 0) 25 template 0 (omega arith)))
      ∙ agree_from of-state of-summary there at_first trace (and_left (among same at_first places) _ places_closed)

  -- by the tables, a trace leads from state 0 to a state that has the trace's verdict
  pub follow_right : (trace : List ℕ) → verdict_of template (follow template a b 0 trace) ≡ verdict template a b trace
  unfolding summed answer
  follow_right trace =
      agree_at_first (verdict_of template) (λ s. summed s template) (λ p found. same_verdict p found template low high) trace
      ∙ decides template a b trace

  -- and this verdict tells whether the template holds
  pub follow_holds : (trace : List ℕ) → stands (verdict_of template (follow template a b 0 trace)) ≡ holds template a b trace
  unfolding answer
  follow_holds trace =
      agree_at_first (λ k. stands (verdict_of template k)) (λ s. answer s template) (λ p found. same_answer p found template low high) trace
      ∙ decides_holds template a b trace

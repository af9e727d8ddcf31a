-- The summary of a trace decides every template. Each law is one induction over the trace, from any summary.
-- Assumes nothing.
use Prim.Native.Nat.{ℕ, suc, ◌+◌}
use native.Mathlib.Omega.{arith}
use native.Mathlib.Nat.{add-zero, zero-add}
use mathlib.Core.Path.{◌≡◌, refl, sym, ap, ap₂, ◌∙◌}
use mathlib.Core.Bool.{Bool, true, false, not, ◌&&◌, ◌||◌, or_assoc}
use mathlib.Core.List.{List, [], ◌∷◌, ◌++◌, map, append_assoc, append-nil}
use borrow.Author.Tests.{le-leb, lt-leb, leb-true, leb-false}
use lib.Dec.{eqb, leb, leb-suc-suc, leb-zero}
use lib.ListN.{get_or, get_or-map}
use Rattle.std.specs.Prelude.{if◌then◌else◌}
use Rattle.base.specs.Logic.{◌implies◌}
use Rattle.declare.specs.Meaning.{Test, Meaning, each_on, each, some, occurs, times, starts_with, ends_with, response, alternate_response, chain_response, precedence, alternate_precedence, chain_precedence, meanings, never, holds, activated, verdict}
use Rattle.declare.proofs.Summary.{Summary, no_event_yet, stepped, stepped_all, answers, answer, summed}
use Rattle.base.proofs.Bools.{Expression, agree, by_cases}
use Rattle.declare.proofs.Places.{occurs_on, occurs_snoc, ends_snoc, b_before_a, unanswered, b_before_a_cons, unanswered_snoc}

-- ## What has occurred

-- One law for the two: a flag that takes up each occurrence of an activity.
module _ (flag : Summary → Bool) (activity : Summary → ℕ) (takes-up : (s : Summary) (x : ℕ) → flag (stepped s x) ≡ flag s || eqb x (activity s))
    (stays : (s : Summary) (x : ℕ) → activity (stepped s x) ≡ activity s) where
  occurred : (s : Summary) (trace : List ℕ) → flag (stepped_all s trace) ≡ flag s || occurs (activity s) trace
  unfolding agree
  occurred s [] = by_cases 1 (λ p. p) (λ p. p || false) refl (flag s)
  occurred s (x ∷ trace) =
      rw (occurs_on (activity s) (x ∷ []) trace)
      (occurred (stepped s x) trace
      ∙ rw (takes-up s x, stays s x) (or_assoc (flag s) (eqb x (activity s)) (occurs (activity s) trace)))

pub one_after : (s : Summary) (trace : List ℕ) → (stepped_all s trace).one ≡ s.one || occurs s.a trace
one_after = occurred (λ s. s.one) (λ s. s.a) (λ s x. refl) (λ s x. refl)

pub seen_after : (s : Summary) (trace : List ℕ) → (stepped_all s trace).seen ≡ s.seen || occurs s.b trace
seen_after = occurred (λ s. s.seen) (λ s. s.b) (λ s x. refl) (λ s x. refl)

-- ## Each a, and what comes after it

-- a test of each place at which a stands
abbrev at_each : ℕ → (List ℕ → Bool) → Test
at_each a p before x after = eqb x a implies p after

-- One law for the five: `fine` has no a whose test has failed, `waits` has one whose test is still to come, and `read` is read off at the end.
module _ (test : Meaning) (fine waits read : Summary → Bool)
    (at_end : (s : Summary) → read s ≡ fine s && ((waits s implies test s.a s.b []) && true))
    (keeps : (s : Summary) (x : ℕ) (trace : List ℕ) (rest : Bool)
    → fine (stepped s x) && ((waits (stepped s x) implies test s.a s.b trace) && rest)
    ≡ fine s && ((waits s implies test s.a s.b (x ∷ trace)) && ((eqb x s.a implies test s.a s.b trace) && rest))) where
  each_after : (s : Summary) (before trace : List ℕ)
      → read (stepped_all s trace) ≡ fine s && ((waits s implies test s.a s.b trace) && each_on before trace (at_each s.a (test s.a s.b)))
  each_after s before [] = at_end s
  each_after s before (x ∷ trace) =
      each_after (stepped s x) (before ++ (x ∷ [])) trace
      ∙ keeps s x trace (each_on (before ++ (x ∷ [])) trace (at_each s.a (test s.a s.b)))

owed_after : (a b : ℕ) (trace : List ℕ) → not (stepped_all (no_event_yet a b) trace).owed ≡ response a b trace
unfolding agree
owed_after a b trace =
    each_after (λ a b. occurs b) (λ s. true) (λ s. s.owed) (λ s. not s.owed)
    (λ s. by_cases 1 (λ o. not o) (λ o. (o implies false) && true) refl s.owed)
    (λ s x trace rest.
    rw (occurs_on s.b (x ∷ []) trace)
    (by_cases 5 (λ o is_a is_b h e. ((is_a || (o && not is_b)) implies h) && e)
    (λ o is_a is_b h e. (o implies (is_b || h)) && ((is_a implies h) && e))
    refl
    s.owed
    (eqb x s.a)
    (eqb x s.b)
    (occurs s.b trace)
    rest))
    (no_event_yet a b) [] trace

alternate_after : (a b : ℕ) (trace : List ℕ)
    → not (stepped_all (no_event_yet a b) trace).owed && not (stepped_all (no_event_yet a b) trace).doubled ≡ alternate_response a b trace
unfolding agree
alternate_after a b trace =
    each_after (λ a b after. some after (b_before_a a b)) (λ s. not s.doubled) (λ s. s.owed) (λ s. not s.owed && not s.doubled)
    (λ s. by_cases 2 (λ o d. not o && not d) (λ o d. not d && ((o implies false) && true)) refl s.owed s.doubled)
    (λ s x trace rest.
    rw (b_before_a_cons s.a s.b x trace)
    (by_cases 6 (λ d o is_a is_b h e. not (d || (is_a && (o && not is_b))) && (((is_a || (o && not is_b)) implies h) && e))
    (λ d o is_a is_b h e. not d && ((o implies (is_b || (not is_a && h))) && ((is_a implies h) && e)))
    refl
    s.doubled
    s.owed
    (eqb x s.a)
    (eqb x s.b)
    (some trace (b_before_a s.a s.b))
    rest))
    (no_event_yet a b) [] trace

chain_after : (a b : ℕ) (trace : List ℕ)
    → not (stepped_all (no_event_yet a b) trace).missed && not (stepped_all (no_event_yet a b) trace).last ≡ chain_response a b trace
unfolding agree
chain_after a b trace =
    each_after (λ a b. starts_with b) (λ s. not s.missed) (λ s. s.last) (λ s. not s.missed && not s.last)
    (λ s. by_cases 2 (λ m l. not m && not l) (λ m l. not m && ((l implies false) && true)) refl s.missed s.last)
    (λ s x trace rest.
    by_cases 6 (λ m l is_a is_b h e. not (m || (l && not is_b)) && ((is_a implies h) && e))
    (λ m l is_a is_b h e. not m && ((l implies is_b) && ((is_a implies h) && e)))
    refl
    s.missed
    s.last
    (eqb x s.a)
    (eqb x s.b)
    (starts_with s.b trace)
    rest)
    (no_event_yet a b) [] trace

later_after : (a b : ℕ) (trace : List ℕ)
    → not (stepped_all (no_event_yet a b) trace).later ≡ each trace (at_each a (λ after. not (occurs b after)))
unfolding agree
later_after a b trace =
    each_after (λ a b after. not (occurs b after)) (λ s. not s.later) (λ s. s.one) (λ s. not s.later)
    (λ s. by_cases 2 (λ l o. not l) (λ l o. not l && ((o implies true) && true)) refl s.later s.one)
    (λ s x trace rest.
    rw (occurs_on s.b (x ∷ []) trace)
    (by_cases 6 (λ l o is_a is_b h e. not (l || (is_b && o)) && (((o || is_a) implies not h) && e))
    (λ l o is_a is_b h e. not l && ((o implies not (is_b || h)) && ((is_a implies not h) && e)))
    refl
    s.later
    s.one
    (eqb x s.a)
    (eqb x s.b)
    (occurs s.b trace)
    rest))
    (no_event_yet a b) [] trace

next_after : (a b : ℕ) (trace : List ℕ)
    → not (stepped_all (no_event_yet a b) trace).next ≡ each trace (at_each a (λ after. not (starts_with b after)))
unfolding agree
next_after a b trace =
    each_after (λ a b after. not (starts_with b after)) (λ s. not s.next) (λ s. s.last) (λ s. not s.next)
    (λ s. by_cases 2 (λ n l. not n) (λ n l. not n && ((l implies true) && true)) refl s.next s.last)
    (λ s x trace rest.
    by_cases 6 (λ n l is_a is_b h e. not (n || (is_b && l)) && ((is_a implies not h) && e))
    (λ n l is_a is_b h e. not n && ((l implies not is_b) && ((is_a implies not h) && e)))
    refl
    s.next
    s.last
    (eqb x s.a)
    (eqb x s.b)
    (starts_with s.b trace)
    rest)
    (no_event_yet a b) [] trace

-- ## Each b, and what came before it

-- One law for the three: `ready` keeps up with a test of what came before, and each b that finds it false is noted in `bad`.
module _ (a b : ℕ) (test : List ℕ → Bool) (ready bad : Summary → Bool)
    (catches : (s : Summary) (x : ℕ) → s.b ≡ b → bad (stepped s x) ≡ bad s || (eqb x b && not (ready s)))
    (keeps : (s : Summary) (x : ℕ) (before : List ℕ) → s.a ≡ a → s.b ≡ b → ready s ≡ test before
    → ready (stepped s x) ≡ test (before ++ (x ∷ []))) where
  bad_after : (s : Summary) (before trace : List ℕ) → s.a ≡ a → s.b ≡ b → ready s ≡ test before
      → not (bad (stepped_all s trace)) ≡ not (bad s) && each_on before trace (λ before x after. eqb x b implies test before)
  unfolding agree
  bad_after s before [] d e h = by_cases 1 (λ p. not p) (λ p. not p && true) refl (bad s)
  bad_after s before (x ∷ trace) d e h =
      bad_after (stepped s x) (before ++ (x ∷ [])) trace d e (keeps s x before d e h)
      ∙ rw (catches s x e, h)
      (by_cases 4 (λ p is_b t r. not (p || (is_b && not t)) && r) (λ p is_b t r. not p && ((is_b implies t) && r)) refl
      (bad s)
      (eqb x b)
      (test before)
      (each_on (before ++ (x ∷ [])) trace (λ before x after. eqb x b implies test before)))

early_after : (a b : ℕ) (trace : List ℕ) → not (stepped_all (no_event_yet a b) trace).early ≡ precedence a b trace
early_after a b trace =
    bad_after a b (occurs a) (λ s. s.one) (λ s. s.early) (λ s x e. ap (λ (n : ℕ). s.early || (eqb x n && not s.one)) e)
    (λ s x before d e h.
    ap₂ (λ (p : Bool) (n : ℕ). p || eqb x n) h d
    ∙ sym (occurs_snoc a x before))
    (no_event_yet a b) [] trace refl refl refl

bare_after : (a b : ℕ) (trace : List ℕ) → not (stepped_all (no_event_yet a b) trace).bare ≡ alternate_precedence a b trace
bare_after a b trace =
    bad_after a b (λ before. some before (unanswered a b)) (λ s. s.owed) (λ s. s.bare)
    (λ s x e. ap (λ (n : ℕ). s.bare || (eqb x n && not s.owed)) e)
    (λ s x before d e h.
    ap (λ (p : Bool). eqb x s.a || (p && not (eqb x s.b))) h
    ∙ ap₂ (λ (m n : ℕ). eqb x m || (some before (unanswered a b) && not (eqb x n))) d e
    ∙ sym (unanswered_snoc a b x [] before))
    (no_event_yet a b) [] trace refl refl refl

loose_after : (a b : ℕ) (trace : List ℕ) → not (stepped_all (no_event_yet a b) trace).loose ≡ chain_precedence a b trace
loose_after a b trace =
    bad_after a b (ends_with a) (λ s. s.last) (λ s. s.loose) (λ s x e. ap (λ (n : ℕ). s.loose || (eqb x n && not s.last)) e)
    (λ s x before d e h. ap (λ (n : ℕ). eqb x n) d ∙ sym (ends_snoc a x before))
    (no_event_yet a b) [] trace refl refl refl

-- ## How often, first and last

-- the flags are those of a count
abbrev Counts : Summary → ℕ → Type 0
Counts s n = (s.one ≡ leb 1 n) × (s.two ≡ leb 2 n) × (s.three ≡ leb 3 n)

weaker : (p q : Bool) → (p ≡ true → q ≡ true) → p || q ≡ q
weaker true q h = sym (h refl)
weaker false q h = refl

-- n, and one more where it is so
abbrev more : Bool → ℕ → ℕ
more is-so n = if is-so then suc n else n

bound_more : (k n : ℕ) (is-so : Bool) → leb (suc k) n || (is-so && leb k n) ≡ leb (suc k) (more is-so n)
unfolding agree
bound_more k n false = by_cases 1 (λ p. p || false) (λ p. p) refl (leb (suc k) n)
bound_more k n true =
    weaker (leb (suc k) n) (leb k n) (λ h. le-leb k n (omega (arith, leb-true (suc k) n h))) ∙ sym (leb-suc-suc k n)

more_add : (is-so : Bool) (n m : ℕ) → more is-so n + m ≡ n + more is-so m
more_add true n m = omega arith
more_add false n m = refl

counts_step : (s : Summary) (n x : ℕ) → Counts s n → Counts (stepped s x) (more (eqb x s.a) n)
unfolding agree
counts_step s n x h =
    let is_a = eqb x s.a in (
      ap (λ (p : Bool). p || is_a) h.0
          ∙ by_cases 2 (λ p q. p || q) (λ p q. p || (q && true)) refl (leb 1 n) is_a
          ∙ ap (λ (p : Bool). leb 1 n || (is_a && p)) (sym (leb-zero n))
          ∙ bound_more 0 n is_a,
      ap₂ (λ (p q : Bool). p || (is_a && q)) h.1 h.0 ∙ bound_more 1 n is_a,
      ap₂ (λ (p q : Bool). p || (is_a && q)) h.2 h.1 ∙ bound_more 2 n is_a,
    )

counts_after : (s : Summary) (n : ℕ) (trace : List ℕ) → Counts s n → Counts (stepped_all s trace) (n + times s.a trace)
counts_after s n [] h = rw add-zero h
counts_after s n (x ∷ trace) h =
    rw (more_add (eqb x s.a) n (times s.a trace)) at
    (counts_after (stepped s x) (more (eqb x s.a) n) trace (counts_step s n x h))

first_after : (s : Summary) (trace : List ℕ) → (stepped_all s trace).first ≡ s.first || (not s.started && starts_with s.a trace)
unfolding agree
first_after s [] = by_cases 2 (λ f t. f) (λ f t. f || (not t && false)) refl s.first s.started
first_after s (x ∷ trace) =
    first_after (stepped s x) trace
    ∙ by_cases 4 (λ f t is_a h. (f || (is_a && not t)) || (false && h)) (λ f t is_a h. f || (not t && is_a)) refl
    s.first
    s.started
    (eqb x s.a)
    (starts_with s.a trace)

last_after : (s : Summary) (before trace : List ℕ) → s.last ≡ ends_with s.a before → (stepped_all s trace).last ≡ ends_with s.a (before ++ trace)
last_after s before [] h = rw append-nil h
last_after s before (x ∷ trace) h =
    last_after (stepped s x) (before ++ (x ∷ [])) trace (sym (ends_snoc s.a x before)) ∙ rw append_assoc

-- ## The verdict

not_more : (n k : ℕ) → not (leb (suc k) n) ≡ leb n k
not_more n k = go (leb (suc k) n) refl
  where
    go : (p : Bool) → leb (suc k) n ≡ p → not p ≡ leb n k
    go true h = sym (lt-leb n k (leb-true (suc k) n h))
    go false h = sym (le-leb n k (omega (arith, leb-false (suc k) n h)))

infixr 20 ◌then◌
◌then◌ : {x y : Bool} {xs ys : List Bool} → x ≡ y → xs ≡ ys → x ∷ xs ≡ y ∷ ys
p then q = ap₂ ◌∷◌ p q

module _ (a b : ℕ) (trace : List ℕ) where
  end : Summary
  end = stepped_all (no_event_yet a b) trace

  counts : Counts end (times a trace)
  unfolding end
  counts = rw zero-add at (counts_after (no_event_yet a b) 0 trace (refl, refl, refl))

  at_most : (p : Bool) (k : ℕ) → p ≡ leb (suc k) (times a trace) → not p ≡ leb (times a trace) k
  at_most p k h = ap not h ∙ not_more (times a trace) k

  -- an expression in whether a and b have occurred
  occurring : (f g : Expression 2) → agree 2 f g ≡ true → f end.one end.seen ≡ g (occurs a trace) (occurs b trace)
  unfolding end
  occurring f g h = ap₂ f (one_after (no_event_yet a b) trace) (seen_after (no_event_yet a b) trace) ∙ by_cases 2 f g h (occurs a trace) (occurs b trace)

  -- the table of answers is the list of the templates' meanings
  answers_right : answers end ≡ map (λ (m : Meaning). m a b trace) (never ∷ meanings)
  unfolding meanings agree end
  answers_right =
      let s = no_event_yet a b in
      refl
      then counts.0
      then counts.1
      then counts.2
      then at_most end.one 0 counts.0
      then at_most end.two 1 counts.1
      then at_most end.three 2 counts.2
      then first_after s trace
      then last_after s [] trace refl
      then occurring (λ p q. p || q) (λ p q. p || q) refl
      then occurring (λ p q. (p || q) && not (p && q)) (λ p q. if p then not q else q) refl
      then occurring (λ p q. (p && q) || not (p || q)) (λ p q. if p then q else not q) refl
      then occurring (λ p q. not (p && q)) (λ p q. not (p && q)) refl
      then occurring (λ p q. not p || q) (λ p q. p implies q) refl
      then owed_after a b trace
      then alternate_after a b trace
      then chain_after a b trace
      then early_after a b trace
      then bare_after a b trace
      then loose_after a b trace
      then ap₂ ◌&&◌ (owed_after a b trace) (early_after a b trace)
      then ap₂ ◌&&◌ (alternate_after a b trace) (bare_after a b trace)
      then ap₂ ◌&&◌ (chain_after a b trace) (loose_after a b trace)
      then later_after a b trace
      then next_after a b trace
      then refl

  answer_right : (template : ℕ) → answer end template ≡ holds template a b trace
  unfolding answer holds meanings
  answer_right template =
      ap (λ (l : List Bool). get_or l template false) answers_right
      ∙ get_or-map (λ (m : Meaning). m a b trace) (never ∷ meanings) template never

-- after any trace, for every template number and every a and b, the summary tells whether the template holds
pub decides_holds : (template a b : ℕ) (trace : List ℕ) → answer (stepped_all (no_event_yet a b) trace) template ≡ holds template a b trace
unfolding end
decides_holds template a b trace = answer_right a b trace template

-- and the verdict read off it is the verdict of the definitions
pub decides : (template a b : ℕ) (trace : List ℕ) → summed (stepped_all (no_event_yet a b) trace) template ≡ verdict template a b trace
unfolding summed verdict activated end
decides template a b trace =
    simp (one_after (no_event_yet a b) trace, seen_after (no_event_yet a b) trace, answer_right a b trace template)

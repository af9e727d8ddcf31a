-- The order of the traces and the empty ones among them are nothing to discovery: alike traces have equal counts, lists and numbers.
-- Assumes nothing.
use Prim.Native.Nat.{ℕ, suc, ◌≤◌}
use mathlib.Core.Path.{◌≡◌, refl, sym, ap, ap₂, ◌∙◌, fun_ext}
use mathlib.Core.Logic.{◌↔◌, ∥∥₁_elim}
use mathlib.Core.Bool.{Bool, true, false, ◌&&◌, ◌||◌}
use mathlib.Core.List.Permᴰ
use mathlib.Core.List.{List, [], ◌∷◌, Permᴰ, Perm}
use native.Mathlib.Omega.{arith}
use native.Mathlib.Nat.{ℕ_set}
use borrow.Author.Tests.{eqb-true, eq-eqb}
use lib.Dec.{eqb}
use Rattle.std.specs.Prelude.{if◌then◌else◌}
use Rattle.declare.specs.Meaning.{activated, fulfilled}
use Rattle.declare.specs.declared.constraints.Constraint.{Constraint}
use Rattle.std.specs.List.{filter}
use Rattle.base.specs.Lists.{non_empty, count, equal_lists}
use Rattle.eventlog.proofs.Totals.{total_permuted, total_each_same}
use Rattle.pruning.specs.declared.Settings.{Settings}
use Rattle.pruning.specs.Question.{Question, question_over, trace_count, measure_of, meets, reads, fulfilments, activations, class_of, support, always, survives}
use Rattle.discovery.specs.Listing.{lists, rows, counts_of, is_listed, events_read, layout}
use Rattle.discovery.specs.Claims.{Alike}
use Rattle.base.proofs.Lists.{equal_lists_same, equal_lists_refl, count_cons, count_filter, count_none, permuted_length, permuted_count}

-- ## Alike is permuted

-- what alike counts
abbrev same : List ℕ → List ℕ → Bool
same = equal_lists eqb

same_equal : (xs ys : List ℕ) → same xs ys ≡ true → xs ≡ ys
same_equal = equal_lists_same eqb eqb-true

same_refl : (xs : List ℕ) → same xs xs ≡ true
same_refl = equal_lists_refl eqb (λ x. eq-eqb x x refl)

record Others (x : List ℕ) (xs : List (List ℕ)) : Type 0 where
  rest : List (List ℕ)
  moved : Permᴰ xs (x ∷ rest)

others : (x : List ℕ) (xs : List (List ℕ)) → 1 ≤ count (same x) xs → Others x xs
others x [] h = absurd (omega arith)
others x (y ∷ xs) h = go (same x y) refl (rw (count_cons (same x) y xs) at h) (others x xs)
  where
    go : (t : Bool) → same x y ≡ t → 1 ≤ (if t then suc (count (same x) xs) else count (same x) xs) →
        (1 ≤ count (same x) xs → Others x xs) → Others x (y ∷ xs)
    go true e h f = record { rest = xs; moved = Permᴰ.cons (sym (same_equal x y e)) (Permᴰ.refl xs) }
    go false e h f =
        let o = f h in
        record { rest = y ∷ o.rest; moved = Permᴰ.trans (Permᴰ.cons refl o.moved) (Permᴰ.swap refl refl) }

there_once : (x : List ℕ) (xs : List (List ℕ)) → 1 ≤ count (same x) (x ∷ xs)
there_once x xs = rw (count_cons (same x) x xs, same_refl x) (omega arith)

cons_same : (t : Bool) (j k : ℕ) → (if t then suc j else j) ≡ (if t then suc k else k) → j ≡ k
cons_same true j k h = omega arith
cons_same false j k h = h

-- of each trace equally many are a permutation
equal_permuted : (xs ys : List (List ℕ)) → ((t : List ℕ) → count (same t) xs ≡ count (same t) ys) → Permᴰ xs ys
equal_permuted [] [] h = Permᴰ.nil
equal_permuted [] (y ∷ ys) h = absurd (omega (arith, h y, there_once y ys))
equal_permuted (x ∷ xs) ys h =
    let o = others x ys (omega (arith, h x, there_once x xs)) in
    let equal : (t : List ℕ) → count (same t) xs ≡ count (same t) o.rest =
    λ t. cons_same (same t x) _ _ (sym (count_cons (same t) x xs) ∙ h t ∙ permuted_count (same t) o.moved ∙ count_cons (same t) x o.rest) in
    Permᴰ.trans (Permᴰ.cons refl (equal_permuted xs o.rest equal)) (Permᴰ.symm o.moved)

same_non_empty : (t x : List ℕ) → non_empty x && same t x ≡ non_empty t && same t x
same_non_empty [] [] = refl
same_non_empty [] (y ∷ x) = refl
same_non_empty (z ∷ t) [] = refl
same_non_empty (z ∷ t) (y ∷ x) = refl

-- among the traces of length 1 or more there is no empty one, and of each other as many as among all
of_non_empty : (t : List ℕ) (xs : List (List ℕ)) → count (same t) (filter non_empty xs) ≡ (if non_empty t then count (same t) xs else 0)
of_non_empty t xs = count_filter non_empty (same t) xs ∙ ap (λ p. count p xs) (fun_ext (same_non_empty t)) ∙ go (non_empty t)
  where
    go : (p : Bool) → count (λ x. p && same t x) xs ≡ (if p then count (same t) xs else 0)
    go true = refl
    go false = count_none xs

alike_permuted : (xs ys : List (List ℕ)) → Alike xs ys → Permᴰ (filter non_empty xs) (filter non_empty ys)
alike_permuted xs ys h =
    equal_permuted (filter non_empty xs) (filter non_empty ys) (λ t. of_non_empty t xs ∙ go t (non_empty t) (h t) ∙ sym (of_non_empty t ys))
  where
    go : (t : List ℕ) (p : Bool) → (p ≡ true → count (same t) xs ≡ count (same t) ys) → (if p then count (same t) xs else 0) ≡ (if p then count (same t) ys else 0)
    go t true h = h refl
    go t false h = refl

-- an empty trace more or less is nothing to what is alike
pub without_empty : (xs : List (List ℕ)) → Alike (filter non_empty xs) xs
without_empty xs t some = of_non_empty t xs ∙ rw some

permuted_alike : (xs ys : List (List ℕ)) → Permᴰ (filter non_empty xs) (filter non_empty ys) → Alike xs ys
permuted_alike xs ys d t some = sym (without_empty xs t some) ∙ permuted_count (same t) d ∙ without_empty ys t some

-- traces are alike just where those of length 1 or more are a permutation of each other
pub alike_just_permuted : (xs ys : List (List ℕ)) → Alike xs ys ↔ Perm (filter non_empty xs) (filter non_empty ys)
alike_just_permuted xs ys = (λ h. ∣ alike_permuted xs ys h ∣₁, λ d t some. ∥∥₁_elim d (ℕ_set _ _) (λ d. permuted_alike xs ys d t some))

-- ## Discovery over alike traces

-- questions over alike traces
pub record AlikeQuestions (q q' : Question) : Type 0 where
  pub activities : q.activities ≡ q'.activities
  pub settings : q.settings ≡ q'.settings
  pub traces : Permᴰ q.traces q'.traces

pub question_over_alike :
    {n n' : ℕ} {s s' : Settings} (xs ys : List (List ℕ)) → n ≡ n' → s ≡ s' → Alike xs ys →
    AlikeQuestions (question_over n xs s) (question_over n' ys s')
question_over_alike xs ys same-n same_settings alike =
    record { activities = same-n; settings = same_settings; traces = alike_permuted xs ys alike }

module _ (q q' : Question) (alike : AlikeQuestions q q') where
  pub trace_count_alike : trace_count q ≡ trace_count q'
  trace_count_alike = permuted_length alike.traces

  same_fulfilments : fulfilments q.traces ≡ fulfilments q'.traces
  unfolding fulfilments
  same_fulfilments = fun_ext (λ c. permuted_count (fulfilled c.template c.a c.b) alike.traces)

  same_activations : activations q.traces ≡ activations q'.traces
  unfolding activations
  same_activations = fun_ext (λ c. permuted_count (activated c.template c.a c.b) alike.traces)

  same_counts : counts_of q ≡ counts_of q'
  same_counts = ap₂ (λ f g c. record { fulfilled = f c; activated = g c }) same_fulfilments same_activations

  same_support : (c : Constraint) → support (class_of c.template) q.traces c ≡ support (class_of c.template) q'.traces c
  unfolding support
  same_support c = permuted_count _ alike.traces

  meets_alike : {x y : ℕ} → x ≡ y → meets (measure_of q) x ≡ meets (measure_of q') y
  meets_alike e = cc (ap (λ (s : Settings). s.threshold) alike.settings, trace_count_alike)

  pub is_listed_alike : is_listed q ≡ is_listed q'
  is_listed_alike =
      λ i c. lists (record { activities = alike.activities i; settings = alike.settings i; traces = trace_count_alike i }) (same_counts i c)

  pub survives_alike : survives q ≡ survives q'
  survives_alike = fun_ext (λ c. ap (λ p. always (class_of c.template) || p) (meets_alike (same_support c)))

  pub read_alike : (cs : List Constraint) → events_read q cs ≡ events_read q' cs
  unfolding events_read
  read_alike =
      total_each_same (λ c. filter (reads c) q.traces) (λ c. filter (reads c) q'.traces) (λ c. total_permuted (reads c) alike.traces)

  pub layout_alike : (cs : List Constraint) → layout q cs ≡ layout q' cs
  unfolding layout
  layout_alike cs = ap (λ counts. rows counts cs) same_counts

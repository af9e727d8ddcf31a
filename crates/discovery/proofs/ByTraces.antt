-- A find goes by N and the kept traces alone.
-- Assumes nothing.
use mathlib.Core.Path.{◌≡◌, sym, transport}
use mathlib.Core.Bool.{true}
use mathlib.Core.List.{List}
use Prim.Native.Nat.{ℕ}
use mathlib.Core.List.{[], ◌∷◌}
use mathlib.Core.Path.{refl}
use Rattle.base.specs.Checks.{Outcome}
use Rattle.eventlog.specs.Store.{memory, last_end}
use Rattle.eventlog.specs.Words.{word_of}
use Rattle.pruning.specs.Question.{Question, question_over}
use Rattle.discovery.specs.Calls.{find_checks, find_values, with_list}
use Rattle.base.specs.Checks.{Reply}
use Rattle.base.proofs.Outcomes.{past_check, one_outcome}
use Rattle.eventlog.specs.Store.{Memory, sound, kept}
use Rattle.pruning.specs.declared.Settings.{Settings}
use Rattle.discovery.specs.Calls.{Finds}
use Rattle.discovery.specs.Claims.{FindsOver, EqualWithoutWords}

by_traces :
    (m : Memory) (settings : Settings) (list : List ℕ) (said : Reply) (left : List ℕ) → sound m ≡ true → Finds m settings list said left →
    FindsOver m.store.activities (kept m) settings list said left
by_traces m settings list said left is_sound finds = past_check (rw is_sound) finds

pub equal_without_words : EqualWithoutWords
equal_without_words =
    record {
      without = by_traces;
      equal =
          λ m m' settings list said said' left left' is_sound is_sound' activities traces finds finds'.
          one_outcome (by_traces m settings list said left is_sound finds)
          (transport (λ i. FindsOver (sym activities i) (sym traces i) settings list said' left')
          (by_traces m' settings list said' left' is_sound' finds'));
    }

-- ## What the claim says of the trace 0, beside one word and beside three

abbrev one_word : Memory
one_word = memory (record { activities = 1; traces = 1 }) (0 ∷ []) (1 ∷ []) (1 ∷ [])

abbrev three_words : Memory
three_words = memory (record { activities = 1; traces = 1 }) (0 ∷ []) (1 ∷ []) (1 ∷ 6 ∷ 6 ∷ [])

abbrev of_0 : Settings → Question
of_0 settings = question_over 1 ((0 ∷ []) ∷ []) settings

over_0 :
    EqualWithoutWords → (settings : Settings) (list : List ℕ) (said : Reply) (left : List ℕ) → Finds three_words settings list said left →
    Outcome (find_checks (of_0 settings) list) (find_values (of_0 settings)) (with_list (of_0 settings) list) list said left
unfolding sound kept last_end word_of
over_0 claim settings list said left = claim.without three_words settings list said left refl

equal_0 :
    EqualWithoutWords → (settings : Settings) (list : List ℕ) (said said' : Reply) (left left' : List ℕ) → Finds one_word settings list said left →
    Finds three_words settings list said' left' → (said ≡ said') × (left ≡ left')
unfolding sound kept last_end word_of
equal_0 claim settings list said said' left left' = claim.equal one_word three_words settings list said said' left left' refl refl refl refl

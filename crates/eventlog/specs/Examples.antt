-- What is sound, the bounds of open and add, and the place that refusal 6 of add carries, computed from the definitions.
-- Assumes nothing.
use Rattle.std.specs.Prelude.{ℕ, ◌≡◌, refl, Bool, true, false, List, [], ◌∷◌, replicate}
use Rattle.base.specs.Checks.{gives, refused, reply}
use Rattle.eventlog.specs.declared.Room.{Room}
use Rattle.eventlog.specs.Store.{memory, kept, last_end, sound}
use Rattle.eventlog.specs.Words.{word_of}
use Rattle.eventlog.specs.Calls.{open_checks, declared_front, add_checks, checks_of_add, with_trace}

-- so many activities declared and traces kept, beside these events, ends and words
abbrev is_sound : ℕ → ℕ → List ℕ → List ℕ → List ℕ → Bool
is_sound activities traces events ends words = sound (memory (record { activities = activities; traces = traces }) events ends words)

-- N is 1 to 32; no more traces than 4095, or than ends; no end below the one before it, or more than 4096 above it; the last end within the
-- events; each event before it below N, and no other asked
soundness :
    (is_sound 0 0 [] [] [] ≡ false)
    × (is_sound 1 0 [] [] [] ≡ true)
    × (is_sound 32 0 [] [] [] ≡ true)
    × (is_sound 33 0 [] [] [] ≡ false)
    × (is_sound 2 4095 [] (replicate 4096 0) (replicate 4096 0) ≡ true)
    × (is_sound 2 4096 [] (replicate 4096 0) (replicate 4096 0) ≡ false)
    × (is_sound 2 1 [] (0 ∷ []) (0 ∷ []) ≡ true)
    × (is_sound 2 2 [] (0 ∷ []) (0 ∷ 0 ∷ []) ≡ false)
    × (is_sound 2 3 (0 ∷ 1 ∷ []) (1 ∷ 1 ∷ 2 ∷ []) (1 ∷ 0 ∷ 2 ∷ []) ≡ true)
    × (is_sound 2 3 (0 ∷ 1 ∷ []) (1 ∷ 2 ∷ 1 ∷ []) (1 ∷ 2 ∷ 0 ∷ []) ≡ false)
    × (is_sound 2 2 (0 ∷ 1 ∷ []) (1 ∷ 2 ∷ 1 ∷ []) (1 ∷ 2 ∷ 9 ∷ []) ≡ true)
    × (is_sound 2 2 (replicate 4097 0) (1 ∷ 4097 ∷ []) (1 ∷ 1 ∷ []) ≡ true)
    × (is_sound 2 1 (replicate 4097 0) (4097 ∷ []) (1 ∷ []) ≡ false)
    × (is_sound 2 1 (0 ∷ []) (2 ∷ []) (1 ∷ []) ≡ false)
    × (is_sound 2 1 (0 ∷ 2 ∷ 9 ∷ []) (2 ∷ []) (5 ∷ []) ≡ false)
    × (is_sound 2 1 (0 ∷ 1 ∷ 2 ∷ []) (2 ∷ []) (3 ∷ []) ≡ true)
unfolding sound kept last_end word_of
soundness = (refl, refl, refl, refl, refl, refl, refl, refl, refl, refl, refl, refl, refl, refl, refl, refl)

-- no more traces than words; each kept word that of its trace, with no bit too few and none too many, and no other asked
sound_words :
    (is_sound 3 2 (0 ∷ 2 ∷ 0 ∷ 1 ∷ []) (3 ∷ 4 ∷ []) (5 ∷ 2 ∷ []) ≡ true)
    × (is_sound 3 2 (0 ∷ 2 ∷ 0 ∷ 1 ∷ []) (3 ∷ 4 ∷ []) (5 ∷ []) ≡ false)
    × (is_sound 3 1 (0 ∷ 2 ∷ 0 ∷ 1 ∷ []) (3 ∷ 4 ∷ []) (5 ∷ []) ≡ true)
    × (is_sound 3 2 (0 ∷ 2 ∷ 0 ∷ 1 ∷ []) (3 ∷ 4 ∷ []) (4 ∷ 2 ∷ []) ≡ false)
    × (is_sound 3 2 (0 ∷ 2 ∷ 0 ∷ 1 ∷ []) (3 ∷ 4 ∷ []) (7 ∷ 2 ∷ []) ≡ false)
    × (is_sound 3 2 (0 ∷ 2 ∷ 0 ∷ 1 ∷ []) (3 ∷ 4 ∷ []) (5 ∷ 4294967295 ∷ []) ≡ false)
    × (is_sound 3 2 (0 ∷ 2 ∷ 0 ∷ 1 ∷ []) (3 ∷ 4 ∷ []) (2 ∷ 5 ∷ []) ≡ false)
    × (is_sound 3 1 (0 ∷ 2 ∷ 0 ∷ 1 ∷ []) (3 ∷ 4 ∷ []) (5 ∷ 9 ∷ []) ≡ true)
unfolding sound kept last_end word_of
sound_words = (refl, refl, refl, refl, refl, refl, refl, refl)

-- a trace appended: its events, its end and its word, each in its place, and all behind them as it was
appended :
    with_trace (memory (record { activities = 3; traces = 1 }) (0 ∷ 7 ∷ 7 ∷ 7 ∷ []) (1 ∷ 8 ∷ 8 ∷ []) (1 ∷ 9 ∷ 9 ∷ [])) (2 ∷ 0 ∷ [])
    ≡ memory (record { activities = 3; traces = 2 }) (0 ∷ 2 ∷ 0 ∷ 7 ∷ []) (1 ∷ 3 ∷ 8 ∷ []) (1 ∷ 5 ∷ 9 ∷ [])
unfolding last_end word_of
appended = refl

-- what is not sound is 1
wrong_word : reply (checks_of_add (memory (record { activities = 3; traces = 1 }) (0 ∷ []) (1 ∷ 0 ∷ []) (2 ∷ 0 ∷ [])) []) [] ≡ refused 1 0
unfolding sound kept last_end word_of declared_front
wrong_word = refl

-- bit s is set just where s occurs: of no activity, of the lowest, of two of which one comes again, and of the highest
words :
    (word_of [] ≡ 0)
    × (word_of (0 ∷ []) ≡ 1)
    × (word_of (2 ∷ 0 ∷ 2 ∷ []) ≡ 5)
    × (word_of (31 ∷ []) ≡ 2147483648)
unfolding word_of
words = (refl, refl, refl, refl)

-- two activities declared, no trace kept, room for one trace of four events
abbrev small : Room
small = record { activities = 2; traces = 0; last = 0; space = record { events = 4; ends = 1; words = 1 } }

-- undeclared at the first place, at the last, at both, at two in the middle, and nowhere; a trace with no room is refused for its place first
places :
    (reply (add_checks small (2 ∷ 0 ∷ 1 ∷ [])) [] ≡ refused 6 1)
    × (reply (add_checks small (0 ∷ 1 ∷ 2 ∷ [])) [] ≡ refused 6 3)
    × (reply (add_checks small (2 ∷ 0 ∷ 3 ∷ [])) [] ≡ refused 6 1)
    × (reply (add_checks small (0 ∷ 9 ∷ 2 ∷ 1 ∷ [])) [] ≡ refused 6 2)
    × (reply (add_checks small (0 ∷ 1 ∷ 1 ∷ 0 ∷ [])) [] ≡ gives [])
    × (reply (add_checks small (0 ∷ 1 ∷ 1 ∷ 0 ∷ 2 ∷ [])) [] ≡ refused 6 5)
    × (reply (add_checks small (0 ∷ 1 ∷ 1 ∷ 0 ∷ 1 ∷ [])) [] ≡ refused 9 0)
unfolding declared_front
places = (refl, refl, refl, refl, refl, refl, refl)

-- N is 1 to 32
opens :
    (reply (open_checks 0) [] ≡ refused 2 0)
    × (reply (open_checks 1) [] ≡ gives [])
    × (reply (open_checks 32) [] ≡ gives [])
    × (reply (open_checks 33) [] ≡ refused 2 0)
opens = (refl, refl, refl, refl)

-- so many traces kept, beside so many ends, words and events, of which so many are kept
abbrev with_room : ℕ → ℕ → ℕ → ℕ → ℕ → Room
with_room traces ends words last events =
    record { activities = 2; traces = traces; last = last; space = record { events = events; ends = ends; words = words } }

-- 4095 traces, or as many as the ends or the word slice has room for; a trace of 4096 events; events up to the end of their slice
bounds :
    (reply (add_checks (with_room 4094 4097 4097 0 1) (0 ∷ [])) [] ≡ gives [])
    × (reply (add_checks (with_room 4095 4097 4097 0 1) (0 ∷ [])) [] ≡ refused 8 0)
    × (reply (add_checks (with_room 4 5 5 0 1) (0 ∷ [])) [] ≡ gives [])
    × (reply (add_checks (with_room 5 5 6 0 1) (0 ∷ [])) [] ≡ refused 8 0)
    × (reply (add_checks (with_room 5 6 5 0 1) (0 ∷ [])) [] ≡ refused 8 0)
    × (reply (add_checks (with_room 0 5 5 0 4098) (replicate 4096 1)) [] ≡ gives [])
    × (reply (add_checks (with_room 0 5 5 0 4098) (replicate 4097 1)) [] ≡ refused 7 0)
    × (reply (add_checks (with_room 1 5 5 1 1) []) [] ≡ gives [])
    × (reply (add_checks (with_room 1 5 5 3 5) (0 ∷ 1 ∷ [])) [] ≡ gives [])
    × (reply (add_checks (with_room 1 5 5 3 5) (0 ∷ 1 ∷ 0 ∷ [])) [] ≡ refused 9 0)
unfolding declared_front
bounds = (refl, refl, refl, refl, refl, refl, refl, refl, refl, refl)

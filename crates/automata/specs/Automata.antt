-- The automata of the templates, the two tables that hold them, and replay by shifting. Nothing here has to be believed: proofs/Following.antt
-- shows that it comes to `verdict`.
-- Assumes nothing.
use Rattle.std.specs.Prelude.{ℕ, zero, suc, ◌+◌, ◌-◌, ◌*◌, ◌/◌, ◌%◌, ◌^◌, Bool, true, false, List, [], ◌∷◌, map, fold, eqb, get_or, set, replicate, if◌then◌else◌}
use Rattle.declare.specs.declared.Verdict.{Verdict}
use Rattle.declare.specs.declared.Verdict.TheVariants.{Fulfilled, NotActivated, Violated}
use Rattle.automata.specs.declared.Automaton.{Automaton}
use Rattle.automata.specs.declared.Moves.{Moves}
use Rattle.automata.specs.declared.Replayer.{Replayer}
use Rattle.base.specs.Logic.{in_range}
use Rattle.base.specs.Lists.{range, flat_map}

-- ## The automata

-- A state: where an a, a b and any other event lead to, and the verdict on a trace that ends here.
pub record AutomatonState : Type 0 where
  pub on_a : ℕ
  pub on_b : ℕ
  pub on_other : ℕ
  pub verdict : Verdict

abbrev pub to : ℕ → ℕ → ℕ → Verdict → AutomatonState
to on_a on_b on_other verdict = record { on_a = on_a; on_b = on_b; on_other = on_other; verdict = verdict }

-- the templates' automata in the order of their numbers, 1 to 24; the first state, number 0, is the start
unfoldable pub automata : List (List AutomatonState)
automata =
    -- Existence(1, 2, 3)
    (to 1 0 0 Violated ∷ to 1 1 1 Fulfilled ∷ []) ∷
    (to 1 0 0 Violated ∷ to 2 1 1 Violated ∷ to 2 2 2 Fulfilled ∷ []) ∷
    (to 1 0 0 Violated ∷ to 2 1 1 Violated ∷ to 3 2 2 Violated ∷ to 3 3 3 Fulfilled ∷ []) ∷
    -- Absence(1, 2, 3)
    (to 1 0 0 Fulfilled ∷ to 1 1 1 Violated ∷ []) ∷
    (to 1 0 0 Fulfilled ∷ to 2 1 1 Fulfilled ∷ to 2 2 2 Violated ∷ []) ∷
    (to 1 0 0 Fulfilled ∷ to 2 1 1 Fulfilled ∷ to 3 2 2 Fulfilled ∷ to 3 3 3 Violated ∷ []) ∷
    -- Init, End
    (to 1 2 2 Violated ∷ to 1 1 1 Fulfilled ∷ to 2 2 2 Violated ∷ []) ∷
    (to 1 0 0 Violated ∷ to 1 0 0 Fulfilled ∷ []) ∷
    -- Choice, Exclusive Choice
    (to 1 1 0 Violated ∷ to 1 1 1 Fulfilled ∷ []) ∷
    (to 1 2 0 Violated ∷ to 1 3 1 Fulfilled ∷ to 3 2 2 Fulfilled ∷ to 3 3 3 Violated ∷ []) ∷
    -- Co-Existence, Not Co-Existence, Responded Existence
    (to 1 2 0 NotActivated ∷ to 1 3 1 Violated ∷ to 3 2 2 Violated ∷ to 3 3 3 Fulfilled ∷ []) ∷
    (to 1 2 0 NotActivated ∷ to 1 3 1 Fulfilled ∷ to 3 2 2 Fulfilled ∷ to 3 3 3 Violated ∷ []) ∷
    (to 1 2 0 NotActivated ∷ to 1 3 1 Violated ∷ to 3 2 2 NotActivated ∷ to 3 3 3 Fulfilled ∷ []) ∷
    -- Response, Alternate Response, Chain Response
    (to 1 0 0 NotActivated ∷ to 1 2 1 Violated ∷ to 1 2 2 Fulfilled ∷ []) ∷
    (to 1 0 0 NotActivated ∷ to 2 3 1 Violated ∷ to 2 2 2 Violated ∷ to 1 3 3 Fulfilled ∷ []) ∷
    (to 1 0 0 NotActivated ∷ to 2 3 2 Violated ∷ to 2 2 2 Violated ∷ to 1 3 3 Fulfilled ∷ []) ∷
    -- Precedence, Alternate Precedence, Chain Precedence
    (to 1 2 0 NotActivated ∷ to 1 3 1 NotActivated ∷ to 2 2 2 Violated ∷ to 3 3 3 Fulfilled ∷ []) ∷
    (to 1 2 0 NotActivated ∷ to 1 3 1 NotActivated ∷ to 2 2 2 Violated ∷ to 4 2 3 Fulfilled ∷ to 4 3 4 Fulfilled ∷ []) ∷
    (to 1 2 0 NotActivated ∷ to 1 3 0 NotActivated ∷ to 2 2 2 Violated ∷ to 4 2 3 Fulfilled ∷ to 4 3 3 Fulfilled ∷ []) ∷
    -- Succession, Alternate Succession, Chain Succession
    (to 1 2 0 NotActivated ∷ to 1 3 1 Violated ∷ to 2 2 2 Violated ∷ to 1 3 3 Fulfilled ∷ []) ∷
    (to 1 2 0 NotActivated ∷ to 2 3 1 Violated ∷ to 2 2 2 Violated ∷ to 1 2 3 Fulfilled ∷ []) ∷
    (to 1 2 0 NotActivated ∷ to 2 3 2 Violated ∷ to 2 2 2 Violated ∷ to 1 2 3 Fulfilled ∷ []) ∷
    -- Not Succession, Not Chain Succession
    (to 1 2 0 NotActivated ∷ to 1 3 1 Fulfilled ∷ to 1 2 2 Fulfilled ∷ to 3 3 3 Violated ∷ []) ∷
    (to 1 2 0 NotActivated ∷ to 1 3 2 Fulfilled ∷ to 1 2 2 Fulfilled ∷ to 3 3 3 Violated ∷ []) ∷
    []

-- a state of a template's automaton, by its number; a number of the eight that no trace leads to stands for the start
unfoldable pub state_of : ℕ → ℕ → AutomatonState
unfolding automata
state_of template k =
    let states = get_or automata (template - 1) [] in
    get_or states k (get_or states 0 (to 0 0 0 NotActivated))

-- where a letter (0 for a, 1 for b, 2 for any other) leads from a state
abbrev pub led : AutomatonState → ℕ → ℕ
led s letter = get_or (s.on_a ∷ s.on_b ∷ s.on_other ∷ []) letter 0

-- ## The tables, flat and in bytes: 24 templates, 8 states, and in the first one 3 letters (a, b, any other), in that order

unfoldable pub next_states : List ℕ
unfolding state_of
next_states =
    flat_map (range 1 24) λ template.
    flat_map (range 0 8) λ k.
    map (led (state_of template k)) (range 0 3)

-- a verdict as a byte
abbrev pub byte_of : Verdict → ℕ
byte_of Fulfilled = 0
byte_of NotActivated = 1
byte_of Violated = 2

-- the verdict of a byte
abbrev pub told : ℕ → Verdict
told byte = if eqb byte 0 then Fulfilled else if eqb byte 1 then NotActivated else Violated

-- whether the template holds where this is the verdict: one that is not activated does
abbrev pub stands : Verdict → Bool
stands Fulfilled = true
stands NotActivated = true
stands Violated = false

unfoldable pub state_verdicts : List ℕ
unfolding state_of
state_verdicts =
    flat_map (range 1 24) λ template.
    map (λ k. byte_of (state_of template k).verdict) (range 0 8)

-- the state that a letter leads to, by the table
unfoldable pub next_of : ℕ → ℕ → ℕ → ℕ
unfolding next_states
next_of template k letter = get_or next_states (24 * (template - 1) + 3 * k + letter) 0

-- the verdict of a state, by the table
unfoldable pub verdict_of : ℕ → ℕ → Verdict
unfolding state_verdicts
verdict_of template k = told (get_or state_verdicts (8 * (template - 1) + k) 0)

-- an event's letter: 0 for a, 1 for b, 2 for any other; one that is both is a
abbrev pub letter : ℕ → ℕ → ℕ → ℕ
letter a b event = if eqb event a then 0 else if eqb event b then 1 else 2

-- the state that a trace leads to from a state, by the table
abbrev pub follow : ℕ → ℕ → ℕ → ℕ → List ℕ → ℕ
follow template a b k [] = k
follow template a b k (event ∷ trace) = follow template a b (next_of template k (letter a b event)) trace

-- ## Replay by shifting

-- so many entries of a table, from one on and so far apart, each so many times itself: a byte each of one number of 64 bits, the first the
-- lowest
abbrev pub packed : List ℕ → ℕ → ℕ → ℕ → ℕ → ℕ
packed table from apart times zero = 0
packed table from apart times (suc more) = packed table (from + apart) apart times more % 2 ^ 56 * 256 + times * get_or table from 0 % 256

-- the next states under a letter, each as eight times its number
unfoldable pub moves_word : ℕ → ℕ → ℕ
unfolding next_states
moves_word template letter = packed next_states (24 * (template - 1) + letter) 3 8 8

unfoldable pub verdicts_word : ℕ → ℕ
unfolding state_verdicts
verdicts_word template = packed state_verdicts (8 * (template - 1)) 1 1 8

-- moves before any automaton is set in them
abbrev pub no_moves : Moves
no_moves = record { to = replicate 32 0; verdicts = 0 }

-- of no template: it stays in state 0, not activated
abbrev pub no_automaton : Automaton
no_automaton = record { a = 0; b = 0; other = 0; verdicts = 1 }

-- a template's automaton in four numbers
unfoldable pub automaton : ℕ → Automaton
unfolding moves_word verdicts_word
automaton template =
    if in_range 1 template 24
    then record { a = moves_word template 0; b = moves_word template 1; other = moves_word template 2; verdicts = verdicts_word template }
    else no_automaton

-- one number for each of 32 activities; where b is a, it is a's
abbrev pub moves_of : Automaton → ℕ → ℕ → List ℕ
moves_of m a b = set (set (replicate 32 m.other) (b % 32) m.b) (a % 32) m.a

abbrev pub start : Replayer
start = record { state = 0 }

-- how far a number is shifted next: the lowest six bits of a replayer's state, which are eight times a state's number
abbrev pub shift_of : Replayer → ℕ
shift_of r = r.state % 64

-- one event on
abbrev pub advance : List ℕ → Replayer → ℕ → Replayer
advance moves r event = record { state = get_or moves (event % 32) 0 / 2 ^ shift_of r }

abbrev pub advance_all : List ℕ → Replayer → List ℕ → Replayer
advance_all moves r trace = fold (advance moves) r trace

abbrev pub verdict_by : ℕ → Replayer → Verdict
verdict_by verdicts r = told (verdicts / 2 ^ shift_of r % 64)

-- Whether a and b occur in a trace, and whether a template holds on it: a test of the three that passes by each summary that can be passes on
-- every trace, for every a and b. An event is a or not, and b or not; from the start the four lead to 185 lists of flags.
-- Assumes nothing.
use Prim.Native.Nat.{ℕ}
use mathlib.Core.Path.{◌≡◌, refl}
use mathlib.Core.Bool.{Bool, true, false, ◌&&◌, beq}
use mathlib.Core.List.{List, [], ◌∷◌}
use lib.Dec.{eqb}
use Rattle.std.specs.List.{list_all}
use Rattle.base.specs.Lists.{equal_lists}
use Rattle.base.proofs.Bools.{Expression, equal_same, and_left, and_right, agree, by_cases}
use Rattle.base.proofs.Lists.{equal_lists_same}
use Rattle.declare.specs.Meaning.{occurs, holds}
use Rattle.declare.proofs.Summary.{Summary, summary, flags_of, with_event, no_event_yet, stepped, stepped_all, answer}
use Rattle.declare.proofs.Deciding.{one_after, seen_after, decides_holds}
use Rattle.declare.proofs.Reaching.{among, explored, passed}

abbrev same : List Bool → List Bool → Bool
same = equal_lists beq

-- the flags after one more event
abbrev onward : List Bool → Bool → Bool → List Bool
onward flags is_a is_b = flags_of (with_event (summary 0 0 flags) is_a is_b)

abbrev each_onward : List Bool → List (List Bool)
each_onward flags = onward flags true true ∷ onward flags true false ∷ onward flags false true ∷ onward flags false false ∷ []

abbrev at_first : List Bool
at_first = flags_of (no_event_yet 0 0)

-- each event leads on to flags among these
abbrev leads : List (List Bool) → List Bool → Bool
leads found flags = agree 2 (λ is_a is_b. among same (onward flags is_a is_b) found) (λ is_a is_b. true)

unfoldable pub found : List (List Bool)
found = explored same each_onward 741 (at_first ∷ []) []

found_closed : among same at_first found && list_all (leads found) found ≡ true
unfolding found agree
found_closed = refl

after : (s : Summary) (trace : List ℕ) → among same (flags_of s) found ≡ true → among same (flags_of (stepped_all s trace)) found ≡ true
unfolding agree
after s [] h = h
after s (x ∷ trace) h =
    let all_lead = passed same (equal_lists_same beq equal_same) (leads found) (flags_of s) found (and_right _ _ found_closed) h in
    after (stepped s x) trace
    (by_cases 2 (λ is_a is_b. among same (onward (flags_of s) is_a is_b) found) (λ is_a is_b. true) all_lead (eqb x s.a) (eqb x s.b))

-- a test of whether a occurs, whether b does, and whether the template holds, by a summary's flags
abbrev tested : ℕ → Expression 3 → List Bool → Bool
tested template test flags = let s = summary 0 0 flags in test s.one s.seen (answer s template)

-- it passes by each summary that can be
abbrev pub passes : ℕ → Expression 3 → Bool
passes template test = list_all (tested template test) found

-- and so on every trace
pub on_every_trace : (template : ℕ) (test : Expression 3) → passes template test ≡ true → (a b : ℕ) (trace : List ℕ)
    → test (occurs a trace) (occurs b trace) (holds template a b trace) ≡ true
unfolding answer
on_every_trace template test h a b trace =
    let s = no_event_yet a b in
    rw (← decides_holds template a b trace, ← seen_after s trace, ← one_after s trace)
    (passed same (equal_lists_same beq equal_same) (tested template test) (flags_of (stepped_all s trace)) found h
    (after s trace (and_left (among same at_first found) (list_all (leads found) found) found_closed)))

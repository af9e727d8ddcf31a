-- What each state of an automaton tells, found by looking three letters ahead. Nothing here has to be believed: proofs/Outlooks.antt shows
-- that it comes to `Outlook.State`.
-- Assumes nothing.
use Rattle.std.specs.Prelude.{ℕ, zero, suc, Bool, true, false, not, ◌&&◌, ◌||◌, List, eqb, leb, if◌then◌else◌}
use Rattle.std.specs.Bool.{beq}
use Rattle.declare.specs.declared.constraints.Constraint.{Constraint}
use Rattle.automata.specs.Automata.{next_of, verdict_of, follow, stands}

-- whether the template holds on a trace that ends in this state
abbrev pub holds_in : ℕ → ℕ → Bool
holds_in template k = stands (verdict_of template k)

-- beside a, the letter that a way out may need: b, or for one activity any other, of which there is none where it is the only one declared
abbrev pub second : ℕ → ℕ
second template = if leb template 8 then 2 else 1

-- whether at most so many letters lead from a state to one in which the template holds, or to one in which it doesn't
abbrev pub reaches : Bool → ℕ → Bool → ℕ → ℕ → Bool
reaches only template truth zero k = beq (holds_in template k) truth
reaches only template truth (suc more) k =
    beq (holds_in template k) truth
    || reaches only template truth more (next_of template k 0)
    || (not (only && leb template 8) && reaches only template truth more (next_of template k (second template)))

-- what a state of an automaton tells, where a is the only activity declared, and else; three letters are enough
unfoldable pub outlook_in : Bool → ℕ → ℕ → ℕ
unfolding next_of verdict_of
outlook_in only template k =
    if holds_in template k
    then (if reaches only template false 3 k then 1 else 0)
    else (if reaches only template true 3 k then 2 else 3)

-- ## A constraint after a trace

-- the number of its automaton's state among those of its template
abbrev pub state_number : Constraint → List ℕ → ℕ
state_number c trace = follow c.template c.a c.b 0 trace

-- what is told of it, with n declared activities
abbrev pub outlook : ℕ → Constraint → List ℕ → ℕ
outlook n c trace = outlook_in (eqb n 1) c.template (state_number c trace)

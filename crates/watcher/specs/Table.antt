-- The table that the watcher goes by. Nothing here has to be believed: proofs/Claim.antt shows that what is told by it is `Outlook.State`.
-- Assumes nothing.
use Rattle.std.specs.Prelude.{ℕ, ◌+◌, ◌-◌, ◌*◌, Bool, List, [], ◌∷◌}
use Rattle.base.specs.Lists.{range, flat_map}
use Rattle.declare.specs.declared.constraints.Constraint.{Constraint}
use Rattle.automata.specs.Automata.{next_of, letter}
use Rattle.automata.specs.Ahead.{outlook_in, state_number}

-- Flat and in bytes: 8 states of 32 numbers for templates, in that order, and for each state four numbers: where any other event, b and a
-- lead, and what it tells. A state is known by its template's number plus 32 times its own, so that any byte is one; numbers that are no
-- template's have entries too, which nothing comes to.

unfoldable pub table : Bool → List ℕ
unfolding next_of outlook_in
table only =
    flat_map (range 0 8) λ k.
    flat_map (range 0 32) λ template.
    let led : ℕ → ℕ = λ letter. template + 32 * next_of template k letter in
    led 2 ∷ led 1 ∷ led 0 ∷ outlook_in only template k ∷ []

-- where the table has the next state
unfoldable pub place : ℕ → ℕ → ℕ → ℕ → ℕ
place a b state activity = 4 * state + (2 - letter a b activity)

-- a constraint's state after a trace
abbrev pub state_after : Constraint → List ℕ → ℕ
state_after c trace = c.template + 32 * state_number c trace

-- What the 24 templates mean on a trace of activities (document 01: a run of steps), after its section of that name.
-- Assumes nothing.
use Rattle.std.specs.Prelude.{ℕ, suc, Bool, true, false, not, ◌&&◌, ◌||◌, List, [], ◌∷◌, ◌++◌, eqb, leb, get_or, if◌then◌else◌}
use Rattle.declare.specs.declared.Verdict.{Verdict}
use Rattle.declare.specs.declared.Verdict.TheVariants.{Fulfilled, NotActivated, Violated}
use Rattle.base.specs.Logic.{◌implies◌, in_range}

-- A test of a place of a trace: of what comes before it, the activity there, and what comes after it.
abbrev pub Test : Type 0
Test = List ℕ → ℕ → List ℕ → Bool

abbrev pub each_on : List ℕ → List ℕ → Test → Bool
each_on before [] p = true
each_on before (x ∷ after) p = p before x after && each_on (before ++ (x ∷ [])) after p

abbrev pub some_on : List ℕ → List ℕ → Test → Bool
some_on before [] p = false
some_on before (x ∷ after) p = p before x after || some_on (before ++ (x ∷ [])) after p

-- the test passes at each place of the trace
abbrev pub each : List ℕ → Test → Bool
each trace p = each_on [] trace p

-- the test passes at some place of the trace
abbrev pub some : List ℕ → Test → Bool
some trace p = some_on [] trace p

abbrev pub occurs : ℕ → List ℕ → Bool
occurs a trace = some trace (λ before x after. eqb x a)

-- how often a occurs
abbrev pub times : ℕ → List ℕ → ℕ
times a [] = 0
times a (x ∷ trace) = if eqb x a then suc (times a trace) else times a trace

abbrev pub starts_with : ℕ → List ℕ → Bool
starts_with a [] = false
starts_with a (x ∷ trace) = eqb x a

abbrev pub ends_with : ℕ → List ℕ → Bool
ends_with a [] = false
ends_with a (x ∷ []) = eqb x a
ends_with a (x ∷ (y ∷ trace)) = ends_with a (y ∷ trace)

-- A template's meaning for activities a and b on a trace.
abbrev pub Meaning : Type 0
Meaning = ℕ → ℕ → List ℕ → Bool

-- 14, Response: each a has a later b
abbrev pub response : Meaning
response a b trace = each trace (λ before x after. eqb x a implies occurs b after)

-- 15, Alternate Response: each a has a later b with no a strictly between
abbrev pub alternate_response : Meaning
alternate_response a b trace =
    each trace (λ before x after. eqb x a implies some after (λ between y rest. eqb y b && not (occurs a between)))

-- 16, Chain Response: each a has b as the very next step
abbrev pub chain_response : Meaning
chain_response a b trace = each trace (λ before x after. eqb x a implies starts_with b after)

-- 17, Precedence: each b has an earlier a
abbrev pub precedence : Meaning
precedence a b trace = each trace (λ before x after. eqb x b implies occurs a before)

-- 18, Alternate Precedence: each b has an earlier a with no b strictly between
abbrev pub alternate_precedence : Meaning
alternate_precedence a b trace =
    each trace (λ before x after. eqb x b implies some before (λ start y between. eqb y a && not (occurs b between)))

-- 19, Chain Precedence: each b has a as the step just before
abbrev pub chain_precedence : Meaning
chain_precedence a b trace = each trace (λ before x after. eqb x b implies ends_with a before)

-- the templates in the order of their numbers, 1 to 24, with the field's names; w1 is the first step of a run, wm its last, m its length
unfoldable pub meanings : List Meaning
meanings =
    -- Existence(1, 2, 3): 1 at least one a; 2 at least two; 3 at least three
    (λ a b trace. leb 1 (times a trace)) ∷
    (λ a b trace. leb 2 (times a trace)) ∷
    (λ a b trace. leb 3 (times a trace)) ∷
    -- Absence(1, 2, 3): 4 none; 5 at most one; 6 at most two
    (λ a b trace. leb (times a trace) 0) ∷
    (λ a b trace. leb (times a trace) 1) ∷
    (λ a b trace. leb (times a trace) 2) ∷
    -- Init, End: 7 m ≥ 1 and w1 = a; 8 m ≥ 1 and wm = a
    (λ a b trace. starts_with a trace) ∷
    (λ a b trace. ends_with a trace) ∷
    -- Choice: 9 a or b occurs
    (λ a b trace. occurs a trace || occurs b trace) ∷
    -- Exclusive Choice: 10 exactly one of the two occurs
    (λ a b trace. if occurs a trace then not (occurs b trace) else occurs b trace) ∷
    -- Co-Existence: 11 both occur or neither
    (λ a b trace. if occurs a trace then occurs b trace else not (occurs b trace)) ∷
    -- Not Co-Existence: 12 not both occur
    (λ a b trace. not (occurs a trace && occurs b trace)) ∷
    -- Responded Existence: 13 if a occurs, b occurs
    (λ a b trace. occurs a trace implies occurs b trace) ∷
    -- 14 to 19
    response ∷
    alternate_response ∷
    chain_response ∷
    precedence ∷
    alternate_precedence ∷
    chain_precedence ∷
    -- Succession, Alternate and Chain: 20 is 14 and 17; 21 is 15 and 18; 22 is 16 and 19
    (λ a b trace. response a b trace && precedence a b trace) ∷
    (λ a b trace. alternate_response a b trace && alternate_precedence a b trace) ∷
    (λ a b trace. chain_response a b trace && chain_precedence a b trace) ∷
    -- Not Succession: 23 no a has a later b
    (λ a b trace. each trace (λ before x after. eqb x a implies not (occurs b after))) ∷
    -- Not Chain Succession: 24 no a has b as the very next step
    (λ a b trace. each trace (λ before x after. eqb x a implies not (starts_with b after))) ∷
    []

-- what a number outside 1 to 24 means: nothing
abbrev pub never : Meaning
never a b trace = false

unfoldable pub holds : ℕ → Meaning
unfolding meanings
holds template a b trace = get_or (never ∷ meanings) template never a b trace

-- 1 to 10 always; 13 to 16 when a occurs; 17 to 19 when b occurs; 11, 12 and 20 to 24 when a or b occurs
abbrev pub activated_when : ℕ → Bool → Bool → Bool
activated_when template a_occurs b_occurs =
    if in_range 1 template 10 then true
    else if in_range 13 template 16 then a_occurs
    else if in_range 17 template 19 then b_occurs
    else if in_range 11 template 24 then a_occurs || b_occurs
    else false

unfoldable pub activated : ℕ → Meaning
activated template a b trace = activated_when template (occurs a trace) (occurs b trace)

-- the constraint is activated and holds
unfoldable pub fulfilled : ℕ → Meaning
fulfilled template a b trace = activated template a b trace && holds template a b trace

-- fulfilled when the constraint is activated and holds, not activated (01: idle) when it is not activated, violated (01: broken) otherwise
unfoldable pub verdict : ℕ → ℕ → ℕ → List ℕ → Verdict
verdict template a b trace =
    if activated template a b trace then (if holds template a b trace then Fulfilled else Violated) else NotActivated

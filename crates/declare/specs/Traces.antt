-- Activities and traces (document 01: steps and runs): how many activities can be declared, how long a trace can be, and whether its
-- activities are declared.
-- Assumes nothing.
use Rattle.std.specs.Prelude.{ℕ, Bool, List, ltb}
use Rattle.std.specs.List.{list_all}
use Rattle.base.specs.Logic.{in_range}

abbrev pub most_activities : ℕ
most_activities = 32

-- N is 1 to 32
abbrev pub declarable : ℕ → Bool
declarable n = in_range 1 n most_activities

-- a run is of at most 4096 steps
abbrev pub longest_trace : ℕ
longest_trace = 4096

-- all of a trace's activities are declared
abbrev pub all_below : ℕ → List ℕ → Bool
all_below n xs = list_all (λ x. ltb x n) xs

-- Discovery (document 01: finding): which constraints are listed and which replayed, and how the list is laid out.
-- Assumes nothing.
use Rattle.std.specs.Prelude.{ℕ, Bool, ◌&&◌, List, [], ◌∷◌, get_or}
use Rattle.std.specs.List.{filter}
use Rattle.base.specs.Lists.{flat_map}
use Rattle.declare.specs.declared.constraints.Constraint.{Constraint}
use Rattle.declare.specs.Constraints.{constraints}
use Rattle.eventlog.specs.Store.{total}
use Rattle.pruning.specs.declared.Measure.{Measure}
use Rattle.pruning.specs.Question.{Question, measure_of, meets, confident, reads, fulfilments, activations, support, survives}
use Rattle.discovery.specs.declared.row.Counts.{Counts}
use Rattle.discovery.specs.declared.row.Row.{Row}

-- ## By a constraint's counts alone, wherever they come from

-- "A rule is listed when it meets the threshold and 1000 × fulfilled ≥ k × activated."
abbrev pub lists : Measure → Counts → Bool
lists m counts = meets m counts.fulfilled && confident m.settings counts.fulfilled counts.activated

-- five numbers a constraint
abbrev pub numbers : ℕ
numbers = 5

-- template, a, b, fulfilled traces, activated ones: as they are written, and as they are read
abbrev pub in_row : Row → List ℕ
in_row r = r.template ∷ r.a ∷ r.b ∷ r.fulfilled ∷ r.activated ∷ []

abbrev pub from_row : List ℕ → Row
from_row columns =
    record {
      template = get_or columns 0 0;
      a = get_or columns 1 0;
      b = get_or columns 2 0;
      fulfilled = get_or columns 3 0;
      activated = get_or columns 4 0;
    }

abbrev pub row : Constraint → Counts → List ℕ
row c counts =
    in_row (record { template = c.template; a = c.a; b = c.b; fulfilled = counts.fulfilled; activated = counts.activated })

abbrev pub rows : (Constraint → Counts) → List Constraint → List ℕ
rows counts cs = flat_map cs λ c. row c (counts c)

-- ## Of a question

abbrev pub counts_of : Question → Constraint → Counts
counts_of q c = record { fulfilled = fulfilments q.traces c; activated = activations q.traces c }

abbrev pub is_listed : Question → Constraint → Bool
is_listed q c = lists (measure_of q) (counts_of q c)

-- the constraints to be listed, in their order
unfoldable pub listed : Question → List Constraint
unfolding constraints fulfilments activations
listed q = filter (is_listed q) (constraints q.activities)

-- the constraints that are replayed, in their order
unfoldable pub replayed : Question → List Constraint
unfolding constraints support
replayed q = filter (survives q) (constraints q.activities)

-- How many events replayers are handed for these constraints (document 02: how many steps, taking each kept rule once). "The number equals the
-- sum of those runs' lengths over the kept rules": of the traces that each constraint reads.
unfoldable pub events_read : Question → List Constraint → ℕ
events_read q cs = total (flat_map cs λ c. filter (reads c) q.traces)

-- the list as it is laid out
unfoldable pub layout : Question → List Constraint → List ℕ
unfolding fulfilments activations
layout q cs = rows (counts_of q) cs

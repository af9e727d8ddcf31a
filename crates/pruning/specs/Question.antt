-- A question to the finder: what meets its settings, the constraints' counts, and which of them pruning keeps.
-- Assumes nothing.
use Rattle.std.specs.Prelude.{ℕ, ◌*◌, Bool, true, false, ◌&&◌, ◌||◌, List, eqb, leb, length, if◌then◌else◌}
use Rattle.base.specs.Logic.{in_range}
use Rattle.declare.specs.Meaning.{occurs, activated, fulfilled}
use Rattle.eventlog.specs.Store.{Memory, kept}
use Rattle.pruning.specs.declared.Settings.{Settings}
use Rattle.pruning.specs.declared.Measure.{Measure}
use Rattle.pruning.specs.declared.Class.{Class}
use Rattle.pruning.specs.declared.Class.TheVariants.{WithA, All, Either, Both}
use Rattle.declare.specs.declared.constraints.Constraint.{Constraint}
use Rattle.std.specs.List.{filter}
use Rattle.base.specs.Lists.{non_empty, count}

-- A question to the finder: how many activities are declared, the traces, and the settings.
pub record Question : Type 0 where
  pub activities : ℕ
  pub traces : List (List ℕ)
  pub settings : Settings

-- R, all counts and the pruning numbers are taken over runs of length 1 or more: of the kept traces a question has those
abbrev pub question_over : ℕ → List (List ℕ) → Settings → Question
question_over activities kept settings = record { activities = activities; traces = filter non_empty kept; settings = settings }

-- what find asks of a memory
abbrev pub asked : Memory → Settings → Question
asked m settings = question_over m.store.activities (kept m) settings

-- how many traces a question has (document 01: R)
abbrev pub trace_count : Question → ℕ
trace_count q = length q.traces

-- a threshold is 1 to 1000
abbrev pub threshold_in_range : Settings → Bool
threshold_in_range settings = in_range 1 settings.threshold 1000

-- k, the confidence in thousandths, is 0 to 1000
abbrev pub confidence_in_range : Settings → Bool
confidence_in_range settings = leb settings.confidence 1000

-- what its constraints and their counts are measured by
abbrev pub measure_of : Question → Measure
measure_of q = record { activities = q.activities; settings = q.settings; traces = trace_count q }

-- a number of traces meets the threshold over R traces: 1000 × number ≥ threshold × R, nothing rounded
abbrev pub meets : Measure → ℕ → Bool
meets m number = leb (m.settings.threshold * m.traces) (1000 * number)

-- 1000 × fulfilled ≥ k × activated, nothing rounded
abbrev pub confident : Settings → ℕ → ℕ → Bool
confident settings fulfilled activated = leb (settings.confidence * activated) (1000 * fulfilled)

-- the traces fulfilled for a constraint
unfoldable pub fulfilments : List (List ℕ) → Constraint → ℕ
fulfilments traces c = count (fulfilled c.template c.a c.b) traces

-- those in which it is activated: of a question's traces, all of which are of length 1 or more
unfoldable pub activations : List (List ℕ) → Constraint → ℕ
activations traces c = count (activated c.template c.a c.b) traces

-- the class of pruning, by the template's number; a number outside 1 to 24 is in the last one too
abbrev pub class_of : ℕ → Class
class_of template =
    if in_range 1 template 3 || in_range 7 template 8 then WithA
    else if in_range 4 template 6 then All
    else if in_range 9 template 10 || eqb template 12 || in_range 23 template 24 then Either
    else Both

-- a trace counts for a class: it has a, whatever it is, it has a or b, it has both
abbrev pub counts_when : Class → Bool → Bool → Bool
counts_when WithA a_occurs b_occurs = a_occurs
counts_when All a_occurs b_occurs = true
counts_when Either a_occurs b_occurs = a_occurs || b_occurs
counts_when Both a_occurs b_occurs = a_occurs && b_occurs

abbrev pub counts_for : Class → ℕ → ℕ → List ℕ → Bool
counts_for class a b trace = counts_when class (occurs a trace) (occurs b trace)

-- "A kept rule of the both-class reads only the runs with both steps, of the a-or-b class those with either, of the a class those with a, and
-- templates 4 to 6 read all non-empty runs"
abbrev pub reads : Constraint → List ℕ → Bool
reads c trace = non_empty trace && counts_for (class_of c.template) c.a c.b trace

-- the traces that count for a class, by a constraint's activities
unfoldable pub support : Class → List (List ℕ) → Constraint → ℕ
support class traces c = count (counts_for class c.a c.b) traces

-- a class that pruning keeps always, whatever its support
abbrev pub always : Class → Bool
always WithA = false
always All = true
always Either = false
always Both = false

-- pruning keeps a constraint of this class: 4 to 6 always, the others when the traces of their class meet the threshold
abbrev pub survives_in : Class → Question → Constraint → Bool
survives_in class q c = always class || meets (measure_of q) (support class q.traces c)

-- pruning keeps the constraint: the template's number settles the class
abbrev pub survives : Question → Constraint → Bool
survives q c = survives_in (class_of c.template) q c

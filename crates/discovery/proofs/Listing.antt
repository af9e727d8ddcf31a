-- What is listed and what is replayed, by membership and order, and how many there can be.
-- Assumes nothing.
use Prim.Native.Nat.{◌+◌, ◌*◌, ◌≤◌}
use mathlib.Core.Path.{◌≡◌, refl, ap, ◌∙◌}
use mathlib.Core.List.{List, [], ◌∷◌, ◌++◌}
use native.Mathlib.Omega.{arith}
use lib.ListN.{length}
use mathlib.Core.Bool.{true, false}
use Rattle.std.specs.List.{filter}
use Rattle.base.proofs.Bools.{and_left, fails_too}
use Rattle.base.specs.Lists.{flat_map}
use Rattle.base.proofs.Lists.{count_weaker, count_at_most, flat_map_append}
use Rattle.eventlog.specs.Store.{kept, total}
use Rattle.eventlog.proofs.Laws.{total_append, kept_total}
use Rattle.eventlog.proofs.Totals.{total_at_most, total_non_empty, total_each_at_most}
use Rattle.declare.specs.declared.constraints.Constraint.{Constraint}
use Rattle.declare.specs.Constraints.{constraints, AtMostAll, Exactly}
use Rattle.declare.proofs.constraints.Members.{filter_exactly, constraints_number}
use Rattle.pruning.specs.Question.{Question, asked, measure_of, meets, confident, reads, fulfilments, activations, survives}
use Rattle.discovery.specs.Claims.{ReadAtMost}
use Rattle.discovery.specs.declared.row.Counts.{Counts}
use Rattle.discovery.specs.declared.row.Row.{Row}
use Rattle.discovery.specs.Listing.{is_listed, listed, replayed, events_read, numbers, rows, in_row, from_row, counts_of, layout}
use Rattle.pruning.proofs.Pruning.{fulfilled_survives}

-- the list has exactly the constraints whose counts meet the threshold and the confidence
pub listed_exactly : (q : Question) → Exactly q.activities (is_listed q) (listed q)
unfolding listed
listed_exactly q = filter_exactly q.activities _

-- exactly those that pruning keeps are replayed
pub replayed_exactly : (q : Question) → Exactly q.activities (survives q) (replayed q)
unfolding replayed
replayed_exactly q = filter_exactly q.activities _

-- no more are replayed than there are constraints, 14 n n - 6 n
pub replayed_at_most : (q : Question) → AtMostAll q.activities (length (replayed q))
unfolding replayed
replayed_at_most q = omega (arith, count_at_most (survives q) (constraints q.activities), constraints_number q.activities)

-- what is listed, pruning keeps: its count meets the threshold
pub listed_survives : (q : Question) (c : Constraint) → is_listed q c ≡ true → survives q c ≡ true
listed_survives q c h = fulfilled_survives q c (and_left (meets (measure_of q) (fulfilments q.traces c)) (confident q.settings (fulfilments q.traces c) (activations q.traces c)) h)

-- what pruning drops is not listed
pub pruned_not_listed : (q : Question) (c : Constraint) → survives q c ≡ false → is_listed q c ≡ false
pruned_not_listed q c = fails_too _ _ (listed_survives q c)

-- what is listed was replayed
pub listed_within_replayed : (q : Question) → length (listed q) ≤ length (replayed q)
unfolding listed replayed
listed_within_replayed q = count_weaker _ _ (listed_survives q) (constraints q.activities)

-- ## Events read

pub read_append : (q : Question) (cs ds : List Constraint) → events_read q (cs ++ ds) ≡ events_read q cs + events_read q ds
unfolding events_read
read_append q cs ds =
    ap total (flat_map_append (λ c. filter (reads c) q.traces) cs ds)
    ∙ total_append (flat_map cs λ c. filter (reads c) q.traces) (flat_map ds λ c. filter (reads c) q.traces)

-- each constraint reads each event once at most
pub read_at_most : (q : Question) (cs : List Constraint) → events_read q cs ≤ length cs * total q.traces
unfolding events_read
read_at_most q cs = total_each_at_most (λ c. filter (reads c) q.traces) (total q.traces) (λ c. total_at_most (reads c) q.traces) cs

-- "at most replayed rules times kept steps"
pub read_at_most_last : ReadAtMost
read_at_most_last m settings is_sound =
    let q = asked m settings in
    omega (
      arith,
      read_at_most q (replayed q),
      ap (λ k. length (replayed q) * k) (total_non_empty (kept m) ∙ kept_total m is_sound),
    )

-- ## The list

pub rows_length : (counts : Constraint → Counts) (cs : List Constraint) → length (rows counts cs) ≡ numbers * length cs
rows_length counts [] = refl
rows_length counts (c ∷ cs) = omega (arith, rows_length counts cs)

pub layout_length : (q : Question) (cs : List Constraint) → length (layout q cs) ≡ numbers * length cs
unfolding layout
layout_length q cs = rows_length (counts_of q) cs

-- what is read of a row is what was written
pub row_read : (r : Row) → from_row (in_row r) ≡ r
row_read r = refl

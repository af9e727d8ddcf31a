-- Passing over constraints, one after the other.
-- Assumes nothing.
use Prim.Native.Nat.{ℕ, ◌+◌, ◌*◌, ◌≤◌, ◌<◌}
use mathlib.Core.Path.{◌≡◌, refl, sym, ap, ap₂, subst, ◌∙◌}
use mathlib.Core.Bool.{Bool, true, false, cond}
use mathlib.Core.List.Memᴰ
use mathlib.Core.List.{List, [], ◌∷◌, ◌++◌, append_assoc, append-nil, Memᴰ}
use native.Mathlib.Omega.{arith}
use lib.ListN.{length, length-append}
use lib.Seq.{sets}
use native.Mathlib.Nat.{mul-le-mul}
use Rattle.std.specs.List.{filter}
use Rattle.base.specs.Lists.{non_empty, count}
use Rattle.base.proofs.Lists.{filter_append, filter_member, filter_within, count_append, count_at_most, flat_map_append}
use Rattle.base.proofs.Stores.{sets_append}
use Rattle.declare.specs.declared.constraints.Constraint.{Constraint}
use Rattle.declare.specs.Meaning.{activated, fulfilled}
use Rattle.declare.specs.Traces.{most_activities}
use Rattle.declare.specs.Constraints.{constraints, Over}
use Rattle.declare.proofs.constraints.Members.{constraints_number, constraints_over, few_numbers}
use Rattle.eventlog.specs.Store.{most_traces, most_events, total}
use Rattle.eventlog.specs.SoundStore.{traces_in}
use Rattle.eventlog.proofs.Counting.{few_traces, few_events}
use Rattle.eventlog.proofs.Laws.{total_append}
use Rattle.eventlog.proofs.Totals.{total_at_most}
use Rattle.replay.specs.declared.query.Query.{Query}
use Rattle.replay.specs.Query.{asked_by}
use Rattle.discovery.specs.declared.list.Tally.{Tally}
use Rattle.pruning.specs.declared.Measure.{Measure}
use Rattle.pruning.specs.Question.{Question, measure_of, reads, fulfilments, activations, survives}
use Rattle.discovery.specs.declared.row.Counts.{Counts}
use Rattle.discovery.specs.Listing.{lists, numbers, row, rows, counts_of, is_listed, events_read}
use Rattle.replay.specs.declared.Replayed.{Replayed}
use Rattle.replay.specs.Replays.{Replays}
use Rattle.discovery.specs.Passes.{Passes, Considers, TallyFits, none_yet}
use Rattle.discovery.proofs.Listing.{listed_survives, rows_length, read_append, read_at_most}

-- few of a query's traces pass a test, since there are few
counted_few : (query : Query) (p : List ℕ → Bool) → count p (asked_by query).traces ≤ most_traces
counted_few query p =
    let traces = traces_in query.kept in
    omega (arith, count_at_most p (filter non_empty traces), count_at_most non_empty traces, few_traces query.kept)

pub fulfilments_few : (query : Query) (c : Constraint) → fulfilments (asked_by query).traces c ≤ most_traces
unfolding fulfilments
fulfilments_few query c = counted_few query (fulfilled c.template c.a c.b)

pub activations_few : (query : Query) (c : Constraint) → activations (asked_by query).traces c ≤ most_traces
unfolding activations
activations_few query c = counted_few query (activated c.template c.a c.b)

-- the events are few
pub events_few : (query : Query) → total (asked_by query).traces ≤ most_events
events_few query = omega (arith, total_at_most non_empty (traces_in query.kept), few_events query.kept)

module _ (counts : Constraint → Counts) where
  rows_append : (cs ds : List Constraint) → rows counts (cs ++ ds) ≡ rows counts cs ++ rows counts ds
  rows_append cs ds = flat_map_append _ cs ds

-- ## Passing over constraints of any counts

module _ {m : Measure} {counts : Constraint → Counts} where
  passes_none : {before : ℕ} {list : List ℕ} → Passes m counts [] before list before list
  passes_none = record { listed = omega arith; written = refl }

  module _ {c : Constraint} {before : ℕ} {list : List ℕ} where
    pub passes_unlisted : lists m (counts c) ≡ false → Passes m counts (c ∷ []) before list before list
    passes_unlisted falls_short = record { listed = rw falls_short (omega arith); written = rw falls_short }

    pub passes_listed :
        {list' : List ℕ} → lists m (counts c) ≡ true → list' ≡ sets list (numbers * before) (row c (counts c)) →
        Passes m counts (c ∷ []) before list (before + 1) list'
    passes_listed meets written = record { listed = rw meets; written = rw meets written }

  passes_append :
      {cs ds : List Constraint} {k k' k'' : ℕ} {list list' list'' : List ℕ} →
      Passes m counts cs k list k' list' → Passes m counts ds k' list' k'' list'' → Passes m counts (cs ++ ds) k list k'' list''
  passes_append {cs} {ds} {k} {k'} p p' =
      let listed : Constraint → Bool = λ c. lists m (counts c) in
      let ours = filter listed cs in
      let place : numbers * k' ≡ numbers * k + length (rows counts ours) = omega (arith, p.listed, rows_length counts ours) in
      record {
        listed = omega (arith, p.listed, p'.listed, count_append listed cs ds);
        written =
            p'.written
            ∙ rw (p.written, place, filter_append listed cs ds, rows_append counts ours, sets_append (rows counts ours));
      }

-- of one constraint nothing but its own counts matters
passes_by :
    {m : Measure} {counts counts' : Constraint → Counts} {c : Constraint} {before after : ℕ} {list list' : List ℕ} →
    counts c ≡ counts' c → Passes m counts (c ∷ []) before list after list' → Passes m counts' (c ∷ []) before list after list'
passes_by {m} {counts} {counts'} {c} {list = list} same p =
    record {
      listed = rw same at p.listed;
      written = p.written ∙ ap (sets list _) (same_rows (lists m (counts c)) ∙ ap (λ own. rows counts' (cond (lists m own) (c ∷ []) [])) same);
    }
  where
    same_rows : (listed : Bool) → rows counts (cond listed (c ∷ []) []) ≡ rows counts' (cond listed (c ∷ []) [])
    same_rows true = ap (λ (own : Counts). row c own ++ []) same
    same_rows false = refl

-- by one constraint no more than one is listed
pub passes_one :
    {m : Measure} {counts : Constraint → Counts} {c : Constraint} {before after : ℕ} {list list' : List ℕ} →
    Passes m counts (c ∷ []) before list after list' → after ≤ before + 1
passes_one {m} {counts} {c} p = omega (arith, p.listed, count_at_most (λ c. lists m (counts c)) (c ∷ []))

-- ## The finder's passing

module _ {q : Question} where
  pub considers_none : {t : Tally} {list : List ℕ} → Considers q [] t list t list
  unfolding events_read
  considers_none = record { passes = passes_none; replayed = omega arith; read = omega arith }

  module _ {c : Constraint} {t : Tally} {list : List ℕ} where
    pub considers_kept :
        {r : Replayed} {activated : ℕ} {t' : Tally} {list' : List ℕ} → Replays q c t.replayed t.events_read r → survives q c ≡ true →
        activated ≡ activations q.traces c →
        Passes (measure_of q) (λ c. record { fulfilled = r.fulfilled; activated = activated }) (c ∷ []) t.listed list t'.listed list' → t'.replayed ≡ r.replayed →
        t'.events_read ≡ r.events_read → Considers q (c ∷ []) t list t' list'
    unfolding events_read
    considers_kept replays kept in_these p counted read =
        record {
          passes = passes_by (ap₂ (λ (n k : ℕ). record { fulfilled = n; activated = k }) replays.fulfilled in_these) p;
          replayed = rw kept (counted ∙ replays.counted);
          read = rw kept (omega (arith, read, replays.read, total_append (filter (reads c) q.traces) []));
        }

  considers_append :
      {cs ds : List Constraint} {t t' t'' : Tally} {list list' list'' : List ℕ} →
      Considers q cs t list t' list' → Considers q ds t' list' t'' list'' → Considers q (cs ++ ds) t list t'' list''
  considers_append {cs} {ds} p p' =
      record {
        passes = passes_append p.passes p'.passes;
        replayed = omega (arith, p.replayed, p'.replayed, count_append (survives q) cs ds);
        read = omega (arith, p.read, p'.read, read_append q (filter (survives q) cs) (filter (survives q) ds), ap (events_read q) (filter_append (survives q) cs ds));
      }

  -- what pruning drops falls short: to pass over what it keeps is to pass over all
  considers_survivors :
      {t t' : Tally} {list list' : List ℕ} (cs : List Constraint) → Considers q (filter (survives q) cs) t list t' list' →
      Considers q cs t list t' list'
  considers_survivors {t = t} {list = list} cs p =
      let short = filter_within (is_listed q) (survives q) (listed_survives q) cs in
      let twice = filter_within (survives q) (survives q) (λ c h. h) cs in
      record {
        passes = record { listed = omega (arith, p.passes.listed, ap length short); written = p.passes.written ∙ ap (λ cs. sets list (numbers * t.listed) (rows (counts_of q) cs)) short };
        replayed = omega (arith, p.replayed, ap length twice);
        read = omega (arith, p.read, ap (events_read q) twice);
      }

-- ## On the way: some of the constraints that pruning keeps are passed, and the rest are left

pub record Passing (q : Question) (list : List ℕ) (passed rest : List Constraint) (t : Tally) (list' : List ℕ) : Type 0 where
  pub so_far : Considers q passed none_yet list t list'
  pub all : passed ++ rest ≡ filter (survives q) (constraints q.activities)

module _ {q : Question} {list : List ℕ} {passed left : List Constraint} {t : Tally} {list' : List ℕ} (p : Passing q list passed left t list') where
  -- no more are listed and replayed than all
  pub passing_few : total q.traces ≤ most_events → TallyFits q.activities t
  passing_few few =
      let all = ap length p.all in
      let some = count_at_most (survives q) (constraints q.activities) in
      let number = constraints_number q.activities in
      let same : count (survives q) passed ≤ count (survives q) passed = omega arith in
      record {
        listed = omega (arith, p.so_far.passes.listed, count_at_most (is_listed q) passed, length-append passed left, all, some, number);
        read = omega (arith, p.so_far.read, p.so_far.replayed, read_at_most q (filter (survives q) passed), mul-le-mul same few);
        replayed = omega (arith, p.so_far.replayed, count_at_most (survives q) passed, length-append passed left, all, some, number);
      }

  -- what the next one reads can be added
  pub passing_fits : total q.traces ≤ most_events → q.activities ≤ most_activities → t.events_read + most_events < 18446744073709551616
  passing_fits few few_activities =
      let fits = passing_few few in
      omega (arith, fits.read, few_numbers q.activities t.replayed few_activities fits.replayed)

  pub passing_done : left ≡ [] → Considers q (constraints q.activities) none_yet list t list'
  passing_done none = considers_survivors (constraints q.activities) (rw (← p.all, none, append-nil) p.so_far)

  module _ {c : Constraint} {rest : List Constraint} (first : left ≡ c ∷ rest) where
    all_now : passed ++ (c ∷ rest) ≡ filter (survives q) (constraints q.activities)
    all_now = ap (λ left. passed ++ left) (sym first) ∙ p.all

    kept_now : Memᴰ c (constraints q.activities) × (survives q c ≡ true)
    kept_now = filter_member (survives q) c (constraints q.activities) (subst (Memᴰ c) all_now (Memᴰ.append_right passed (Memᴰ.head refl)))

    pub passing_over : Over q.activities c
    passing_over = constraints_over q.activities c kept_now.0

    pub passing_survives : survives q c ≡ true
    passing_survives = kept_now.1

    pub passing_next :
        {t' : Tally} {list'' : List ℕ} → Considers q (c ∷ []) t list' t' list'' → Passing q list (passed ++ (c ∷ [])) rest t' list''
    passing_next one = record { so_far = considers_append p.so_far one; all = append_assoc passed (c ∷ []) rest ∙ all_now }

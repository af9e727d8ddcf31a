-- A call beside a ledger whose traces are kept: it shows what the ledger says, and the ledger's traces are kept after it.
-- Assumes nothing.
use Prim.Native.Nat.{ℕ}
use mathlib.Core.Path.{◌≡◌, refl, sym, ap, subst, ◌∙◌}
use mathlib.Core.Bool.{true, false}
use mathlib.Core.List.{List, [], ◌∷◌, ◌++◌}
use borrow.Author.Tests.{not-false}
use lib.ListN.{length, length-append}
use Rattle.base.specs.Checks.{Check, Reply, reply, when_passed, Outcome}
use Rattle.base.proofs.Checks.{NoneFail, both_left}
use Rattle.base.proofs.Outcomes.{past_check, accepted_passes, accepted_leaves}
use Rattle.declare.specs.Traces.{declarable}
use Rattle.eventlog.specs.declared.Space.{Space}
use Rattle.eventlog.specs.declared.Room.{Room}
use Rattle.eventlog.specs.declared.Store.{Store}
use Rattle.eventlog.specs.Store.{Memory, with_store, last_end, space, room, with_kept, after_traces}
use Rattle.eventlog.specs.Calls.{unsound, empty, open_checks, add_checks, with_trace, with_traces}
use Rattle.eventlog.proofs.Laws.{total_append, fresh_kept, fresh_sound}
use Rattle.eventlog.proofs.Traces.{Grown, grown_one}
use Rattle.eventlog.proofs.Adding.{add_passed}
use Rattle.columns.specs.Log.{log_checks, spelled}
use Rattle.columns.proofs.Laws.{grown_read}
use Rattle.pruning.specs.declared.Settings.{Settings}
use Rattle.pruning.specs.Question.{Question, question_over, asked}
use Rattle.discovery.specs.Calls.{find_checks, find_values, with_list}
use Rattle.history.specs.Ledger.{Call, open_for, add, read, find, Shown, Ledger, first_ledger, room_beside, question, next_ledger, shows, with_all}
use Rattle.history.specs.Histories.{Called, Fresh, Keeps}

-- an empty store keeps nothing
empty_keeps : (n : ℕ) (m : Memory) → declarable n ≡ true → Keeps (space m) (first_ledger n) (with_store (empty n) m)
unfolding last_end
empty_keeps n m declared =
    record { is_sound = fresh_sound n m.events m.ends m.words declared; traces = fresh_kept n m.events m.ends m.words; same_room = refl }

pub fresh_keeps : (m : Memory) → Fresh m → Keeps (space m) (first_ledger m.store.activities) m
fresh_keeps m f =
    let opened : m.store ≡ empty f.n = accepted_leaves f.opens refl in
    let declared = not-false (declarable f.n) (accepted_passes f.opens refl).0 in
    subst (λ (store : Store). Keeps (space m) (first_ledger store.activities) (with_store store m)) (sym opened) (empty_keeps f.n m declared)

-- what a call is to show beside a ledger, and the ledger's traces are to be kept after it
pub record Follows (lengths : Space) (l : Ledger) (c : Call) (s : Shown) (m' : Memory) : Type 0 where
  pub agrees : s ≡ shows lengths l c
  pub keeps : Keeps lengths (next_ledger lengths l c) m'

module _ (lengths : Space) (l : Ledger) (m : Memory) (k : Keeps lengths l m) where
  sound_here : (unsound m).fails ≡ false
  sound_here = rw k.is_sound

  -- ## Open

  pub open_follows : (n : ℕ) (s : Shown) (m' : Memory) → Called m (open_for n) s m' → Follows lengths l (open_for n) s m'
  open_follows n s m' (store, opens, left, no-list) =
      let same-space : space m ≡ lengths = ap (λ (r : Room). r.space) k.same_room in
      let kept = both_left (λ store ledger. Keeps lengths ledger (with_store store m)) (open_checks n)
      (λ none. rw same-space at (empty_keeps n m (not-false (declarable n) none.0))) k in
      record {
        agrees = λ i. record { said = opens.says i; list = no-list i };
        keeps = rw (left, opens.leaves) kept;
      }

  -- ## Traces more: add and read

  room_grown : (traces : List (List ℕ)) → after_traces (room_beside lengths l) traces ≡ room_beside lengths (with_all l traces)
  room_grown traces =
      λ i. with_kept (room_beside lengths l) (sym (length-append l.traces traces) i) (sym (total_append l.traces traces) i)

  grown_keeps : {traces : List (List ℕ)} {m' : Memory} → Grown m traces m' → Keeps lengths (with_all l traces) m'
  grown_keeps {traces = traces} g =
      record {
        is_sound = g.still_sound;
        traces = g.keeps ∙ ap (λ kept. kept ++ traces) k.traces;
        same_room = g.room_left ∙ ap (λ r. after_traces r traces) k.same_room ∙ room_grown traces;
      }

  -- a call that is tested by the room that is left: it keeps these traces more where it is accepted, and else what there was
  module _ (checks : Room → List Check) (values : List ℕ) (traces : List (List ℕ))
      (grown : NoneFail (checks (room m)) → Grown m traces (with_traces m traces)) where
    grows :
        {said : Reply} {m' : Memory} → Outcome (unsound m ∷ checks (room m)) values (with_traces m traces) m said m' →
        (said ≡ reply (checks (room_beside lengths l)) values)
        × Keeps lengths (when_passed (checks (room_beside lengths l)) (with_all l traces) l) m'
    grows o =
        let o' = past_check sound_here o in (
          o'.says ∙ ap (λ r. reply (checks r) values) k.same_room,
          rw (o'.leaves, ← k.same_room)
              (both_left (λ m' ledger. Keeps lengths ledger m') (checks (room m)) (λ none. grown_keeps (grown none)) k),
        )

  pub add_follows : (trace : List ℕ) (s : Shown) (m' : Memory) → Called m (add trace) s m' → Follows lengths l (add trace) s m'
  add_follows trace s m' (adds, no-list) =
      let one : NoneFail (add_checks (room m) trace) → Grown m (trace ∷ []) (with_trace m trace) =
      λ none. let passed = add_passed m trace (sound_here, none) in grown_one m trace passed.is_sound passed.addable in
      let g = grows (λ r. add_checks r trace) [] (trace ∷ []) one adds in
      record { agrees = λ i. record { said = g.0 i; list = no-list i }; keeps = g.1 }

  pub read_follows : (log : List ℕ) (s : Shown) (m' : Memory) → Called m (read log) s m' → Follows lengths l (read log) s m'
  read_follows log s m' (reads, no-list) =
      let g = grows (λ r. log_checks r log) (length (spelled log) ∷ []) (spelled log) (grown_read m log k.is_sound) reads in
      record { agrees = λ i. record { said = g.0 i; list = no-list i }; keeps = g.1 }

  -- ## Find

  pub find_follows : (settings : Settings) (list : List ℕ) (s : Shown) (m' : Memory) → Called m (find settings list) s m' → Follows lengths l (find settings list) s m'
  find_follows settings list s m' (finds, same) =
      let o = past_check sound_here finds in
      let asks : asked m settings ≡ question l settings = λ i. question_over (k.same_room i).activities (k.traces i) settings in
      let says = o.says ∙ ap (λ (q : Question). reply (find_checks q list) (find_values q)) asks in
      let leaves = o.leaves ∙ ap (λ (q : Question). when_passed (find_checks q list) (with_list q list) list) asks in
      record { agrees = λ i. record { said = says i; list = leaves i }; keeps = rw same k }

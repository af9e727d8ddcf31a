-- What a find shows over a ledger's traces is right, and an accepted one gives its list and numbers.
-- Assumes nothing.
use Prim.Native.Nat.{ℕ, ◌+◌, ◌*◌, ◌≤◌}
use mathlib.Core.Path.{◌≡◌, refl, sym, ap, ◌∙◌}
use mathlib.Core.List.{List, [], ◌∷◌, ◌++◌}
use native.Mathlib.Omega.{arith}
use lib.ListN.{length, take, drop}
use lib.Seq.{sets, sets-eq, take_at}
use Rattle.base.specs.Checks.{gives, reply}
use Rattle.base.proofs.Checks.{given-new, given_values, when_passed_same}
use Rattle.eventlog.specs.declared.Space.{Space}
use Rattle.declare.specs.declared.constraints.Constraint.{Constraint}
use Rattle.pruning.specs.declared.Settings.{Settings}
use Rattle.pruning.specs.Question.{Question, trace_count}
use Rattle.discovery.specs.Listing.{listed, replayed, events_read, numbers, layout}
use Rattle.discovery.specs.Calls.{checks_for}
use Rattle.discovery.proofs.FindContract.{find_passed}
use Rattle.discovery.proofs.Listing.{listed_exactly, replayed_exactly, replayed_at_most, read_at_most, layout_length}
use Rattle.history.specs.Ledger.{find, Shown, Ledger, question, shows}
use Rattle.history.specs.Histories.{RightFind}

-- the list laid out at the front of a slice that has room for it
laid_out :
    (q : Question) (cs : List Constraint) (list : List ℕ) → numbers * length cs ≤ length list →
    sets list 0 (layout q cs) ≡ layout q cs ++ drop (numbers * length cs) list
laid_out q cs list fits =
    let same : 0 + length (layout q cs) ≡ numbers * length cs = omega (arith, layout_length q cs) in
    sets-eq (layout q cs) list 0 (omega arith) ∙ ap (λ k. layout q cs ++ drop k list) same

pub shows_right :
    (lengths : Space) (l : Ledger) (settings : Settings) (list : List ℕ) → RightFind (question l settings) list (shows lengths l (find settings list))
shows_right lengths l settings list =
    let q = question l settings in
    let cs = listed q in
    let checks = checks_for (length cs) q list in
    record {
      listed = cs;
      exactly = listed_exactly q;
      replayed = replayed q;
      kept_by_pruning = replayed_exactly q;
      at_most = replayed_at_most q;
      read_at_most = read_at_most q (replayed q);
      said = refl;
      written = when_passed_same checks _ _ list (λ none. laid_out q cs list (find_passed q list none).fits);
    }

-- an accepted find gives its numbers, and the list is at the front of its slice
pub record Gives (q : Question) (shown : Shown) (cs ks : List Constraint) : Type 0 where
  pub said : shown.said ≡ gives (length cs ∷ length ks ∷ trace_count q ∷ events_read q ks ∷ [])
  pub front : take (numbers * length cs) shown.list ≡ layout q cs

pub right_gives :
    (q : Question) (list : List ℕ) (shown : Shown) (right : RightFind q list shown) (values : List ℕ) → shown.said ≡ gives values →
    Gives q shown right.listed right.replayed
right_gives q list shown right values given =
    let cs = right.listed in
    let checks = checks_for (length cs) q list in
    let all = length cs ∷ length right.replayed ∷ trace_count q ∷ events_read q right.replayed ∷ [] in
    let passed : reply checks all ≡ gives values = sym right.said ∙ given in
    let new = right.written ∙ given-new checks all values passed (layout q cs ++ drop (numbers * length cs) list) list in
    record {
      said = given ∙ ap gives (sym (given_values checks all values passed));
      front = ap (take (numbers * length cs)) new ∙ take_at (layout q cs) (drop (numbers * length cs) list) (numbers * length cs) (layout_length q cs);
    }

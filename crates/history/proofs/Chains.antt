-- Chains of calls, whatever one call may show and leave: when there is one, and each find of one.
-- Assumes nothing.
use Prim.Native.Nat.{ℕ}
use mathlib.Core.Path.{◌≡◌, refl}
use mathlib.Core.List.{List, [], ◌∷◌, ◌++◌}
use lib.ListN.{length, get_elem?}
use Rattle.eventlog.specs.Store.{Memory}
use Rattle.pruning.specs.declared.Settings.{Settings}
use Rattle.history.specs.Ledger.{Call, find}
use Rattle.history.specs.Histories.{StepOf, Fresh, Chain, FindAt}

-- where each call can be made in any memory, so can all calls, one after the other
pub chain_there :
    {A : Type 0} {Step : StepOf A} → ((m : Memory) (c : Call) → (s : A) × (m' : Memory) × Step m c s m') →
    (m : Memory) (cs : List Call) → (ss : List A) × (last : Memory) × Chain Step m cs ss last
chain_there step m [] = ([], m, refl)
chain_there step m (c ∷ cs) =
    let (s, m', called) = step m c in
    let (ss, last, h) = chain_there step m' cs in
    (s ∷ ss, last, (m', called, h))

-- ## Every find of a chain is one behind calls from a fresh store

-- A chain cut after some of its calls.
pub record Cut {A : Type 0} (Step : StepOf A) (m : Memory) (cs ds : List Call) (ss : List A) (last : Memory) : Type 0 where
  pub front : List A
  pub back : List A
  pub middle : Memory
  pub first : Chain Step m cs front middle
  pub second : Chain Step middle ds back last
  pub there : get_elem? ss (length cs) ≡ get_elem? back 0

module _ {A : Type 0} (Step : StepOf A) where
  cut_after : (m last : Memory) (cs ds : List Call) (ss : List A) → Chain Step m (cs ++ ds) ss last → Cut Step m cs ds ss last
  cut_after m last [] ds ss h = record { front = []; back = ss; middle = m; first = refl; second = h; there = refl }
  cut_after m last (c ∷ cs) ds [] h = absurd h
  cut_after m last (c ∷ cs) ds (s ∷ ss) (m', called, h) =
      let k = cut_after m' last cs ds ss h in
      record {
        front = s ∷ k.front;
        back = k.back;
        middle = k.middle;
        first = (m', called, k.first);
        second = k.second;
        there = k.there;
      }

  pub find_at :
      (m last : Memory) (before later : List Call) (settings : Settings) (list : List ℕ) (ss : List A) → Fresh m →
      Chain Step m (before ++ (find settings list ∷ later)) ss last → FindAt Step m before settings list ss
  find_at m last before later settings list ss fresh h = go cut.back cut.second cut.there
    where
      cut : Cut Step m before (find settings list ∷ later) ss last
      cut = cut_after m last before (find settings list ∷ later) ss h

      go :
          (back : List A) → Chain Step cut.middle (find settings list ∷ later) back last →
          get_elem? ss (length before) ≡ get_elem? back 0 → FindAt Step m before settings list ss
      go [] h there = absurd h
      go (s ∷ back) (m', called, h) there =
          record {
            found =
                record {
                  start = m;
                  is_fresh = fresh;
                  before = before;
                  shown_before = cut.front;
                  memory = cut.middle;
                  history = cut.first;
                  settings = settings;
                  list = list;
                  shown = s;
                  memory' = m';
                  called = called;
                };
            same_start = refl;
            same_before = refl;
            same_settings = refl;
            same_list = refl;
            shown_there = there;
          }

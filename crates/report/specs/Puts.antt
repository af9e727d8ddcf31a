-- What the functions that write text promise each other. Nothing here has to be believed: proofs/Puts.antt and Reporting.antt show that it
-- comes to the definitions of `Print`.
-- Assumes nothing.
use Rattle.std.specs.Prelude.{ℕ, ◌+◌, ◌≤◌, ◌≡◌, List, length}
use Rattle.std.proofs.lemmas.List.Edits.{sets}
use Rattle.base.specs.Lists.{flat_map}
use Rattle.discovery.specs.declared.row.Row.{Row}
use Rattle.discovery.specs.Listing.{from_row}
use Rattle.report.specs.declared.text.Text.{Text}
use Rattle.report.specs.Print.{constraint_line}

-- `text`, of this size, is put at a place of `out`, and the place after it handed back
pub record Puts (out : List ℕ) (at size : ℕ) (text : List ℕ) (next : ℕ) (out' : List ℕ) : Type 0 where
  pub sized : length text ≡ size
  pub within : at + size ≤ length out
  pub follows : next ≡ at + size
  pub stores : out' ≡ sets out at text

-- `text`, of this size, is added to a text; it stays the same reference, so that the lender learns what the slice holds
pub record Adds (t : Text) (size : ℕ) (text : List ℕ) (t' : Text) : Type 0 where
  pub puts : Puts t.out.now t.at size text t'.at t'.out.now
  pub same_length : length t'.out.now ≡ length t.out.now
  pub same_out : t'.out.ghost_name ≡ t.out.ghost_name

abbrev pub printed_line : Row → List ℕ
printed_line row = constraint_line row.template row.a row.b row.fulfilled row.activated

-- the lines of rows of the list
abbrev pub lines_of : List (List ℕ) → List ℕ
lines_of rows = flat_map rows λ row. printed_line (from_row row)

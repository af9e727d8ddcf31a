use Rattle.std.proofs.Common.{◌/◌, ◌≤◌, refl, ap, ◌∙◌, length, take, arith}
use Rattle.discovery.specs.Listing.{numbers}
use Rattle.report.proofs.Puts.{add_then, put_same, first_rows}
use Rattle.report.proofs.print.Goals.{in-Ok, in-Err}
use Rattle.report.proofs.print.Goals as goal

pub returns : goal.returns
returns c =
    elim c.match-answer.branch [
      | in-Ok listed ↦
          let k = listed.in-Ok.found.constraints in
          let list = c.args.list.now in
          let within : k ≤ length list / numbers = omega (arith, rw listed.in-Ok.is at c.requires) in
          let rows = ap (take k) listed.as_chunks.ensures.front ∙ first_rows numbers k (length list / numbers) list within in
          rw (listed.in-Ok.is, listed.text-is, ← rows) (put_same refl (add_then listed.put_first.ensures listed.put_list.ensures).puts)
      | in-Err not_listed ↦ rw (not_listed.in-Err.is, not_listed.text-is) (put_same refl not_listed.put_refusal.ensures.puts)
    ]

use Rattle.report.proofs.Reporting.{printed_reports}
use Rattle.report.proofs.report.Goals as goal

pub returns : goal.returns
returns c = printed_reports c.decide-answer.ensures c.print.ensures

use Rattle.eif_report.proofs.OneReport.{one_report}
use Rattle.eif_report.proofs.report.one_report.Goals as goal

pub returns : goal.returns
returns c = one_report

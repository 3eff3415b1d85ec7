use Rattle.std.proofs.Common.{subst, sym}
use Rattle.std.proofs.lemmas.Result.{IfOk-weaker}
use Rattle.eifcheck.specs.Inputs.{IsDue, IsFit}
use Rattle.eifcheck.specs.Judgement.{IsReportOn}
use Rattle.eifcheck.specs.ReadWords.{command_of}
use Rattle.eifcheck.proofs.Reports.{list_reported}
use Rattle.eifcheck.proofs.command.report_on.Goals as goal

pub returns-in-BadList : goal.returns-in-BadList
returns-in-BadList g c =
    IfOk-weaker c.list_report.result _ _
    (λ r told step due.
    list_reported (command_of c.args.words.now) c.in-BadList.list c.in-BadList.faults r step
    (subst IsFit c.in-BadList.is c.requires) told (subst (IsDue step) c.in-BadList.is due))
    c.list_report.ensures

-- What the steps of a check give.
use Rattle.std.specs.Prelude.{◌≡◌, ℕ, Bool, true, false, List, Option}
use Rattle.std.specs.Bool.{MatchBool}
use Rattle.eif_base.specs.declared.Fault.{Fault}
use Rattle.eif_base.specs.Appends.{In}
use Rattle.eif_base.specs.Writes.{Writes, WritesFront}
use Rattle.eif_report.specs.declared.ReportForm.{ReportForm}
use Rattle.eif_report.specs.Report.{IsReport}
use Rattle.eif_report.specs.declared.Verdict.{Verdict}
use Rattle.eif_report.specs.declared.Verdict.TheVariants as v
use Rattle.eifcheck.specs.declared.command.Report.{Report}
use Rattle.eifcheck.specs.declared.status.Status.{Status}
use Rattle.eifcheck.specs.declared.status.Status.TheVariants as s
use Rattle.eifcheck.specs.Answers.{IsYes, IsNo}
use Rattle.eifcheck.specs.Form.{Command}
use Rattle.eifcheck.specs.Steps.{Step}

abbrev pub is_yes : Verdict → Bool
is_yes (v.Yes n) = true
is_yes (v.Faults list) = false

-- the report on what was due
abbrev pub IsReportOn : Command → Step → Report → Type 0
IsReportOn c step report = MatchBool report.is_yes (IsYes c step report.bytes.items) (IsNo c step report.bytes.items)

-- the report on the list with that name, whose lines have these faults
abbrev pub IsListReport : ReportForm → List (List ℕ) → List Fault → Report → Type 0
IsListReport form names faults report = (report.is_yes ≡ false) × IsReport form names (In faults) report.bytes.items

-- how the write of a report ends
abbrev pub Ends : Report → Option (List ℕ) → Option (List ℕ) → Status → Type 0
Ends report old new s.Yes = (report.is_yes ≡ true) × Writes old new report.bytes.items
Ends report old new s.Faults = (report.is_yes ≡ false) × Writes old new report.bytes.items
Ends report old new s.WriteFault = WritesFront old new report.bytes.items
Ends report old new _ = ⊥

-- how a check ends once all was read
abbrev pub EndsJudged : Status → Type 0
EndsJudged s.Yes = Unit {0}
EndsJudged s.Faults = Unit {0}
EndsJudged s.WriteFault = Unit {0}
EndsJudged s.Memory = Unit {0}
EndsJudged _ = ⊥

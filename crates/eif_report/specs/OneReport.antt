-- Two reports of the same faults in one form are the same bytes.
use Rattle.std.specs.Prelude.{◌≡◌, ℕ, List}
use Rattle.eif_base.specs.Appends.{In}
use Rattle.eif_base.specs.declared.Fault.{Fault}
use Rattle.eif_report.specs.declared.form.ReportForm.{ReportForm}
use Rattle.eif_report.specs.Order.{Lists}
use Rattle.eif_report.specs.Report.{faults_text}

-- two lists in order of the same faults are one list
abbrev pub OneReport : Type 0
OneReport =
    (form : ReportForm) (names : List (List ℕ)) (faults a b : List Fault)
    → Lists names a (In faults) → Lists names b (In faults)
    → faults_text form names a ≡ faults_text form names b

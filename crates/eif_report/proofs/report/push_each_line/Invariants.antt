use Rattle.std.proofs.Common.{◌≡◌, ◌++◌}
use Rattle.std.specs.Slice.Iter.{iter_rest}
use Rattle.eif_base.specs.FileLists.{names_of}
use Rattle.eif_report.specs.declared.form.ReportForm.TheVariants.{Two}
use Rattle.eif_report.specs.Report.{fault_lines}
use Rattle.eif_report.proofs.report.push_each_line.Given as goal

-- what is written and the lines that are left are all lines
abbrev pub invariant-faults : goal.invariant-faults
invariant-faults l =
    l.text.items ++ fault_lines Two (names_of l.files) (iter_rest l.fault-iterator)
    ≡ l.initial.text.items ++ fault_lines Two (names_of l.files) l.list

use Rattle.std.proofs.Common.{◌≡◌, ◌+◌, ◌++◌, ℕ, List, flat_map, length}
use Rattle.std.specs.Slice.Iter.{iter_rest}
use Rattle.eif_base.specs.FileLists.{names_of}
use Rattle.eif_base.specs.declared.Fault.{Fault}
use Rattle.eif_report.specs.declared.form.ReportForm.TheVariants.{One}
use Rattle.eif_report.specs.Report.{fault_line, fault_lines, once}
use Rattle.eif_report.proofs.Lines.{once_behind}
use Rattle.eif_report.proofs.report.push_lines_once.Given as goal

module _ (names : List (List ℕ)) (list : List Fault) (before : List ℕ) where
  -- what is written and the lines that are left are all lines, and so for their counts
  pub record AreLines (text : List ℕ) (count : ℕ) (left : List Fault) : Type 0 where
    pub lines : text ++ flat_map (fault_line One names) left ≡ before ++ fault_lines One names list
    pub counted : count + length left ≡ length (once names list)

abbrev pub invariant-lines : goal.invariant-lines
invariant-lines l =
    AreLines (names_of l.files) l.list l.initial.text.items l.text.items l.count
    (once_behind (names_of l.files) l.last (iter_rest l.fault-iterator))

-- What the check of a system says.
use Rattle.std.specs.Prelude.{◌≡◌, ◌≢◌, ℕ, ◌≤◌, List, [], length}
use Rattle.eif_base.specs.FileLists.{NamedText, names_of, texts_of}
use Rattle.eif_base.specs.declared.root.Root.{Root}
use Rattle.eif_tree.specs.Tree.{ClassT}
use Rattle.eif_report.specs.declared.verdict.Verdict.{Verdict}
use Rattle.eif_report.specs.declared.verdict.Verdict.TheVariants as v
use Rattle.eif_report.specs.Order.{Lists}
use Rattle.eif_rules.specs.FaultForms.{IsNone}
use Rattle.eif_check.specs.Systems.{AreClasses, Broken}

-- Yes of so many texts where there is no fault, and then each text is a class; else exactly the faults, in the order of
-- a report
abbrev pub IsVerdict : List NamedText → Root → Verdict → Type 0
IsVerdict files root (v.Yes n) =
    (n ≡ length files) × IsNone (Broken (texts_of files) root)
    × ((given : List ClassT) × AreClasses (texts_of files) given)
IsVerdict files root (v.Faults list) = (list ≢ []) × Lists (names_of files) list (Broken (texts_of files) root)

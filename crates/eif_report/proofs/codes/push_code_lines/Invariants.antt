use Rattle.std.proofs.Common.{◌≡◌, ◌++◌, flat_map, take}
use Rattle.eif_report.specs.Report.{count_line}
use Rattle.eif_report.proofs.codes.push_code_lines.Given as goal

-- the lines of the codes so far are written
abbrev pub invariant-codes : goal.invariant-codes
invariant-codes l =
    l.text.items ≡ l.initial.text.items ++ flat_map (count_line l.list) (take l.code-index l.code-items)

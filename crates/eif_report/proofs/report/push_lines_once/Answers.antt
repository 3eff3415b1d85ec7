use Rattle.std.proofs.Common.{◌<◌, ◌^◌, length, rules, arith}
use Rattle.eif_base.specs.FileLists.{names_of}
use Rattle.eif_report.proofs.Lines.{length-once}
use Rattle.eif_report.proofs.report.push_lines_once.Goals as goal

pub overflow_add-count : goal.overflow_add-count
overflow_add-count c =
    let few : length c.args.list.now < 2 ^ 63 = search rules in
    omega (arith, length-once (names_of c.args.files.now) c.args.list.now, c.lines.invariant.counted)

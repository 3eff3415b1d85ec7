use Rattle.std.proofs.Common.{map, length}
use Rattle.eifcheck.proofs.ListLines.{Added}
use Rattle.eifcheck.proofs.list_file.list_lines.Given as goal

abbrev pub invariant-lines : goal.invariant-lines
invariant-lines l = Added l.text l.lines.faults (map (λ name. name.now) l.lines.names.items) l.offset l.number l.rest

abbrev pub decreases-lines : goal.decreases-lines
decreases-lines l = length l.rest

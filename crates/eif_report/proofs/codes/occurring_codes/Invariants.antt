use Rattle.std.proofs.Common.{◌≡◌, reverse, map}
use Rattle.eif_report.specs.Report.{codes_of}
use Rattle.eif_report.proofs.codes.occurring_codes.Given as goal

-- the codes of the faults so far, which come in reverse
abbrev pub invariant-faults : goal.invariant-faults
invariant-faults l = l.codes.items ≡ codes_of (reverse (map (λ f. f.now) l.yielded))

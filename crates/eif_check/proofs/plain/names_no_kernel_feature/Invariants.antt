use Rattle.std.proofs.Common.{◌≡◌, map, drop}
use Rattle.eif_check.specs.Mentions.{name_at}
use Rattle.eif_system_rules.specs.PlainClasses.{names_no_kernel_feature}
use Rattle.eif_check.proofs.plain.names_no_kernel_feature.Given as goal

abbrev pub invariant-names : goal.invariant-names
invariant-names l =
    names_no_kernel_feature (map name_at (drop l.mention-index l.names))
    ≡ names_no_kernel_feature (map name_at l.names)

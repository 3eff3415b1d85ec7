use Rattle.std.proofs.Common.{◌≡◌, map, drop}
use Rattle.std.specs.Prelude.{◌&&◌}
use Rattle.eif_system_rules.specs.PlainClasses.{are_distinct}
use Rattle.eif_check.specs.Mentions.{name_at}
use Rattle.eif_check.proofs.NameSets.{none_among}
use Rattle.eif_check.proofs.plain.are_distinct.Given as goal

abbrev pub invariant-names : goal.invariant-names
invariant-names l =
    (none_among l.earlier (map name_at (drop l.mention-index l.names))
    && are_distinct (map name_at (drop l.mention-index l.names)))
    ≡ are_distinct (map name_at l.names)

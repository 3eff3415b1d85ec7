use Rattle.std.proofs.Common.{◌≡◌, map, drop}
use Rattle.eif_tree.specs.Members as parts
use Rattle.eif_check.specs.Mentions.{name_at}
use Rattle.eif_check.proofs.mention.has_name.Given as goal

abbrev pub invariant-names : goal.invariant-names
invariant-names l =
    parts.has_name (map name_at (drop l.mention-index l.names)) l.name
    ≡ parts.has_name (map name_at l.names) l.name

use Rattle.std.proofs.Common.{◌≡◌, map, drop}
use Rattle.std.specs.List.{list_all}
use Rattle.eif_tree.specs.Members.{has_name}
use Rattle.eif_check.specs.Mentions.{name_at}
use Rattle.eif_check.proofs.plain.are_declared.Given as goal

abbrev pub invariant-names : goal.invariant-names
invariant-names l =
    list_all (λ n. has_name (map name_at l.declared) n.name) (map name_at (drop l.mention-index l.names))
    ≡ list_all (λ n. has_name (map name_at l.declared) n.name) (map name_at l.names)

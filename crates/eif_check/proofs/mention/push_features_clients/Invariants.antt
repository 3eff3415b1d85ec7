use Rattle.std.proofs.Common.{◌≡◌, ◌++◌, map, drop}
use Rattle.std.specs.Prelude.{flat_map}
use Rattle.eif_tree.specs.View.{features_view}
use Rattle.eif_check.specs.Mentions.{name_at}
use Rattle.eif_check.proofs.mention.push_features_clients.Given as goal

abbrev pub invariant-parts : goal.invariant-parts
invariant-parts l =
    map name_at l.out.items ++ flat_map (λ part. part.clients.names) (map features_view (drop l.part-index l.parts))
    ≡ map name_at l.initial.out.items ++ flat_map (λ part. part.clients.names) (map features_view l.parts)

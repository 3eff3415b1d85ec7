use Rattle.std.proofs.Common.{◌≡◌, ◌++◌, map, drop}
use Rattle.std.specs.Prelude.{flat_map}
use Rattle.eif_tree.specs.View.{creators_view}
use Rattle.eif_check.specs.Mentions.{name_at}
use Rattle.eif_check.proofs.mention.creator_names.Given as goal

abbrev pub invariant-parts : goal.invariant-parts
invariant-parts l =
    map name_at l.out.items
    ++ flat_map (λ part. part.names) (map creators_view (drop l.part-index l.tree.creators.items))
    ≡ flat_map (λ part. part.names) (map creators_view l.tree.creators.items)

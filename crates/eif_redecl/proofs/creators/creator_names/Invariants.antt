use Rattle.std.proofs.Common.{◌≡◌, ◌++◌, map, drop}
use Rattle.std.specs.Prelude.{flat_map}
use Rattle.eif_tree.specs.View.{creators_view}
use Rattle.eif_redecl.proofs.creators.creator_names.Given as goal

abbrev pub invariant-parts : goal.invariant-parts
invariant-parts l =
    map (λ n. n.now) l.names.items
    ++ flat_map (λ part. part.names) (map creators_view (drop l.part-index l.class.creators.items))
    ≡ flat_map (λ part. part.names) (map creators_view l.class.creators.items)

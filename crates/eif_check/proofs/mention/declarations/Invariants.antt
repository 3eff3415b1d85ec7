use Rattle.std.proofs.Common.{◌≡◌, ◌++◌, map, drop}
use Rattle.std.specs.Prelude.{flat_map}
use Rattle.eif_tree.specs.View.{decl_view, features_view}
use Rattle.eif_check.proofs.mention.declarations.Given as goal

abbrev pub invariant-parts : goal.invariant-parts
invariant-parts l =
    map (λ d. decl_view d.now) l.out.items
    ++ flat_map (λ part. part.decls) (map features_view (drop l.part-index l.tree.features.items))
    ≡ flat_map (λ part. part.decls) (map features_view l.tree.features.items)

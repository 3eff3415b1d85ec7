use Rattle.std.proofs.Common.{◌≡◌, ◌++◌, map, drop}
use Rattle.std.specs.Prelude.{flat_map}
use Rattle.eif_heirs.specs.DraftParts.{lent_part, part_of_each}
use Rattle.eif_tree.specs.View.{decl_view, features_view}
use Rattle.eif_heirs.proofs.parts.push_for_declarations.Given as goal

abbrev pub invariant-declarations : goal.invariant-declarations
invariant-declarations l =
    map lent_part l.out.items
    ++ flat_map (part_of_each (features_view l.part)) (map decl_view (drop l.declaration-index l.declarations))
    ≡ map lent_part l.initial.out.items ++ flat_map (part_of_each (features_view l.part)) (map decl_view l.declarations)

use Rattle.std.proofs.Common.{◌≡◌, ◌++◌, map, drop}
use Rattle.eif_heirs.specs.DraftParts.{lent_part, parts_of}
use Rattle.eif_tree.specs.View.{features_view}
use Rattle.eif_heirs.proofs.parts.declaring_parts.Given as goal

abbrev pub invariant-parts : goal.invariant-parts
invariant-parts l =
    map lent_part l.parts.items ++ parts_of (map features_view (drop l.part-index l.tree.features.items))
    ≡ parts_of (map features_view l.tree.features.items)

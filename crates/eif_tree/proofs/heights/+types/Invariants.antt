use Rattle.std.proofs.Common.{◌≡◌, map, max, drop}
use Rattle.eif_tree.specs.View.{type_view, types_from}
use Rattle.eif_tree.specs.Height as tall
use Rattle.eif_tree.proofs.heights.+types.Given as goal

-- the heights so far and those to come are those of all
abbrev pub invariant-types_height-loop-type_tree : goal.invariant-types_height-loop-type_tree
invariant-types_height-loop-type_tree l =
    max l.most (tall.types_height (types_from (map type_view (drop l.type_tree-index l.types)))) ≡ tall.types_height (types_from (map type_view l.types))

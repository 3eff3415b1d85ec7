use Rattle.std.proofs.Common.{◌≡◌, drop, map}
use Rattle.eif_tree.specs.View.{type_view, types_from}
use Rattle.eif_examples.specs.Digest.{after, reads_of}
use Rattle.eif_examples.specs.Numbers.{types_numbers}
use Rattle.eif_examples.proofs.expressions.+types.Given as goal

abbrev pub invariant-type_trees-trees : goal.invariant-type_trees-trees
invariant-type_trees-trees l =
    after l.so_far (types_numbers (reads_of l.places) (types_from (map type_view (drop l.tree-index l.trees))))
    ≡ after l.initial.so_far (types_numbers (reads_of l.places) (types_from (map type_view l.trees)))

use Rattle.std.proofs.Common.{◌≡◌, drop, map}
use Rattle.eif_tree.specs.View.{group_view}
use Rattle.eif_examples.specs.Digest.{after, reads_of}
use Rattle.eif_examples.specs.Numbers.{list_numbers, group_numbers}
use Rattle.eif_examples.proofs.classes.groups.Given as goal

abbrev pub invariant-groups : goal.invariant-groups
invariant-groups l =
    after l.so_far (list_numbers (group_numbers (reads_of l.places)) (map group_view (drop l.one-index l.groups)))
    ≡ after l.initial.so_far (list_numbers (group_numbers (reads_of l.places)) (map group_view l.groups))

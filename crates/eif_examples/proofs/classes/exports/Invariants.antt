use Rattle.std.proofs.Common.{◌≡◌, drop, map}
use Rattle.eif_tree.specs.View.{export_view}
use Rattle.eif_examples.specs.Digest.{after, reads_of}
use Rattle.eif_examples.specs.Numbers.{list_numbers, export_numbers}
use Rattle.eif_examples.proofs.classes.exports.Given as goal

abbrev pub invariant-items : goal.invariant-items
invariant-items l =
    after l.so_far (list_numbers (export_numbers (reads_of l.places)) (map export_view (drop l.item-index l.items)))
    ≡ after l.initial.so_far (list_numbers (export_numbers (reads_of l.places)) (map export_view l.items))

use Rattle.std.proofs.Common.{◌≡◌, drop, map}
use Rattle.eif_tree.specs.View.{features_view}
use Rattle.eif_examples.specs.Digest.{after, reads_of}
use Rattle.eif_examples.specs.Numbers.{list_numbers, features_numbers}
use Rattle.eif_examples.proofs.classes.features.Given as goal

abbrev pub invariant-parts : goal.invariant-parts
invariant-parts l =
    after l.so_far (list_numbers (features_numbers (reads_of l.places)) (map features_view (drop l.part-index l.parts)))
    ≡ after l.initial.so_far (list_numbers (features_numbers (reads_of l.places)) (map features_view l.parts))

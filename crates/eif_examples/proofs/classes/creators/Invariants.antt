use Rattle.std.proofs.Common.{◌≡◌, drop, map}
use Rattle.eif_tree.specs.View.{creators_view}
use Rattle.eif_examples.specs.Digest.{after, reads_of}
use Rattle.eif_examples.specs.Numbers.{list_numbers, creators_numbers}
use Rattle.eif_examples.proofs.classes.creators.Given as goal

abbrev pub invariant-parts : goal.invariant-parts
invariant-parts l =
    after l.so_far (list_numbers (creators_numbers (reads_of l.places)) (map creators_view (drop l.part-index l.parts)))
    ≡ after l.initial.so_far (list_numbers (creators_numbers (reads_of l.places)) (map creators_view l.parts))

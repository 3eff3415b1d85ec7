use Rattle.std.proofs.Common.{◌≡◌, drop, map}
use Rattle.eif_tree.specs.View.{formal_view}
use Rattle.eif_examples.specs.Digest.{after, reads_of}
use Rattle.eif_examples.specs.Numbers.{list_numbers, formal_numbers}
use Rattle.eif_examples.proofs.classes.formals.Given as goal

abbrev pub invariant-formals : goal.invariant-formals
invariant-formals l =
    after l.so_far (list_numbers (formal_numbers (reads_of l.places)) (map formal_view (drop l.one-index l.formals)))
    ≡ after l.initial.so_far (list_numbers (formal_numbers (reads_of l.places)) (map formal_view l.formals))

use Rattle.std.proofs.Common.{◌≡◌, drop, map}
use Rattle.eif_tree.specs.View.{parent_view}
use Rattle.eif_examples.specs.Digest.{after, reads_of}
use Rattle.eif_examples.specs.Numbers.{list_numbers, parent_numbers}
use Rattle.eif_examples.proofs.classes.parents.Given as goal

abbrev pub invariant-clauses : goal.invariant-clauses
invariant-clauses l =
    after l.so_far (list_numbers (parent_numbers (reads_of l.places)) (map parent_view (drop l.clause-index l.clauses)))
    ≡ after l.initial.so_far (list_numbers (parent_numbers (reads_of l.places)) (map parent_view l.clauses))

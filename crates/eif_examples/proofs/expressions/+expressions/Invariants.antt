use Rattle.std.proofs.Common.{◌≡◌, drop, map}
use Rattle.eif_tree.specs.View.{expr_view, exs_from}
use Rattle.eif_examples.specs.Digest.{after, reads_of}
use Rattle.eif_examples.specs.Numbers.{exs_numbers}
use Rattle.eif_examples.proofs.expressions.+expressions.Given as goal

abbrev pub invariant-expressions-exprs : goal.invariant-expressions-exprs
invariant-expressions-exprs l =
    after l.so_far (exs_numbers (reads_of l.places) (exs_from (map expr_view (drop l.expr-index l.exprs))))
    ≡ after l.initial.so_far (exs_numbers (reads_of l.places) (exs_from (map expr_view l.exprs)))

use Rattle.std.proofs.Common.{◌≡◌, ◌++◌, map, drop}
use Rattle.eif_system.specs.WrittenTypes.{types_of_expressions}
use Rattle.eif_tree.specs.View.{expr_view, exs_from}
use Rattle.eif_written.specs.LentTypes.{lent_type}
use Rattle.eif_written.proofs.outermost.+expressions.Given as goal

abbrev pub invariant-push_of_expressions-exprs : goal.invariant-push_of_expressions-exprs
invariant-push_of_expressions-exprs l =
    map lent_type l.out.items ++ types_of_expressions (exs_from (map expr_view (drop l.expr-index l.exprs)))
    ≡ map lent_type l.initial.out.items ++ types_of_expressions (exs_from (map expr_view l.exprs))

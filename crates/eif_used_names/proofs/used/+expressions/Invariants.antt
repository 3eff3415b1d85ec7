use Rattle.std.proofs.Common.{◌≡◌, ◌++◌, map, drop}
use Rattle.eif_feature_rules.specs.NamesUsed.{names_in_all}
use Rattle.eif_tree.specs.View.{expr_view, exs_from}
use Rattle.eif_used_names.specs.LentNames.{lent_name}
use Rattle.eif_used_names.proofs.used.+expressions.Given as goal

abbrev pub invariant-push_of_expressions-exprs : goal.invariant-push_of_expressions-exprs
invariant-push_of_expressions-exprs l =
    map lent_name l.out.items ++ names_in_all (exs_from (map expr_view (drop l.expr-index l.exprs)))
    ≡ map lent_name l.initial.out.items ++ names_in_all (exs_from (map expr_view l.exprs))

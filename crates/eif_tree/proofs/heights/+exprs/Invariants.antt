use Rattle.std.proofs.Common.{◌≡◌, map, max, drop}
use Rattle.eif_tree.specs.View.{expr_view, exs_from}
use Rattle.eif_tree.specs.Height as tall
use Rattle.eif_tree.proofs.heights.+exprs.Given as goal

-- the heights so far and those to come are those of all
abbrev pub invariant-heights-loop-expr : goal.invariant-heights-loop-expr
invariant-heights-loop-expr l =
    max l.most (tall.heights (exs_from (map expr_view (drop l.expr-index l.exprs)))) ≡ tall.heights (exs_from (map expr_view l.exprs))

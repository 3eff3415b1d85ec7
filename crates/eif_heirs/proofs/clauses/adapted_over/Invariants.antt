use Rattle.std.proofs.Common.{List, length, map, take}
use Rattle.eif_heirs.specs.AdaptedClauses.{IsParent, AreAdapted}
use Rattle.eif_rows.specs.Matched.{Match}
use Rattle.eif_tree.specs.Tree.{ClassT}
use Rattle.eif_tree.specs.View.{class_view, parent_view}
use Rattle.eif_heirs.proofs.clauses.adapted_over.Given as goal

abbrev pub invariant-clauses : goal.invariant-clauses
invariant-clauses l =
    let c = class_view l.class.tree.now in
    (u : List ClassT) → Match (IsParent u c l.rows) (map parent_view l.fn.trees) l.fn.parents
    → AreAdapted u c l.initial.out l.out l.clauses.items (map parent_view (take (length l.yielded) l.fn.trees))

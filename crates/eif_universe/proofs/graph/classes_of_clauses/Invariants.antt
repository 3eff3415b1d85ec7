use Rattle.std.proofs.Common.{◌≡◌, ◌++◌, drop, map}
use Rattle.std.specs.List.{filter_map}
use Rattle.eif_system.specs.Inheritance.{parent_number}
use Rattle.eif_tree.specs.View.{class_view, parent_view}
use Rattle.eif_universe.specs.ClassesView.{classes_view}
use Rattle.eif_universe.proofs.graph.classes_of_clauses.Given as goal

abbrev pub invariant-clauses : goal.invariant-clauses
invariant-clauses l =
    let number = parent_number (classes_view l.classes) (class_view l.class) in
    l.parents.items ++ filter_map number (map parent_view (drop l.clause-index l.clauses))
    ≡ filter_map number (map parent_view l.clauses)

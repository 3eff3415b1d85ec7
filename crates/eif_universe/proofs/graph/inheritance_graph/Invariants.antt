use Rattle.std.proofs.Common.{◌≡◌, ◌++◌, drop, map}
use Rattle.eif_ancestry.specs.Ancestries.{number_graph}
use Rattle.eif_system.specs.Inheritance.{graph_of, parent_numbers}
use Rattle.eif_tree.specs.View.{class_view}
use Rattle.eif_universe.specs.ClassesView.{classes_view}
use Rattle.eif_universe.proofs.graph.inheritance_graph.Given as goal

abbrev pub invariant-classes : goal.invariant-classes
invariant-classes l =
    number_graph l.graph.items
    ++ map (parent_numbers (classes_view l.classes)) (map class_view (drop l.class-index l.class-items))
    ≡ graph_of (classes_view l.classes)

use Rattle.std.proofs.Common.{◌≡◌, ◌++◌, map, drop}
use Rattle.std.specs.Prelude.{flat_map}
use Rattle.eif_tree.specs.View.{class_view, parent_view}
use Rattle.eif_rules.specs.UniverseRules.{parent_faults}
use Rattle.eif_universe.specs.ClassesView.{classes_view}
use Rattle.eif_universe.proofs.class_rules.push_faults_of_parents.Given as goal

abbrev pub invariant-parents : goal.invariant-parents
invariant-parents l =
    let faults = parent_faults (classes_view l.classes) (class_view l.class) in
    l.out ++ flat_map faults (map parent_view (drop l.clause-index l.class.parents.items))
    ≡ l.initial.out ++ flat_map faults (map parent_view l.class.parents.items)

use Rattle.std.proofs.Common.{◌≡◌, ◌++◌, map, drop}
use Rattle.std.specs.Prelude.{flat_map}
use Rattle.eif_tree.specs.View.{class_view}
use Rattle.eif_rules.specs.UniverseRules.{nested_type_faults}
use Rattle.eif_universe.specs.ClassesView.{classes_view}
use Rattle.eif_written.specs.LentTypes.{lent_type, owner_name}
use Rattle.eif_universe.proofs.type_rules.push_faults_of_types.Given as goal

abbrev pub invariant-types : goal.invariant-types
invariant-types l =
    let faults = nested_type_faults (classes_view l.classes) (class_view l.class) (owner_name l.owner) in
    l.out ++ flat_map faults (map lent_type (drop l.type_tree-index l.types))
    ≡ l.initial.out ++ flat_map faults (map lent_type l.types)

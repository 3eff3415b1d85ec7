use Rattle.std.proofs.Common.{◌≡◌, ◌++◌, map, drop}
use Rattle.std.specs.Prelude.{flat_map}
use Rattle.eif_tree.specs.View.{class_view}
use Rattle.eif_rules.specs.UniverseRules.{written_type_faults}
use Rattle.eif_universe.specs.ClassesView.{classes_view}
use Rattle.eif_written.specs.LentTypes.{written_view}
use Rattle.eif_universe.proofs.type_rules.push_type_faults.Given as goal

abbrev pub invariant-types : goal.invariant-types
invariant-types l =
    let faults = written_type_faults (classes_view l.classes) (class_view l.class) in
    l.out ++ flat_map faults (map written_view (drop l.written-index l.written-items))
    ≡ l.initial.out ++ flat_map faults (map written_view l.written-items)

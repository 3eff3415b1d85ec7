use Rattle.std.proofs.Common.{◌≡◌, ◌++◌, map, drop}
use Rattle.std.specs.Prelude.{flat_map}
use Rattle.std.specs.List.{enumerate_from}
use Rattle.eif_tree.specs.View.{class_view, formal_view}
use Rattle.eif_rules.specs.UniverseRules.{numbered_formal_faults}
use Rattle.eif_universe.specs.ClassesView.{classes_view}
use Rattle.eif_universe.proofs.class_rules.push_faults_of_formals.Given as goal

abbrev pub invariant-formals : goal.invariant-formals
invariant-formals l =
    let faults = numbered_formal_faults (classes_view l.classes) (class_view l.class) in
    l.out ++ flat_map faults (enumerate_from l.i (map formal_view (drop l.i l.formals)))
    ≡ l.initial.out ++ flat_map faults (enumerate_from 0 (map formal_view l.formals))

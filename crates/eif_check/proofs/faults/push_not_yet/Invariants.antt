use Rattle.std.proofs.Common.{◌≡◌, ◌++◌, map, drop}
use Rattle.std.specs.Prelude.{flat_map}
use Rattle.eif_tree.specs.View.{class_view}
use Rattle.eif_system_rules.specs.SystemRules.{not_yet}
use Rattle.eif_check.proofs.faults.push_not_yet.Given as goal

abbrev pub invariant-classes : goal.invariant-classes
invariant-classes l =
    l.out ++ flat_map not_yet (map class_view (drop l.class-index l.given))
    ≡ l.initial.out ++ flat_map not_yet (map class_view l.given)

use Rattle.std.proofs.Common.{◌≡◌, ◌++◌, map, drop}
use Rattle.std.specs.Prelude.{flat_map}
use Rattle.eif_tree.specs.View.{class_view}
use Rattle.eif_rules.specs.UniverseRules.{formal_in_constraint}
use Rattle.eif_written.specs.LentTypes.{lent_type}
use Rattle.eif_universe.proofs.class_rules.push_formals_in_constraint.Given as goal

abbrev pub invariant-types : goal.invariant-types
invariant-types l =
    l.out ++ flat_map (formal_in_constraint (class_view l.class)) (map lent_type (drop l.type_tree-index l.types))
    ≡ l.initial.out ++ flat_map (formal_in_constraint (class_view l.class)) (map lent_type l.types)

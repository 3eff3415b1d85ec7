use Rattle.std.proofs.Common.{◌≡◌, ◌++◌, map, take}
use Rattle.std.specs.Prelude.{flat_map}
use Rattle.eif_feature_faults.specs.DeclaredViews.{declared_view}
use Rattle.eif_feature_rules.specs.DeclarationRules as rules
use Rattle.eif_tree.specs.View.{class_view}
use Rattle.eif_universe.specs.Universes.{classes_of}
use Rattle.eif_feature_faults.proofs.constants.push_wrong_constants.Given as goal

abbrev pub invariant-declared : goal.invariant-declared
invariant-declared l = l.out ≡ l.initial.out
    ++ flat_map (rules.wrong_constant (classes_of l.u) (class_view l.class)) (take l.x-index (map declared_view l.declared))

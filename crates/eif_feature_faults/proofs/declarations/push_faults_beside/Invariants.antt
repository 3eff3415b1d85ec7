use Rattle.std.proofs.Common.{◌≡◌, ◌++◌, List, take}
use Rattle.std.specs.Prelude.{flat_map}
use Rattle.eif_classes.specs.Features.{entries}
use Rattle.eif_feature_rules.specs.DeclarationRules.{declared_name_faults}
use Rattle.eif_feature_rules.specs.RuleForms.{declared_here, with_earlier}
use Rattle.eif_heirs.specs.Clauses.{ups_in}
use Rattle.eif_heirs.specs.Heirs.{IsHeir}
use Rattle.eif_tree.specs.Tree.{ClassT}
use Rattle.eif_tree.specs.View.{class_view}
use Rattle.eif_feature_faults.proofs.declarations.push_faults_beside.Given as goal

abbrev pub invariant-declared : goal.invariant-declared
invariant-declared l =
    (u : List ClassT) → IsHeir u l.heir → let c = class_view l.heir.tree.now in
    l.out ≡ l.initial.out
    ++ flat_map (λ x. declared_name_faults c (entries (ups_in u c)) x.0 x.1) (take l.i (with_earlier (declared_here c)))

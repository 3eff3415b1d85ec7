use Rattle.std.proofs.Common.{take}
use Rattle.eif_adapt.specs.Parts.{AreJudged}
use Rattle.eif_feature_rules.specs.FeatureRules.{undeclared_redefine}
use Rattle.eif_tree.specs.View.{class_view}
use Rattle.eif_heirs.proofs.redefines.DeclaringClass.push_undeclared_redefines.Given as goal

abbrev pub invariant-names : goal.invariant-names
invariant-names l =
    AreJudged (undeclared_redefine (class_view l.self.tree.now) l.finals) l.initial.out l.out l.earlier
    (take l.name-index l.redefines)

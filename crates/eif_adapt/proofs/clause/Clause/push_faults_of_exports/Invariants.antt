use Rattle.std.proofs.Common.{map, take}
use Rattle.eif_tree.specs.View.{parent_view}
use Rattle.eif_adapt.specs.Adaptations.{feature_view}
use Rattle.eif_feature_rules.specs.ClauseRules.{export_faults}
use Rattle.eif_adapt.specs.Parts.{AreJudged}
use Rattle.eif_adapt.proofs.Judged.{names_in}
use Rattle.eif_adapt.proofs.clause.Clause.push_faults_of_exports.Given as goal

abbrev pub invariant-exports : goal.invariant-exports
invariant-exports l =
    AreJudged
    (export_faults l.self.class_name.now (parent_view l.self.indexed.tree.now) (map feature_view l.self.features.now))
    l.initial.out l.out l.earlier (names_in (take l.item-index l.exports))

use Rattle.std.proofs.Common.{map, take}
use Rattle.eif_feature_rules.specs.ClauseRules.{rename_faults}
use Rattle.eif_adapt.specs.Adaptations.{feature_view}
use Rattle.eif_adapt.specs.Parts.{AreJudged}
use Rattle.eif_adapt.proofs.clause.Clause.push_faults_of_renames.Given as goal

abbrev pub invariant-renames : goal.invariant-renames
invariant-renames l =
    AreJudged (rename_faults l.self.class_name.now (map feature_view l.self.features.now)) l.initial.out l.out l.earlier
    (map (λ r. r.old_name) (take l.rename-index l.renames))

use Rattle.std.proofs.Common.{◌≡◌, List, ◌++◌, map, ap, subst, ◌∙◌}
use Rattle.eif_adapt.specs.Adaptations.{entry_view, feature_view}
use Rattle.eif_feature_rules.specs.ClauseRules.{each_listed}
use Rattle.eif_feature_rules.specs.FeatureRules.{undeclared_redefine}
use Rattle.eif_feature_rules.specs.ParentFeatures.{ParentFeature}
use Rattle.eif_heirs.specs.AdaptedClauses.{row_features, faults_by}
use Rattle.eif_heirs.proofs.AdaptedInTurn.{clause_judged}
use Rattle.eif_tree.specs.View.{class_view, parent_view}
use Rattle.eif_tree.specs.declared.tree.NameAt.{NameAt}
use Rattle.eif_heirs.proofs.clauses.adapted_entries.Goals as goal

pub returns-clause-faults : goal.returns-clause-faults
returns-clause-faults c =
    let k = class_view c.args.class.now.tree.now in
    let p = parent_view c.args.clause.now in
    let old = c.args.out.now in
    let out = c.adapt.new.out in
    let new = c.push_undeclared_redefines.new.out in
    let fs : List ParentFeature = map feature_view c.deref.result.now in
    let seen : fs ≡ row_features c.args.row.now = ap (map feature_view) c.deref.ensures.value ∙ c.in_ok-features.ensures in
    subst (λ (fs : List ParentFeature). new ≡ old ++ faults_by k p fs) seen
    (clause_judged k p fs c.deref-2.result.now c.in_ok-finals.finals old out new
    (ap (map entry_view) c.deref-2.ensures.value ∙ c.in_ok-entries.ensures.entries)
    c.in_ok-finals.ensures c.in_ok-entries.ensures.faults
    (c.in_ok-push_undeclared_redefines.ensures
    ∙ ap (λ (ns : List NameAt). out ++ each_listed (undeclared_redefine k c.in_ok-finals.finals) ns) c.deref-3.ensures.value))

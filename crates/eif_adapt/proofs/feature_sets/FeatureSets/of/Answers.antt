use Rattle.std.proofs.Common.{List, [], ◌∷◌, map, take, sym, subst, arith}
use Rattle.std.proofs.lemmas.List.{map-append}
use Rattle.eif_tree.specs.View.{parent_view}
use Rattle.eif_feature_rules.specs.ParentFeatures.{ParentFeature}
use Rattle.eif_adapt.specs.declared.parent_feature.ParentFeature as code_feature
use Rattle.eif_adapt.specs.Adaptations.{feature_view}
use Rattle.eif_adapt.specs.FeatureSets.{AreSetsOf}
use Rattle.eif_adapt.proofs.OneOn.{one_on, at_end}
use Rattle.eif_adapt.proofs.feature_sets.FeatureSets.of.Goals as goal

pub features-preserved : goal.features-preserved
features-preserved c =
    let features = c.args.features.now in
    let i = c.features.feature-index in
    let x = c.feature-item.result in
    let p = parent_view c.args.clause.now.tree.now in
    one_on (λ (xs : List code_feature.ParentFeature). AreSetsOf p (map feature_view xs) c.add.new.self) features i x
    c.features-test.true c.feature-item.is
    (subst (λ (fs : List ParentFeature). AreSetsOf p fs c.add.new.self)
    (sym (map-append feature_view (take i features) (x ∷ [])))
    (c.in_ok-add.ensures p (map feature_view (take i features)) c.final_name.ensures c.features.invariant))

pub returns : goal.returns
returns c =
    let p = parent_view c.args.clause.now.tree.now in
    at_end (λ (xs : List code_feature.ParentFeature). AreSetsOf p (map feature_view xs) c.features.sets)
    c.args.features.now c.features.feature-index (omega arith) c.features.invariant

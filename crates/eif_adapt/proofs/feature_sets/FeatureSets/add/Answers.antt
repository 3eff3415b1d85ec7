use Rattle.std.proofs.Common.{refl, ap}
use Rattle.eif_feature_rules.specs.ParentFeatures.{is_attribute_feature, is_deferred_feature}
use Rattle.eif_adapt.specs.declared.parent_feature.ParentState.{ParentState}
use Rattle.eif_adapt.specs.Adaptations.{state_view, feature_view}
use Rattle.eif_adapt.proofs.Sets.{attribute_more, deferred_more, routine_more}
use Rattle.eif_adapt.proofs.feature_sets.FeatureSets.add.Goals as goal

pub returns-in_ok-insert-in-AttributeFeature : goal.returns-in_ok-insert-in-AttributeFeature
returns-in_ok-insert-in-AttributeFeature c = λ p fs is h.
    attribute_more p fs (feature_view c.args.feature.now) c.args.final_name.now is
    c.args.self.now _ c.in_ok-insert.ensures.has c.in_ok-insert-2.ensures.has h
    (ap (λ (s : ParentState). is_attribute_feature (state_view s)) c.in-AttributeFeature.is)
    (ap (λ (s : ParentState). is_deferred_feature (state_view s)) c.in-AttributeFeature.is)
    c.in_ok-insert-in-AttributeFeature.ensures.has refl

pub returns-in_ok-insert-in-DeferredFeature : goal.returns-in_ok-insert-in-DeferredFeature
returns-in_ok-insert-in-DeferredFeature c = λ p fs is h.
    deferred_more p fs (feature_view c.args.feature.now) c.args.final_name.now is
    c.args.self.now _ c.in_ok-insert.ensures.has c.in_ok-insert-2.ensures.has h
    (ap (λ (s : ParentState). is_attribute_feature (state_view s)) c.in-DeferredFeature.is)
    (ap (λ (s : ParentState). is_deferred_feature (state_view s)) c.in-DeferredFeature.is)
    refl c.in_ok-insert-in-DeferredFeature.ensures.has

pub returns-in-RoutineFeature : goal.returns-in-RoutineFeature
returns-in-RoutineFeature c = λ p fs is h.
    routine_more p fs (feature_view c.args.feature.now) c.args.final_name.now is
    c.args.self.now _ c.in_ok-insert.ensures.has c.in_ok-insert-2.ensures.has h
    (ap (λ (s : ParentState). is_attribute_feature (state_view s)) c.in-RoutineFeature.is)
    (ap (λ (s : ParentState). is_deferred_feature (state_view s)) c.in-RoutineFeature.is)
    refl refl

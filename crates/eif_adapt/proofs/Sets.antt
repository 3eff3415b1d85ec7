-- The sets of a feature more.
use Rattle.std.proofs.Common.{◌≡◌, ℕ, true, false, List, [], ◌∷◌, ◌++◌, sym, subst}
use Rattle.eif_tree.specs.Tree.{ParentT}
use Rattle.eif_classes.specs.Names.{final_name}
use Rattle.eif_feature_rules.specs.ParentFeatures.{ParentFeature, is_attribute_feature, is_deferred_feature}
use Rattle.eif_adapt.specs.declared.feature_sets.FeatureSets.{FeatureSets}
use Rattle.eif_adapt.specs.FeatureSets.{AreSetsOf}
use Rattle.eif_adapt.proofs.Listed.{HasMore, IsEntrySet, among_more, entry_more, entry_other}

module _ (p : ParentT) (fs : List ParentFeature) (f : ParentFeature) (name : List ℕ) (is : name ≡ final_name p f.name) where
  final_more : (old new : List (List ℕ)) → HasMore old new name → HasMore old new (final_name p f.name)
  final_more old new more = subst (λ (n : List ℕ). HasMore old new n) is more

  module _ (old new : FeatureSets) (parents : HasMore old.parents new.parents f.name)
      (finals : HasMore old.finals new.finals name) (h : AreSetsOf p fs old) where
    abbrev pub AreMore : Type 0
    AreMore = AreSetsOf p (fs ++ f ∷ []) new

    more : IsEntrySet is_attribute_feature p fs f new.attributes (fs ++ f ∷ [])
        → IsEntrySet is_deferred_feature p fs f new.deferred (fs ++ f ∷ []) → AreMore
    more attributes deferred = record {
      parents = among_more (λ (f : ParentFeature). f.name) old.parents new.parents fs f parents h.parents;
      finals = among_more (λ (f : ParentFeature). final_name p f.name) old.finals new.finals fs f
          (final_more old.finals new.finals finals) h.finals;
      attributes = attributes;
      deferred = deferred;
    }

    pub attribute_more : is_attribute_feature f.state ≡ true → is_deferred_feature f.state ≡ false
        → HasMore old.attributes new.attributes name → new.deferred ≡ old.deferred → AreMore
    attribute_more such other attributes same = more
        (entry_more is_attribute_feature p fs f old.attributes new.attributes such
        (final_more old.attributes new.attributes attributes) h.attributes)
        (subst (λ (s : List (List ℕ)). IsEntrySet is_deferred_feature p fs f s (fs ++ f ∷ [])) (sym same)
        (entry_other is_deferred_feature p fs f old.deferred other h.deferred))

    pub deferred_more : is_attribute_feature f.state ≡ false → is_deferred_feature f.state ≡ true
        → new.attributes ≡ old.attributes → HasMore old.deferred new.deferred name → AreMore
    deferred_more other such same deferred = more
        (subst (λ (s : List (List ℕ)). IsEntrySet is_attribute_feature p fs f s (fs ++ f ∷ [])) (sym same)
        (entry_other is_attribute_feature p fs f old.attributes other h.attributes))
        (entry_more is_deferred_feature p fs f old.deferred new.deferred such
        (final_more old.deferred new.deferred deferred) h.deferred)

    pub routine_more : is_attribute_feature f.state ≡ false → is_deferred_feature f.state ≡ false
        → new.attributes ≡ old.attributes → new.deferred ≡ old.deferred → AreMore
    routine_more no_attribute no_deferred same also_same = more
        (subst (λ (s : List (List ℕ)). IsEntrySet is_attribute_feature p fs f s (fs ++ f ∷ [])) (sym same)
        (entry_other is_attribute_feature p fs f old.attributes no_attribute h.attributes))
        (subst (λ (s : List (List ℕ)). IsEntrySet is_deferred_feature p fs f s (fs ++ f ∷ [])) (sym also_same)
        (entry_other is_deferred_feature p fs f old.deferred no_deferred h.deferred))

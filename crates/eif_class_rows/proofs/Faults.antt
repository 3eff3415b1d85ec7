-- The faults of a class, one rule after the other.
use Rattle.std.proofs.Common.{◌≡◌, ℕ, List, ◌++◌, sym, ap, subst, ◌∙◌}
use Rattle.eif_base.specs.declared.fault.Fault.{Fault}
use Rattle.eif_class_rows.specs.ClassRows.{IsJudged}
use Rattle.eif_class_rows.specs.declared.judged.Judged.{Judged}
use Rattle.eif_classes.specs.Descent.{above}
use Rattle.eif_classes.specs.Features.{entries, features}
use Rattle.eif_feature_rules.specs.DeclarationRules.{declaration_faults}
use Rattle.eif_feature_rules.specs.FeaturePhases.{own_feature_faults, own_feature_faults_by}
use Rattle.eif_feature_rules.specs.FeatureRules.{adaptation_faults, name_faults}
use Rattle.eif_feature_rules.specs.ReplicationRules.{replication_faults}
use Rattle.eif_feature_rules.specs.RuleForms.{each_clause}
use Rattle.eif_feature_rules.specs.SelectionRules.{selection_faults}
use Rattle.eif_heirs.specs.Clauses.{ups_in}
use Rattle.eif_heirs.specs.Heirs.{IsHeir}
use Rattle.eif_heirs.specs.declared.heir.Heir.{Heir}
use Rattle.eif_system.specs.Lineage.{line_of}
use Rattle.eif_tree.specs.Tree.{ClassT}
use Rattle.eif_tree.specs.View.{class_view}

-- what is judged by the number of the heir is judged of the class with that number
pub judged_by : (u : List ClassT) (d : ℕ) (j : Judged) → j.heir.class_id.0 ≡ d → IsJudged u j.heir.class_id.0 j →
    IsJudged u d j
judged_by u d j e is = subst (λ d. IsJudged u d j) e is

module _ (u : List ClassT) (h : Heir) (is : IsHeir u h) where
  abbrev c : ClassT
  c = class_view h.tree.now

  -- the faults of all rules are those of the class
  pub faults_in_turn : (first second third fourth all : List Fault)
      → first ≡ each_clause (adaptation_faults c) (ups_in u c)
      → second ≡ first ++ declaration_faults u c (entries (ups_in u c))
      → third ≡ second ++ name_faults u c (features (line_of u h.class_id.0)) (above (line_of u h.class_id.0))
      → fourth ≡ third ++ selection_faults u c (ups_in u c) (above (line_of u h.class_id.0))
      → all ≡ fourth ++ replication_faults u c (line_of u h.class_id.0) (above (line_of u h.class_id.0))
      → all ≡ own_feature_faults u (line_of u h.class_id.0)
  faults_in_turn first second third fourth all a b e f g =
      let l = line_of u h.class_id.0 in
      let together : all ≡ own_feature_faults_by u c (ups_in u c) l (above l) = cc in
      together
      ∙ (ap (λ l. own_feature_faults_by u c (ups_in u c) l (above l)) is.line_is
      ∙ sym (ap (own_feature_faults u) is.line_is))

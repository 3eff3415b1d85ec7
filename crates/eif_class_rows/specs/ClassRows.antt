-- A class with its breaches of the rules of features, and what is kept of it where it has none.
use Rattle.std.specs.Prelude.{◌≡◌, ℕ, List, [], Option, Some, None}
use Rattle.eif_choices.specs.Chosen.{AreChoices}
use Rattle.eif_class_rows.specs.declared.judged.Judged.{Judged}
use Rattle.eif_classes.specs.Features.{features}
use Rattle.eif_feature_rules.specs.FeaturePhases.{own_feature_faults}
use Rattle.eif_heirs.specs.Clauses.{ups_in}
use Rattle.eif_heirs.specs.Drafts.{IsDraft}
use Rattle.eif_heirs.specs.Heirs.{IsHeir}
use Rattle.eif_heirs.specs.declared.drafts.FeatureDraft.{FeatureDraft}
use Rattle.eif_rows.specs.Matched.{Match}
use Rattle.eif_rows.specs.Rows.{IsRow}
use Rattle.eif_rows.specs.declared.feature.FeatureRow.{FeatureRow}
use Rattle.eif_rows.specs.declared.row.Row.{Row}
use Rattle.eif_rows.specs.declared.version.Version.{Version}
use Rattle.eif_rows.specs.declared.version.Version.TheVariants as v
use Rattle.eif_system.specs.Lineage.{line_of}
use Rattle.eif_tree.specs.Tree.{ClassT}
use Rattle.eif_tree.specs.View.{class_view}

-- the class d
pub record IsJudged (u : List ClassT) (d : ℕ) (j : Judged) : Type 0 where
  pub class_is : j.heir.class_id.0 ≡ d
  pub heir_is : IsHeir u j.heir
  pub drafts_are : Match (IsDraft u d (class_view j.heir.tree.now)) j.drafts.items (features (line_of u d))
  pub choices_are : AreChoices u (line_of u d) (ups_in u (class_view j.heir.tree.now)) j.choices
  pub faults_are : j.faults ≡ own_feature_faults u (line_of u d)

-- the version, or that there is none
abbrev pub row_version : Option Version → Version
row_version None = v.Deferred
row_version (Some x) = x

-- what is kept of a name
abbrev pub feature_row : FeatureDraft → FeatureRow
feature_row x = record {
  version = row_version x.version;
  source = x.source;
  clients = x.clients;
  declared = x.declared;
}

-- the row of the class d where it has no breach by itself, and else none
abbrev pub IsRowIfSound : List ClassT → ℕ → Option Row → Type 0
IsRowIfSound u d (Some r) = IsRow u d r × (own_feature_faults u (line_of u d) ≡ [])
IsRowIfSound u d None = own_feature_faults u (line_of u d) ≡ [] → ⊥

-- A class beside one of its proper ancestors, and where its versions come from.
use Rattle.std.specs.Prelude.{◌≡◌, ℕ, Bool, List, Some}
use Rattle.std.specs.Option.{option_and_then}
use Rattle.eif_classes.specs.Features.{features, names}
use Rattle.eif_feature_faults.specs.declared.replication.HeirOf.{HeirOf}
use Rattle.eif_heirs.specs.Drafts.{IsDraft}
use Rattle.eif_heirs.specs.declared.drafts.FeatureDraft.{FeatureDraft}
use Rattle.eif_rows.specs.AncestorRows.{IsAncestorRow}
use Rattle.eif_rows.specs.Matched.{Match}
use Rattle.eif_rows.specs.Rows.{IsRow}
use Rattle.eif_rows.specs.Versions.{declaration_id, same_declaration}
use Rattle.eif_rows.specs.declared.declaration_id.DeclarationId.{DeclarationId}
use Rattle.eif_system.specs.Lineage.{line_of}
use Rattle.eif_tree.specs.Tree.{ClassT}
use Rattle.eif_tree.specs.View.{class_view}

-- the version of the draft comes from that declaration
abbrev pub keeps : FeatureDraft → DeclarationId → Bool
keeps x id = same_declaration (option_and_then declaration_id x.version) (Some id)

-- the class d beside its proper ancestor k
pub record IsHeirOf (u : List ClassT) (d k : ℕ) (x : HeirOf) : Type 0 where
  pub row_is : IsRow u k x.row.now
  pub becomes_is : IsAncestorRow u (line_of u d) x.becomes.now k
  pub names_are : x.names.now ≡ names (line_of u d)
  pub drafts_are : Match (IsDraft u d (class_view x.tree.now)) x.drafts.now (features (line_of u d))

-- What a class has under its names while it is judged.
use Rattle.std.specs.Prelude.{◌≡◌, ℕ, List, Some}
use Rattle.eif_classes.specs.Clients.{is_available}
use Rattle.eif_classes.specs.Entries.{Declaration, Feature}
use Rattle.eif_classes.specs.Features.{declaration_of}
use Rattle.eif_heirs.specs.declared.drafts.FeatureDraft.{FeatureDraft}
use Rattle.eif_rows.specs.Numbers.{class_numbers}
use Rattle.eif_rows.specs.Rows.{is_client_by, declaration_at}
use Rattle.eif_rows.specs.Versions.{IsDeclaration, IsVersionIfOne}
use Rattle.eif_system.specs.Lineage.{line_of}
use Rattle.eif_tree.specs.Tree.{ClassT}

-- the feature f of the class d, whose text is c
pub record IsDraft (u : List ClassT) (d : ℕ) (c : ClassT) (r : FeatureDraft) (f : Feature) : Type 0 where
  pub version : IsVersionIfOne u r.version f.origin
  pub source : (x : Declaration) × (f.source ≡ Some x) × IsDeclaration u r.source x
  pub clients : (k : ℕ) → is_client_by u (class_numbers r.clients.items) k ≡ is_available u (line_of u d) f.name k
  pub declared : declaration_at c r.declared ≡ declaration_of c f.name

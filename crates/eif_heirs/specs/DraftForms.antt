-- Drafts by what they are made of.
use Rattle.std.specs.Prelude.{◌≡◌, ℕ, List, Some, None, slice_get}
use Rattle.std.specs.Option.{option_and_then}
use Rattle.std.specs.Ordering.{nat_cmp}
use Rattle.eif_base.specs.declared.class_id.ClassId.{ClassId}
use Rattle.eif_classes.specs.Entries.{Feature}
use Rattle.eif_classes.specs.Features.{declaration_of, entries, feature_by}
use Rattle.eif_classes.specs.RisingLists.{in_order}
use Rattle.eif_heirs.specs.Clauses.{ups_in}
use Rattle.eif_heirs.specs.DraftParts.{declared_version, own_declaration, parts_of}
use Rattle.eif_heirs.specs.Drafts.{IsDraft}
use Rattle.eif_heirs.specs.EntryParts.{inherited_classes, joined_at, leading_at, listed_classes, source_at}
use Rattle.eif_heirs.specs.declared.declared.DeclaredName.{DeclaredName}
use Rattle.eif_heirs.specs.declared.drafts.FeatureDraft.{FeatureDraft}
use Rattle.eif_heirs.specs.declared.heir.EntryId.{EntryId}
use Rattle.eif_heirs.specs.declared.heir.Heir.{Heir}
use Rattle.eif_rows.specs.Numbers.{class_numbers}
use Rattle.eif_tree.specs.Tree.{ClassT, FeaturesT}
use Rattle.eif_tree.specs.View.{class_view, kind_view}

-- by the declared name x in that features part, as the name with the number i of the class d
pub record IsByDeclaration (u : List ClassT) (d : ClassId) (i : ℕ) (x : DeclaredName) (part : FeaturesT)
    (r : FeatureDraft) : Type 0 where
  pub version : r.version ≡ Some (declared_version (kind_view x.tree.now.kind) (own_declaration d i))
  pub source : r.source ≡ own_declaration d i
  pub clients : class_numbers r.clients.items ≡ in_order nat_cmp (listed_classes u part.clients)
  pub place : r.declared ≡ Some x.place

-- by the declared name with that number
pub record IsByDeclared (u : List ClassT) (h : Heir) (i first : ℕ) (r : FeatureDraft) : Type 0 where
  pub name : DeclaredName
  pub at : slice_get h.declared.items first ≡ Some name
  pub part : FeaturesT
  pub part_at : slice_get (parts_of (class_view h.tree.now).features) first ≡ Some part
  pub is : IsByDeclaration u h.class_id i name part r

-- by these entries
pub record IsByEntries (u : List ClassT) (h : Heir) (ids : List EntryId) (r : FeatureDraft) : Type 0 where
  pub version : r.version ≡ joined_at h ids
  pub source : option_and_then (source_at h) (leading_at h ids) ≡ Some r.source
  pub clients : class_numbers r.clients.items ≡ in_order nat_cmp (inherited_classes u h ids)
  pub place : r.declared ≡ None

-- what the class has under the name
abbrev pub feature_of : List ClassT → Heir → List ℕ → Feature
feature_of u h n =
    let c = class_view h.tree.now in
    feature_by h.class_id.0 (entries (ups_in u c)) n (declaration_of c n)

-- the draft of the name with the number i
abbrev pub IsDraftAt : List ClassT → Heir → ℕ → FeatureDraft → Type 0
IsDraftAt u h i r =
    (n : List ℕ) → slice_get h.names.items i ≡ Some n
    → IsDraft u h.class_id.0 (class_view h.tree.now) r (feature_of u h n)

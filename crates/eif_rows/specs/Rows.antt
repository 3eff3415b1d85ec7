-- What is kept of the features of a class.
use Rattle.std.specs.Prelude.{◌≡◌, ℕ, Bool, List, map, Option, Some, None, slice_get}
use Rattle.std.specs.List.{list_any}
use Rattle.std.specs.Option.{option_and_then}
use Rattle.eif_classes.specs.Clients.{is_available}
use Rattle.eif_classes.specs.Descent.{descends, above}
use Rattle.eif_classes.specs.Entries.{Declaration, Feature}
use Rattle.eif_classes.specs.Features.{names, features, fields, declaration_of}
use Rattle.eif_rows.specs.AncestorRows.{IsAncestorRow}
use Rattle.eif_rows.specs.Matched.{Match}
use Rattle.eif_rows.specs.Numbers.{class_numbers, names_of}
use Rattle.eif_rows.specs.Versions.{IsDeclaration, IsVersion}
use Rattle.eif_rows.specs.declared.feature.DeclarationPlace.{DeclarationPlace}
use Rattle.eif_rows.specs.declared.feature.FeatureRow.{FeatureRow}
use Rattle.eif_rows.specs.declared.row.Row.{Row}
use Rattle.eif_system.specs.Lineage.{line_of}
use Rattle.eif_tree.specs.Tree.{DeclT, ClassT}

-- the class d, or an heir of one of these, is what the class k is
abbrev pub is_client_by : List ClassT → List ℕ → ℕ → Bool
is_client_by u clients k = list_any (descends (line_of u k)) clients

-- the declaration at that place of a class text
abbrev pub declaration_at : ClassT → Option DeclarationPlace → Option DeclT
declaration_at c None = None
declaration_at c (Some at) = option_and_then (λ part. slice_get part.decls at.place) (slice_get c.features at.part)

-- what the class d, whose text is c, has under a name
pub record IsFeatureRow (u : List ClassT) (d : ℕ) (c : ClassT) (r : FeatureRow) (f : Feature) : Type 0 where
  pub version : IsVersion u r.version f.origin
  pub source : (x : Declaration) × (f.source ≡ Some x) × IsDeclaration u r.source x
  pub clients : (k : ℕ) → is_client_by u (class_numbers r.clients.items) k ≡ is_available u (line_of u d) f.name k
  pub declared : declaration_at c r.declared ≡ declaration_of c f.name

-- the features of the class d
pub record IsRow (u : List ClassT) (d : ℕ) (r : Row) : Type 0 where
  pub names_are : r.names.items ≡ names (line_of u d)
  pub features_are : (c : ClassT) → slice_get u d ≡ Some c
      → Match (IsFeatureRow u d c) r.features.items (features (line_of u d))
  pub fields_are : names_of (names (line_of u d)) r.fields.items ≡ map Some (fields (line_of u d))
  pub ancestors_are : Match (IsAncestorRow u (line_of u d)) r.ancestors.items (above (line_of u d))

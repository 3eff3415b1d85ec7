-- What an heir has of its entries, by their numbers.
use Rattle.std.specs.Prelude.{ℕ, Bool, false, not, ◌&&◌, ◌||◌, if◌then◌else◌, List, [], Option, Some, None, slice_get, flat_map}
use Rattle.std.specs.List.{filter_map, find, list_all}
use Rattle.std.specs.Option.{option_and_then, option_map, option_map_or, option_or}
use Rattle.eif_adapt.specs.declared.adapted.AdaptedEntry.{AdaptedEntry}
use Rattle.eif_classes.specs.Clients.{client_names}
use Rattle.eif_heirs.specs.declared.heir.EntryId.{EntryId}
use Rattle.eif_heirs.specs.declared.heir.Heir.{Heir}
use Rattle.eif_rows.specs.Numbers.{class_numbers}
use Rattle.eif_rows.specs.Versions.{is_deferred_version, declaration_id, same_declaration}
use Rattle.eif_rows.specs.declared.declaration_id.DeclarationId.{DeclarationId}
use Rattle.eif_rows.specs.declared.feature.FeatureRow.{FeatureRow}
use Rattle.eif_rows.specs.declared.version.Version.{Version}
use Rattle.eif_rows.specs.declared.version.Version.TheVariants as v
use Rattle.eif_system.specs.Universe.{class_number}
use Rattle.eif_tree.specs.Tree.{ClientsT, ClassT}
use Rattle.eif_tree.specs.View.{clients_view}

-- what the parent has under the entry's name there
abbrev pub row_at : Heir → EntryId → Option FeatureRow
row_at h e = option_and_then (λ x. slice_get x.row.now.features.items e.feat.0) (slice_get h.clauses.items e.clause)

-- what the clause makes of it
abbrev pub adapted_at : Heir → EntryId → Option AdaptedEntry
adapted_at h e = option_and_then (λ x. slice_get x.adapted.items e.feat.0) (slice_get h.clauses.items e.clause)

-- ---- versions

-- that of the entry in the parent
abbrev pub version_at : Heir → EntryId → Version
version_at h e = option_map_or (λ r. r.version) (row_at h e) v.Deferred

abbrev pub is_undefined_at : Heir → EntryId → Bool
is_undefined_at h e = option_map_or (λ a. a.undefined) (adapted_at h e) false

abbrev pub is_redefined_at : Heir → EntryId → Bool
is_redefined_at h e = option_map_or (λ a. a.redefined) (adapted_at h e) false

-- effective in the parent, and not undefined
abbrev pub lasts_at : Heir → EntryId → Bool
lasts_at h e = not (is_deferred_version (version_at h e)) && not (is_undefined_at h e)

-- the first of the entries that lasts
abbrev pub first_lasting : Heir → List EntryId → Option EntryId
first_lasting h ids = find (lasts_at h) ids

-- that one, and else the first of them
abbrev pub leading_at : Heir → List EntryId → Option EntryId
leading_at h ids = option_or (first_lasting h ids) (slice_get ids 0)

abbrev pub same_version : Version → Version → Bool
same_version v w = same_declaration (declaration_id v) (declaration_id w)

-- the entry does not last, or has this version
abbrev pub agrees_at : Heir → Version → EntryId → Bool
agrees_at h one e = not (lasts_at h e) || same_version one (version_at h e)

-- the version, where all entries that last have it
abbrev pub agreed_at : Heir → List EntryId → Version → Option Version
agreed_at h ids one = if list_all (agrees_at h one) ids then Some one else None

-- the one version of the entries that last; none where they differ
abbrev pub joined_at : Heir → List EntryId → Option Version
joined_at h ids = option_map_or (λ e. agreed_at h ids (version_at h e)) (first_lasting h ids) (Some v.Deferred)

-- ---- the declaration that gives the signature

-- that of the entry in the parent
abbrev pub source_at : Heir → EntryId → Option DeclarationId
source_at h e = option_map (λ r. r.source) (row_at h e)

-- ---- clients

-- the classes that a list names
abbrev pub listed_classes : List ClassT → ClientsT → List ℕ
listed_classes u cs = filter_map (class_number u) (client_names cs)

-- those of the entry in the parent
abbrev pub parent_classes : Heir → EntryId → List ℕ
parent_classes h e = option_map_or (λ r. class_numbers r.clients.items) (row_at h e) []

-- those of the clause's export item, else those in the parent
abbrev pub entry_classes : List ClassT → Heir → EntryId → List ℕ
entry_classes u h e =
    option_map_or (λ cs. listed_classes u (clients_view cs)) (option_and_then (λ a. a.clients) (adapted_at h e))
    (parent_classes h e)

-- those of all entries
abbrev pub inherited_classes : List ClassT → Heir → List EntryId → List ℕ
inherited_classes u h ids = flat_map (entry_classes u h) ids

-- The version and the source of a name by its entries.
use Rattle.std.proofs.Common.{◌≡◌, Bool, true, false, cond, List, [], ◌∷◌, map, Option, Some, None, refl, sym, ap, ap₂, subst, ◌∙◌}
use Rattle.std.specs.Prelude.{slice_get, not, ◌&&◌, ◌||◌, ◌==◌, if◌then◌else◌}
use Rattle.std.specs.List.{filter, find, list_all}
use Rattle.std.specs.Option.{option_and_then, option_map, option_map_or}
use Rattle.std.proofs.lemmas.Bool.{eq-eqb}
use Rattle.std.proofs.lemmas.Option.{same_Some}
use Rattle.eif_classes.specs.Entries.{Declaration, Entry, Origin, clashing, joined, lasts, leading, same_origin}
use Rattle.eif_heirs.specs.EntryParts.{agreed_at, agrees_at, first_lasting, joined_at, lasts_at, leading_at, same_version, source_at, version_at}
use Rattle.eif_heirs.specs.declared.heir.EntryId.{EntryId}
use Rattle.eif_heirs.specs.declared.heir.Heir.{Heir}
use Rattle.eif_heirs.proofs.FoundEntries.{Found, found_lasts, found_version}
use Rattle.eif_heirs.proofs.Pairs.{Both, Both-find, Both-first, Both-or}
use Rattle.eif_rows.specs.Matched.{Match}
use Rattle.eif_rows.specs.Versions.{IsDeclaration, IsVersion, IsVersionIfOne}
use Rattle.eif_rows.proofs.VersionLaws.{same_declaration-origins}
use Rattle.eif_rows.specs.declared.declaration_id.DeclarationId.{DeclarationId}
use Rattle.eif_rows.specs.declared.version.Version.{Version}
use Rattle.eif_rows.specs.declared.version.Version.TheVariants as v
use Rattle.eif_tree.specs.Tree.{ClassT}

-- ---- versions

same_itself : (w : Version) → same_version w w ≡ true
same_itself v.Deferred = refl
same_itself (v.Attribute i) = one i
  where
    one : (i : DeclarationId) → ((i.class_id.0 == i.class_id.0) && (i.feat.0 == i.feat.0)) ≡ true
    one i = ap₂ ◌&&◌ (eq-eqb i.class_id.0 i.class_id.0 refl) (eq-eqb i.feat.0 i.feat.0 refl)
same_itself (v.Routine i) = ap₂ ◌&&◌ (eq-eqb i.class_id.0 i.class_id.0 refl) (eq-eqb i.feat.0 i.feat.0 refl)

-- ---- the version of the entries that last

abbrev lasting_origins : List Entry → List Origin
lasting_origins es = map (λ e. e.feature.origin) (filter lasts es)

module _ (u : List ClassT) (h : Heir) where
  abbrev pub AreFound : List EntryId → List Entry → Type 0
  AreFound ids es = Match (Found u h) ids es

  -- where a version agrees with those of all entries that last, its origin is the origin of each
  all_agree : (w : Version) (o : Origin) → IsVersion u w o → (ids : List EntryId) (es : List Entry) → AreFound ids es
      → list_all (agrees_at h w) ids ≡ list_all (same_origin o) (lasting_origins es)
  all_agree w o is [] [] f = refl
  all_agree w o is [] (e ∷ es) f = absurd f
  all_agree w o is (id ∷ ids) [] f = absurd f
  all_agree w o is (id ∷ ids) (e ∷ es) f = go (lasts_at h id) (lasts e) (found_lasts u h id e f.0)
      (same_declaration-origins u w (version_at h id) o e.feature.origin is (found_version u h id e f.0))
      (all_agree w o is ids es f.1)
    where
      go : (a b : Bool) → a ≡ b → same_version w (version_at h id) ≡ same_origin o e.feature.origin
          → list_all (agrees_at h w) ids ≡ list_all (same_origin o) (lasting_origins es)
          → ((not a || same_version w (version_at h id)) && list_all (agrees_at h w) ids)
          ≡ list_all (same_origin o) (map (λ e. e.feature.origin) (cond b (e ∷ filter lasts es) (filter lasts es)))
      go true true q same rest = ap₂ ◌&&◌ same rest
      go false false q same rest = rest
      go true false q same rest = absurd (cc)
      go false true q same rest = absurd (cc)

  if_agreed : (b c : Bool) → b ≡ c → (w : Version) (o : Origin) → IsVersion u w o
      → IsVersionIfOne u (if b then Some w else None) (if c then o else clashing)
  if_agreed true true q w o is = is
  if_agreed false false q w o is = tt
  if_agreed true false q w o is = absurd (cc)
  if_agreed false true q w o is = absurd (cc)

  -- an entry that doesn't last agrees with every version
  skipped : (id : EntryId) (ids : List EntryId) → lasts_at h id ≡ false → (o : Option EntryId)
      → option_map_or (λ e. agreed_at h (id ∷ ids) (version_at h e)) o (Some v.Deferred)
      ≡ option_map_or (λ e. agreed_at h ids (version_at h e)) o (Some v.Deferred)
  skipped id ids q None = refl
  skipped id ids q (Some e) =
      ap (λ b. if (not b || same_version (version_at h e) (version_at h id)) && list_all (agrees_at h
      (version_at h e)) ids
      then Some (version_at h e) else None) q

  pub joined_version : (ids : List EntryId) (es : List Entry) → AreFound ids es
      → IsVersionIfOne u (joined_at h ids) (joined (lasting_origins es))
  joined_version [] [] f = tt
  joined_version [] (e ∷ es) f = absurd f
  joined_version (id ∷ ids) [] f = absurd f
  joined_version (id ∷ ids) (e ∷ es) f =
      go (lasts_at h id) (lasts e) refl (found_lasts u h id e f.0) (joined_version ids es f.1)
    where
      go : (a b : Bool) → lasts_at h id ≡ a → a ≡ b → IsVersionIfOne u (joined_at h ids) (joined (lasting_origins es))
          → IsVersionIfOne u
          (option_map_or (λ x. agreed_at h (id ∷ ids) (version_at h x)) (cond a (Some id) (first_lasting h ids))
          (Some v.Deferred))
          (joined (map (λ x. x.feature.origin) (cond b (e ∷ filter lasts es) (filter lasts es))))
      go true true q same rest =
          if_agreed (list_all (agrees_at h (version_at h id)) (id ∷ ids))
          (list_all (same_origin e.feature.origin) (lasting_origins es))
          (ap₂ (λ a b. (not a || b) && list_all (agrees_at h (version_at h id)) ids) q (same_itself (version_at h id))
          ∙ all_agree (version_at h id) e.feature.origin (found_version u h id e f.0) ids es f.1)
          (version_at h id) e.feature.origin (found_version u h id e f.0)
      go false false q same rest =
          subst (λ x. IsVersionIfOne u x (joined (lasting_origins es))) (sym (skipped id ids q
          (first_lasting h ids))) rest
      go true false q same rest = absurd (cc)
      go false true q same rest = absurd (cc)

  -- ---- the entry that leads

  leads : (ids : List EntryId) (es : List Entry) → AreFound ids es
      → Both (Found u h) (leading_at h ids) (leading (λ e. e) es)
  leads ids es f =
      Both-or (Found u h) (first_lasting h ids) (slice_get ids 0) (find (λ e. lasts e) es) (slice_get es 0)
      (Both-find (Found u h) (lasts_at h) (λ e. lasts e) (λ id e is. found_lasts u h id e is) ids es f)
      (Both-first (Found u h) ids es f)

  pub source_found : (ids : List EntryId) (es : List Entry) → AreFound ids es → (s : DeclarationId)
      → option_and_then (source_at h) (leading_at h ids) ≡ Some s
      → (x : Declaration) × (option_and_then (λ e. e.feature.source) (leading (λ e. e) es)
      ≡ Some x) × IsDeclaration u s x
  source_found ids es f s is = go (leading_at h ids) (leading (λ e. e) es) (leads ids es f) is
    where
      go : (o : Option EntryId) (q : Option Entry) → Both (Found u h) o q → option_and_then (source_at h) o ≡ Some s
          → (x : Declaration) × (option_and_then (λ e. e.feature.source) q ≡ Some x) × IsDeclaration u s x
      go None q b e = absurd (cc)
      go (Some id) None b e = absurd b
      go (Some id) (Some en) b e =
          let at : Some b.row.source ≡ Some s = ap (option_map (λ r. r.source)) (sym b.row_is) ∙ e in
          let x = b.of_row.source in
          (x.0, x.1, subst (λ t. IsDeclaration u t x.0) (same_Some b.row.source s at) x.2)

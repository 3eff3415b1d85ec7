-- The version that `Precursor` stands for.
use Rattle.std.proofs.Common.{◌≡◌, ℕ, Bool, true, false, List, [], ◌∷◌, Option, Some, None, refl, sym, ap, subst, ◌∙◌, ⊎_elim}
use Rattle.std.proofs.lemmas.Option.{same_Some}
use Rattle.std.specs.List.{filter}
use Rattle.std.specs.Option.{option_map_or}
use Rattle.std.specs.Prelude.{cond, not, slice_get, ◌&&◌}
use Rattle.std.specs.Str.{bytes_eq}
use Rattle.eif_classes.specs.Entries.{Declaration, Origin, deferred, declared_as, clashing, is_effective, lasts}
use Rattle.eif_classes.specs.Names.{is_redefined, is_undefined}
use Rattle.eif_classes.specs.Precursors.{is_precursor, single, precursor}
use Rattle.eif_classes.specs.Signatures.{SignedEntry, signed_entries, signed_entries_in}
use Rattle.eif_lineage_laws.proofs.Descending.{lines_of, no_line, class_or_none}
use Rattle.eif_lineage_laws.proofs.EachItem.{AllOf}
use Rattle.eif_lineage_laws.proofs.Unfolding.{unfolded}
use Rattle.eif_system.specs.Graph.{is_member}
use Rattle.eif_system.specs.Inheritance.{clauses, parent_numbers}
use Rattle.eif_system.specs.Lineage.{line_of}
use Rattle.eif_system.specs.WrittenTypes.{type_name}
use Rattle.eif_tree.specs.Tree.{ClassT}
use Rattle.eif_type_laws.proofs.SameTypes.{and_left}
use Rattle.eif_binding_laws.specs.KeptSignatures.{Serves}
use Rattle.eif_binding_laws.specs.Signatures.{IsVersion}
use Rattle.eif_binding_laws.proofs.Formed.{signed_types}
use Rattle.eif_binding_laws.proofs.Keeping.{has_version}
use Rattle.eif_binding_laws.proofs.Redeclared.{stands_self}
use Rattle.eif_binding_laws.proofs.Settings.{IsSetting, IsSignedSetting}
use Rattle.eif_binding_laws.proofs.Signing.{IsSignedEntry, signed_pairs, all_signed, ready, seen}

-- what passes has what all items have
passing : {A : Type 0} (P : A → Type 0) (test : A → Bool) (xs : List A) → AllOf P xs →
    AllOf (λ x. P x × (test x ≡ true)) (filter test xs)
passing P test [] h = tt
passing {A} P test (x ∷ xs) h = go (test x) refl (passing P test xs h.1)
  where
    go : (b : Bool) → test x ≡ b → AllOf (λ x. P x × (test x ≡ true)) (filter test xs) →
        AllOf (λ x. P x × (test x ≡ true)) (cond b (x ∷ filter test xs) (filter test xs))
    go true t rest = ((h.0, t), rest)
    go false t rest = rest

single_has : {A : Type 0} (P : A → Type 0) (xs : List A) (x : A) → AllOf P xs → single xs ≡ Some x → P x
single_has P [] x h e = cc
single_has P (y ∷ []) x h e = subst P (same_Some y x e) h.0
single_has P (y ∷ z ∷ zs) x h e = cc

module _ (u : List ClassT) (order : List ℕ) (strict : IsSignedSetting u order) where
  abbrev is : IsSetting u order
  is = strict.setting

  effective_version : (o : Origin) (x : Declaration) → IsVersion o x → is_effective o ≡ true →
      (y : Declaration) × (o ≡ declared_as y)
  effective_version deferred x v h = cc
  effective_version clashing x v h = absurd v
  effective_version (declared_as y) x v h = (y, refl)

  version_of_class : (d : ℕ) (c : ClassT) → slice_get u d ≡ Some c → (n : List ℕ) (parent : Option (List ℕ))
      (s : SignedEntry) → precursor (λ s. s.entry) parent (signed_entries_in u (line_of u d) n) ≡ Some s →
      (x : Declaration) × (s.entry.feature.origin ≡ declared_as x) × Serves u d x s.signature
  version_of_class d c at n parent s h =
      let l = unfolded u order is.hierarchy.ordered d c at in
      let parents = λ (q : ℕ) (member : is_member q (parent_numbers u c) ≡ true). all_signed u order is q in
      let entries = signed_entries u c (lines_of u c (clauses c)) n in
      let here : precursor (λ s. s.entry) parent entries ≡ Some s =
      sym (ap (λ l. precursor (λ s. s.entry) parent (signed_entries_in u l n)) l) ∙ h in
      let pairs = signed_pairs u c n (ready u order is d c at parents) in
      let w = single_has (λ s. IsSignedEntry u c n s × (is_precursor parent s.entry ≡ true))
      (filter (λ s. is_precursor parent s.entry) entries) s
      (passing (IsSignedEntry u c n) (λ s. is_precursor parent s.entry) entries pairs.all) here in
      let e = s.entry in
      let named = option_map_or (bytes_eq (type_name e.clause.parent)) parent true in
      let last = and_left (lasts e) (is_redefined e.clause e.final)
      (and_left (lasts e && is_redefined e.clause e.final) named w.1) in
      let effective = and_left (is_effective e.feature.origin) (not (is_undefined e.clause e.final)) last in
      let g = seen u order is d c at parents n s w.0 in
      let y = effective_version e.feature.origin g.declaration g.version effective in (
        y.0,
        y.1,
        has_version u order strict d s.signature s.entry.feature s.signature g
            (stands_self u order strict d s.signature (signed_types u order is d s.entry.feature s.signature g)) y.0 y.1,
      )

  pub precursor_serves : (d : ℕ) (n : List ℕ) (parent : Option (List ℕ)) (s : SignedEntry) →
      precursor (λ s. s.entry) parent (signed_entries_in u (line_of u d) n) ≡ Some s →
      (x : Declaration) × (s.entry.feature.origin ≡ declared_as x) × Serves u d x s.signature
  precursor_serves d n parent s h = ⊎_elim
      (λ (c : (c : ClassT) × (slice_get u d ≡ Some c)). version_of_class d c.0 c.1 n parent s h)
      (λ (e : slice_get u d ≡ None).
      let z : None ≡ Some s =
      sym (ap (λ l. precursor (λ s. s.entry) parent (signed_entries_in u l n)) (no_line u d e)) ∙ h in
      cc)
      (class_or_none u d)

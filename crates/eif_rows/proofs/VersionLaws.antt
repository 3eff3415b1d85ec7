-- What versions by numbers say of the origins for which they stand.
use Rattle.std.proofs.Common.{◌≡◌, Bool, true, false, not, List, None, Some, ◌⊎◌, inl, inr, refl, sym, ap, ap₂, subst, ◌∙◌}
use Rattle.std.specs.Prelude.{◌==◌, ◌&&◌, slice_get}
use Rattle.std.specs.Str.{bytes_eq}
use Rattle.std.proofs.lemmas.Bool.{eq-eqb, eqb-true}
use Rattle.std.proofs.lemmas.Cmp.{nat_list_cmp_total}
use Rattle.std.proofs.lemmas.Option.{same_Some}
use Rattle.std.proofs.lemmas.Slice.Eq.{bytes_eq-Decides}
use Rattle.eif_classes.specs.Entries.{Declaration, Origin, deferred, declared_as, clashing, is_effective, same_origin}
use Rattle.eif_classes.specs.Features.{is_field, names}
use Rattle.eif_rows.specs.Versions.{IsDeclaration, IsVersion, declaration_id, is_attribute_version, is_deferred_version, same_declaration}
use Rattle.eif_rows.specs.declared.declaration_id.DeclarationId.{DeclarationId}
use Rattle.eif_rows.specs.declared.version.Version.{Version}
use Rattle.eif_rows.specs.declared.version.Version.TheVariants.{Deferred, Attribute, Routine}
use Rattle.eif_rows.proofs.ClassSets.{rising-names}
use Rattle.eif_rows.proofs.RisingLists.{one_place}
use Rattle.eif_system.specs.Lineage.{line_of}
use Rattle.eif_tree.specs.Tree.{ClassT}

same_bool : (a b : Bool) → (a ≡ true → b ≡ true) → (b ≡ true → a ≡ true) → a ≡ b
same_bool true b f g = sym (f refl)
same_bool false true f g = g refl
same_bool false false f g = refl

both_true : (a b : Bool) → (a && b) ≡ true → (a ≡ true) × (b ≡ true)
both_true true b h = (refl, h)
both_true false b h = absurd (cc)

module _ (u : List ClassT) where
  -- there is no version where the origin is deferred
  pub is_deferred-origin : (v : Version) (o : Origin) → IsVersion u v o → is_deferred_version v ≡ not (is_effective o)
  is_deferred-origin Deferred deferred is = refl
  is_deferred-origin Deferred (declared_as x) is = absurd is
  is_deferred-origin Deferred clashing is = absurd is
  is_deferred-origin (Attribute id) deferred is = absurd is
  is_deferred-origin (Attribute id) (declared_as x) is = refl
  is_deferred-origin (Attribute id) clashing is = absurd is
  is_deferred-origin (Routine id) deferred is = absurd is
  is_deferred-origin (Routine id) (declared_as x) is = refl
  is_deferred-origin (Routine id) clashing is = absurd is

  -- an attribute is a field
  pub is_attribute-origin : (v : Version) (o : Origin) → IsVersion u v o → is_attribute_version v ≡ is_field o
  is_attribute-origin Deferred deferred is = refl
  is_attribute-origin Deferred (declared_as x) is = absurd is
  is_attribute-origin Deferred clashing is = absurd is
  is_attribute-origin (Attribute id) deferred is = absurd is
  is_attribute-origin (Attribute id) (declared_as x) is = sym is.1
  is_attribute-origin (Attribute id) clashing is = absurd is
  is_attribute-origin (Routine id) deferred is = absurd is
  is_attribute-origin (Routine id) (declared_as x) is = sym is.1
  is_attribute-origin (Routine id) clashing is = absurd is

  -- declarations are of one class and one name just where their numbers are equal
  pub same_declaration-numbers : (a b : DeclarationId) (x y : Declaration) → IsDeclaration u a x → IsDeclaration u b y
      → same_declaration (Some a) (Some b) ≡ ((x.class_number == y.class_number) && bytes_eq x.name y.name)
  same_declaration-numbers a b x y p q =
      same_bool ((a.class_id.0 == b.class_id.0) && (a.feat.0 == b.feat.0))
      ((x.class_number == y.class_number) && bytes_eq x.name y.name)
      (λ h.
      let both = both_true (a.class_id.0 == b.class_id.0) (a.feat.0 == b.feat.0) h in
      let class : x.class_number ≡ y.class_number =
      sym p.class ∙ (eqb-true a.class_id.0 b.class_id.0 both.0 ∙ q.class) in
      let name : x.name ≡ y.name = same_Some x.name y.name (sym p.name
      ∙ (ap₂ (λ c i. slice_get (names (line_of u c)) i) class (eqb-true a.feat.0 b.feat.0 both.1) ∙ q.name)) in
      ap₂ ◌&&◌ (eq-eqb x.class_number y.class_number class) ((bytes_eq-Decides x.name y.name).1 name))
      (λ h.
      let both = both_true (x.class_number == y.class_number) (bytes_eq x.name y.name) h in
      let class : x.class_number ≡ y.class_number = eqb-true x.class_number y.class_number both.0 in
      let name : x.name ≡ y.name = (bytes_eq-Decides x.name y.name).0 both.1 in
      let feat : a.feat.0 ≡ b.feat.0 =
      one_place nat_list_cmp_total (names (line_of u y.class_number)) (rising-names (line_of u y.class_number))
      a.feat.0 b.feat.0 y.name
      (subst (λ c. slice_get (names (line_of u c)) a.feat.0 ≡ Some y.name) class (p.name ∙ ap Some name)) q.name in
      ap₂ ◌&&◌ (eq-eqb a.class_id.0 b.class_id.0 (p.class ∙ (class ∙ sym q.class))) (eq-eqb a.feat.0 b.feat.0 feat))

  -- a version is none, or that of a declaration
  abbrev IsShown : Version → Origin → Type 0
  IsShown v o =
      ((declaration_id v ≡ None) × (o ≡ deferred))
      ⊎ ((id : DeclarationId) × (x : Declaration) × (declaration_id v ≡ Some id) × (o ≡ declared_as x)
      × IsDeclaration u id x)

  shown : (v : Version) (o : Origin) → IsVersion u v o → IsShown v o
  shown Deferred deferred is = inl (refl, refl)
  shown Deferred (declared_as x) is = absurd is
  shown Deferred clashing is = absurd is
  shown (Attribute id) deferred is = absurd is
  shown (Attribute id) (declared_as x) is = inr (id, x, refl, refl, is.0)
  shown (Attribute id) clashing is = absurd is
  shown (Routine id) deferred is = absurd is
  shown (Routine id) (declared_as x) is = inr (id, x, refl, refl, is.0)
  shown (Routine id) clashing is = absurd is

  -- versions come from one declaration just where their origins are the same
  pub same_declaration-origins : (v w : Version) (o p : Origin) → IsVersion u v o → IsVersion u w p
      → same_declaration (declaration_id v) (declaration_id w) ≡ same_origin o p
  same_declaration-origins v w o p h k = go (shown v o h) (shown w p k)
    where
      go : IsShown v o → IsShown w p → same_declaration (declaration_id v) (declaration_id w) ≡ same_origin o p
      go (inl a) (inl b) = ap₂ same_declaration a.0 b.0 ∙ sym (ap₂ same_origin a.1 b.1)
      go (inl a) (inr b) = ap₂ same_declaration a.0 b.2 ∙ sym (ap₂ same_origin a.1 b.3)
      go (inr a) (inl b) = ap₂ same_declaration a.2 b.0 ∙ sym (ap₂ same_origin a.3 b.1)
      go (inr a) (inr b) =
          ap₂ same_declaration a.2 b.2
          ∙ (same_declaration-numbers a.0 b.0 a.1 b.1 a.4 b.4 ∙ sym (ap₂ same_origin a.3 b.3))

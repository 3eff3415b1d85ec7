-- The features of a system that breaks no rule up to those of derivations, by their numbers.
use Rattle.std.proofs.Common.{◌≡◌, ℕ, ◌<◌, List, length, Result, Some, sym, ap, subst, ◌∙◌}
use Rattle.std.specs.Prelude.{IfOk, slice_get}
use Rattle.std.proofs.lemmas.Result.{IfOk-weaker}
use Rattle.std.proofs.lemmas.Option.{same_Some, slice_get_within}
use Rattle.eif_base.specs.declared.class_id.ClassId.{ClassId}
use Rattle.eif_base.specs.declared.feat_id.FeatId.{FeatId}
use Rattle.eif_binding_laws.proofs.Inherited.{each_found}
use Rattle.eif_binding_laws.proofs.Settings.{IsSetting, order_of, setting}
use Rattle.eif_binding_laws.proofs.Signing.{AreSigned, all_signed}
use Rattle.eif_binding_laws.specs.Signatures.{IsDeclaredAbove, IsSigned, signature_above}
use Rattle.eif_classes.specs.Entries.{Declaration, Origin, deferred, declared_as, clashing, Feature}
use Rattle.eif_classes.specs.Features.{feature, features, names}
use Rattle.eif_classes.specs.Signatures.{Signature, signature}
use Rattle.eif_lineage_laws.proofs.Descending.{lines_of}
use Rattle.eif_lineage_laws.proofs.EachItem.{all_at}
use Rattle.eif_lineage_laws.proofs.Unfolding.{class_within, unfolded}
use Rattle.eif_rows.specs.Numbers.{name_of}
use Rattle.eif_rows.specs.Versions.{IsDeclaration}
use Rattle.eif_base.specs.declared.memory.Memory.{Memory}
use Rattle.eif_signatures.specs.DerivedSystems.{IsDerivedUniverse, declaration_id}
use Rattle.eif_signatures.specs.SignatureViews.{signature_view}
use Rattle.eif_signatures.specs.declared.signature.Signature as form
use Rattle.eif_system.specs.Inheritance.{clauses, graph_of}
use Rattle.eif_system.specs.Graph.{IsOrder}
use Rattle.eif_system.specs.Lineage.{line, line_of}
use Rattle.eif_tables.proofs.Held.{class_is, feature_named, item_at, row_of}
use Rattle.eif_tables.proofs.LookUps.{has_named_feature}
use Rattle.eif_tables.specs.TablesOf.{HasFeature, IsOrigin}
use Rattle.eif_tables.specs.declared.origin.Origin.TheVariants as o
use Rattle.eif_tables.specs.declared.tables.Tables.{Tables}
use Rattle.eif_tree.specs.Tree.{ClassT}
use Rattle.eif_types.specs.declared.types.Types.{Types}

module _ (u : List ClassT) (tables : Tables) (types : Types) (is : IsDerivedUniverse u tables types) where
  -- the laws of binding stand on its classes
  pub setting_of : (order : List ℕ) × IsSetting u order
  setting_of = subst (λ v. (order : List ℕ) × IsSetting v order) (sym is.is)
      (order_of is.given is.root is.derived, setting is.given is.root is.derived)

  pub ordered : IsOrder (graph_of u) setting_of.0
  ordered = setting_of.1.hierarchy.ordered

  pub signed_in : (d : ℕ) → AreSigned u d
  signed_in d = all_signed u setting_of.0 setting_of.1 d

  -- what a class declares has its number
  declared_has : (class : ClassId) (feat : FeatId) (y : Declaration) → IsDeclaration u (declaration_id class feat) y →
      HasFeature tables class feat
  declared_has class feat y d =
      let within : class.0 < length u = subst (λ k. k < length u) (sym d.class)
      (slice_get_within u y.class_number d.tree.0 d.tree.1) in
      has_named_feature u tables is.tables_are class feat within y.name
      (ap (λ k. name_of (names (line_of u k)) feat) d.class ∙ d.name)

  module _ (c : ClassId) (f : FeatId) (has : HasFeature tables c f) where
    pub class_there : c.0 < length u
    class_there = class_is u tables is.tables_are c (slice_get_within tables.classes.items c.0 has.table has.at)

    -- the feature with that number
    pub feature_at : (x : Feature) × (slice_get (features (line_of u c.0)) f.0 ≡ Some x)
    feature_at =
        let row = row_of u tables is.tables_are c.0 has.table has.at in
        let n = item_at (names (line_of u c.0)) f.0 (subst (λ ns. f.0 < length ns) row.names_are has.named) in
        let x = feature_named (line_of u c.0) f.0 n.0 n.1 in (x.0, x.1)

    -- the declaration that gives its signature is one of the tables
    pub source_has : (class : ClassId) (feat : FeatId) → ((x : Feature) →
        slice_get (features (line_of u c.0)) f.0 ≡ Some x →
        (y : Declaration) × (x.source ≡ Some y) × IsDeclaration u (declaration_id class feat) y) →
        HasFeature tables class feat
    source_has class feat told =
        let y = told feature_at.0 feature_at.1 in
        declared_has class feat y.0 y.2

    -- and so is the one of which it is the version
    pub origin_has : (class : ClassId) (feat : FeatId) → ((x : Feature) →
        slice_get (features (line_of u c.0)) f.0 ≡ Some x → IsOrigin u (o.Declared class feat) x.origin) →
        HasFeature tables class feat
    origin_has class feat told = go feature_at.0.origin (told feature_at.0 feature_at.1)
      where
        go : (x : Origin) → IsOrigin u (o.Declared class feat) x → HasFeature tables class feat
        go deferred is = absurd is
        go (declared_as y) is = declared_has class feat y is
        go clashing is = absurd is

  -- a name is found as the feature with its number
  pub found_at : (d : ℕ) (i : ℕ) (x : Feature) → d < length u → slice_get (features (line_of u d)) i ≡ Some x →
      feature (line_of u d) x.name ≡ Some x
  found_at d i x within at =
      let c = class_within u d within in
      let l = unfolded u setting_of.0 ordered d c.0 c.1 in
      let ups = lines_of u c.0 (clauses c.0) in
      let here = all_at (λ f. feature (line d c.0 ups) f.name ≡ Some f) (features (line d c.0 ups)) i x
      (each_found d c.0 ups) (sym (ap (λ l. slice_get (features l) i) l) ∙ at) in
      ap (λ l. feature l x.name) l ∙ here

  -- a number of a name is that of the feature of that name
  pub named_at : (d : ℕ) (f : FeatId) (n : List ℕ) → d < length u → name_of (names (line_of u d)) f ≡ Some n →
      (x : Feature) × (slice_get (features (line_of u d)) f.0 ≡ Some x) × (x.name ≡ n)
  named_at d f n within named = feature_named (line_of u d) f.0 n named

  -- its signature is that of a declaration above
  pub signed_at : (d : ℕ) (i : ℕ) (x : Feature) → d < length u → slice_get (features (line_of u d)) i ≡ Some x →
      (s : Signature) × (signature u (line_of u d) x.name ≡ Some s) × IsSigned u d x s
  signed_at d i x within at = signed_in d x.name x (found_at d i x within at)

  -- where a signature is that of the declaration that gives it, seen in the class, it is the feature's
  pub seen_signature : (d : ℕ) (f : FeatId) (n : List ℕ) (class : ClassId) (feat : FeatId)
      (r : Result form.Signature Memory) → d < length u → name_of (names (line_of u d)) f ≡ Some n →
      ((x : Feature) → slice_get (features (line_of u d)) f.0 ≡ Some x →
      (y : Declaration) × (x.source ≡ Some y) × IsDeclaration u (declaration_id class feat) y) →
      ((y : Declaration) → IsDeclaration u (declaration_id class feat) y → (above : IsDeclaredAbove u d y) →
      IfOk r (λ s. signature_view s ≡ signature_above u d y above)) →
      IfOk r (λ s. signature u (line_of u d) n ≡ Some (signature_view s))
  seen_signature d f n class feat r within named source above =
      let x = named_at d f n within named in
      let w = signed_at d f.0 x.0 within x.1 in
      let y = source x.0 x.1 in
      let same : w.2.declaration ≡ y.0 = same_Some w.2.declaration y.0 (sym w.2.source ∙ y.1) in
      let declared = subst (IsDeclaration u (declaration_id class feat)) (sym same) y.2 in
      IfOk-weaker r _ _
      (λ s e. ap (signature u (line_of u d)) (sym x.2) ∙ (w.1 ∙ ap Some (w.2.signed ∙ sym e)))
      (above w.2.declaration declared w.2.above)

-- An attribute is bound to a field of its type.
use Rattle.std.proofs.Common.{◌≡◌, ℕ, true, false, List, Option, Some, None, refl, ap, subst, ◌∙◌}
use Rattle.std.specs.Option.{option_map, option_map_or}
use Rattle.eif_body_rules.specs.Settings.{Setting}
use Rattle.eif_body_rules.specs.Targets.{is_attribute_name}
use Rattle.eif_classes.specs.Binding.{bind}
use Rattle.eif_classes.specs.Entries.{Declaration, Origin, deferred, declared_as, clashing, Feature}
use Rattle.eif_classes.specs.Features.{is_attribute, is_field, feature, origin}
use Rattle.eif_classes.specs.Signatures.{Signature, signature}
use Rattle.eif_classes.specs.Types.{TyT, Actuals, put_in}
use Rattle.eif_meaning.specs.Objects.{field_type}
use Rattle.eif_meaning.specs.System.{system_over}
use Rattle.eif_meaning.specs.Values.{ClassType}
use Rattle.eif_system.specs.Lineage.{Line, line_of}
use Rattle.eif_tree.specs.Tree.{ClassT}
use Rattle.eif_type_laws.proofs.Ancestors.{ancestor_descends}
use Rattle.eif_type_laws.proofs.Substitution.{put_put}
use Rattle.eif_binding_laws.proofs.Bound.{names_bound}
use Rattle.eif_binding_laws.proofs.Keeping.{kept}
use Rattle.eif_binding_laws.proofs.Settings.{IsSignedSetting}
use Rattle.eif_run_laws.specs.ObjectTypes.{Over}
use Rattle.eif_run_features.proofs.Names.{signed_named}
use Rattle.eif_run_features.proofs.Served.{field_type_is}

-- an attribute of a class is a feature of it that is a field
attribute_feature : (l : Line) (x : List ℕ) → option_map_or is_field (origin l x) false ≡ true
    → (f : Feature) × (feature l x ≡ Some f) × (is_field f.origin ≡ true)
attribute_feature l x h = go (feature l x) refl h
  where
    go : (o : Option Feature) → feature l x ≡ o
        → option_map_or is_field (option_map (λ (f : Feature). f.origin) o) false ≡ true
        → (f : Feature) × (feature l x ≡ Some f) × (is_field f.origin ≡ true)
    go None e h = cc
    go (Some f) e h = (f, e, h)

-- a field has a version, which is an attribute
field_version : (o : Origin) → is_field o ≡ true
    → (y : Declaration) × (o ≡ declared_as y) × (is_attribute y.tree.kind ≡ true)
field_version deferred h = cc
field_version clashing h = cc
field_version (declared_as y) h = (y, refl, h)

module _ (u : List ClassT) (order : List ℕ) (strict : IsSignedSetting u order) where
  pub field : (t : ClassType) (k : ℕ) (xs : Actuals) → Over (system_over u) t k xs → (s : Setting)
      → s.line ≡ line_of u k
      → (x : List ℕ) (g : Signature) (a : TyT) → is_attribute_name s x ≡ true
      → signature u (line_of u k) x ≡ Some g
      → g.result ≡ Some a
      → (n : List ℕ) × (type : TyT) × (bind (line_of u t.class_number) k x ≡ Some n)
      × (version : Declaration) × (origin (line_of u t.class_number) n ≡ Some (declared_as version))
      × (is_attribute version.tree.kind ≡ true)
      × (field_type (system_over u) t.class_number n ≡ Some type)
      × (put_in t.actuals type ≡ put_in xs a)
  field t k xs over s line x g a is_name signed result =
      let set = strict.setting in
      let d = t.class_number in
      let f = attribute_feature (line_of u k) x
      (subst (λ l. option_map_or is_field (origin l x) false ≡ true) line is_name) in
      let down = ancestor_descends u order set.hierarchy d k over.derived over.gives in
      let b = names_bound u order set.hierarchy.ordered (λ d c at. (set.features d c at).decided) d k x down
      (signed_named u order strict k x g signed) in
      let w = kept u order strict d k x b.0 over.derived g over.gives signed b.1 in
      let same = w.field f.0 f.1 f.2 in
      let v = field_version w.here.origin same.0 in
      let from : origin (line_of u d) b.0 ≡ Some (declared_as v.0) =
      ap (option_map (λ (f : Feature). f.origin)) w.found ∙ ap Some v.1 in
      let theirs : w.theirs.result ≡ Some (put_in over.derived a) =
      same.1 ∙ ap (option_map (put_in over.derived)) result in (
        b.0,
        put_in over.derived a,
        b.1,
        v.0,
        from,
        v.2,
        field_type_is u d b.0 v.0 w.theirs (put_in over.derived a) from v.2 w.signed theirs,
        put_put over.derived t.actuals a ∙ ap (λ xs. put_in xs a) over.is,
      )

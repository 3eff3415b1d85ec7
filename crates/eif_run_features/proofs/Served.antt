-- Dynamic binding finds on an object what serves calls of a feature.
use Rattle.std.proofs.Common.{◌≡◌, ℕ, Bool, true, false, inl, inr, ◌⊎◌, List, [], map, Option, Some, None, refl, sym, ap, subst, ◌∙◌}
use Rattle.std.proofs.lemmas.Option.{same_Some}
use Rattle.std.specs.List.{flat_map}
use Rattle.std.specs.Option.{option_map, option_and_then}
use Rattle.std.specs.Prelude.{slice_get, is_some, if◌then◌else◌}
use Rattle.eif_classes.specs.Entries.{Declaration, declared_as, Feature}
use Rattle.eif_classes.specs.Features.{is_attribute, origin}
use Rattle.eif_classes.specs.Resolution.{resolved}
use Rattle.eif_classes.specs.Signatures.{Signature, declared_signature, with_actuals, signature}
use Rattle.eif_classes.specs.Types.{TyT, Actuals, put_in}
use Rattle.eif_meaning.specs.Objects.{result_type, field_type}
use Rattle.eif_meaning.specs.System.{declaration_in, system_over}
use Rattle.eif_meaning.specs.Values.{ClassType}
use Rattle.eif_spelled_trees.specs.SpelledTrees.{IsTyped}
use Rattle.eif_system.specs.Lineage.{line_of}
use Rattle.eif_tree.specs.Tree.{TypeT, GroupT, DeclT, ClassT}
use Rattle.eif_type_laws.proofs.Ancestors.{ancestor_has_class}
use Rattle.eif_binding_laws.specs.KeptSignatures.{StandsFor, IsBound}
use Rattle.eif_binding_laws.specs.Signatures.{IsVersion}
use Rattle.eif_binding_laws.proofs.Formed.{signed_feature}
use Rattle.eif_binding_laws.proofs.Keeping.{kept, served}
use Rattle.eif_binding_laws.proofs.Settings.{IsSignedSetting}
use Rattle.eif_run_laws.specs.ObjectTypes.{has_instances, IsMade, Over}
use Rattle.eif_run_sound.specs.UniverseLaws.{OpenTypeLaws, ResultFits, IsServed, IsReadAs, IsAnswered, all_closed, maybe_closed}
use Rattle.eif_run_features.proofs.Closing.{result_closed, over_own, served_over, seen_closed}
use Rattle.eif_run_features.proofs.Spelled.{IsSpelledText, field_typed}

-- the type of a field is the result of its name
pub field_type_is : (u : List ClassT) (d : ℕ) (n : List ℕ) (y : Declaration) (g : Signature) (a : TyT)
    → origin (line_of u d) n ≡ Some (declared_as y)
    → is_attribute y.tree.kind ≡ true
    → signature u (line_of u d) n ≡ Some g
    → g.result ≡ Some a
    → field_type (system_over u) d n ≡ Some a
field_type_is u d n y g a from field signed result =
    ap (λ o. option_and_then (λ (x : Declaration).
    if is_attribute x.tree.kind then result_type (system_over u) d n else None) (option_and_then declaration_in o)) from
    ∙ (ap (λ b. if b then result_type (system_over u) d n else None) field
    ∙ (ap (option_and_then (λ (g : Signature). g.result)) signed ∙ result))

-- what has a type and no arguments has a signature with a result and no arguments
field_signature : (u : List ClassT) (c : ClassT) (x : DeclT) (xs : Actuals) → IsTyped x
    → ((with_actuals xs (declared_signature u c x)).arguments ≡ [])
    × (a : TyT) × ((with_actuals xs (declared_signature u c x)).result ≡ Some a)
field_signature u c x xs is =
    let r = some x.result_type is.1 in (
      ap (λ gs. map (put_in xs) (flat_map (λ (g : GroupT). map (λ n. resolved u c g.type_tree) g.names) gs)) is.0,
      r.0,
      r.1,
    )
  where
    some : (o : Option TypeT) → is_some o ≡ true
        → (a : TyT) × (option_map (put_in xs) (option_map (resolved u c) o) ≡ Some a)
    some None h = cc
    some (Some t) h = (put_in xs (resolved u c t), refl)

module _ (u : List ClassT) (order : List ℕ) (strict : IsSignedSetting u order)
    (spelled : (d : ℕ) (c : ClassT) → slice_get u d ≡ Some c → IsSpelledText c) (types : OpenTypeLaws u)
    (effective : (d : ℕ) (c : ClassT) → slice_get u d ≡ Some c → has_instances (system_over u) d ≡ true
    → c.is_deferred ≡ false) where
  module _ (t : ClassType) (made : IsMade (system_over u) t) where
    abbrev d : ℕ
    d = t.class_number

    -- a version that is an attribute is a field that serves
    read : (n : List ℕ) (y : Declaration) (s g : Signature) → origin (line_of u d) n ≡ Some (declared_as y)
        → is_attribute y.tree.kind ≡ true
        → signature u (line_of u d) n ≡ Some s
        → StandsFor u d s g
        → IsReadAs u t n y (all_closed t.actuals g.arguments) (maybe_closed t.actuals g.result)
    read n y s g from field signed stands =
        let f = signed_feature u order strict.setting d n s signed in
        let x = f.2 in
        let here : f.0.origin ≡ declared_as y = same_Some f.0.origin (declared_as y)
        (sym (ap (option_map (λ (f : Feature). f.origin)) f.1) ∙ from) in
        let v : IsVersion (declared_as y) x.declaration = subst (λ o. IsVersion o x.declaration) here x.version in
        let typed : IsTyped x.declaration.tree =
        field_typed x.above.class (spelled x.declaration.class_number x.above.class x.above.at) x.declaration.name
        x.declaration.tree x.above.declares (subst (λ (y : Declaration). is_attribute y.tree.kind ≡ true) v.0 field) in
        let w = field_signature u x.above.class x.declaration.tree x.above.actuals typed in
        let arguments : s.arguments ≡ [] = ap (λ (s : Signature). s.arguments) x.signed ∙ w.0 in
        let result : s.result ≡ Some w.1 = ap (λ (s : Signature). s.result) x.signed ∙ w.2 in
        record {
          is_field = field;
          no_arguments = ap (all_closed t.actuals) (sym stands.arguments ∙ arguments);
          type = w.1;
          field = field_type_is u d n y s w.1 from field signed result;
          result_fits = subst (λ o. ResultFits u (maybe_closed t.actuals o) (maybe_closed t.actuals g.result)) result
              (result_closed u types d t.actuals made.suit s.result g.result stands.result);
        }

    pub answered : (b : ℕ) (xs : Actuals) → Over (system_over u) t b xs → (x : List ℕ) (g : Signature)
        → signature u (line_of u b) x ≡ Some g
        → IsAnswered u t b x (all_closed xs g.arguments) (maybe_closed xs g.result)
    answered b xs over x g signed =
        let set = strict.setting in
        let c = ancestor_has_class u order set.hierarchy d b over.derived over.gives in
        let bound = served u order strict d c.0 c.1 (effective d c.0 c.1 made.instances) b x over.derived g over.gives
        signed in
        let w = kept u order strict d b x bound.name over.derived g over.gives signed bound.bound in
        let whole = seen_closed t over.derived xs g over.is in
        record {
          name = bound.name;
          bound = bound.bound;
          version = bound.version;
          version_is = bound.origin;
          serves = go bound w.theirs w.signed w.stands (is_attribute bound.version.tree.kind) refl whole;
        }
      where
        go : (bound : IsBound u d b x (with_actuals over.derived g)) (s : Signature)
            → signature u (line_of u d) bound.name ≡ Some s
            → StandsFor u d s (with_actuals over.derived g)
            → (field : Bool)
            → is_attribute bound.version.tree.kind ≡ field
            → with_actuals t.actuals (with_actuals over.derived g) ≡ with_actuals xs g
            → IsReadAs u t bound.name bound.version (all_closed xs g.arguments) (maybe_closed xs g.result)
            ⊎ IsServed u t bound.version (all_closed xs g.arguments) (maybe_closed xs g.result)
        go bound s signed stands true e whole = inl
            (subst (λ (r : Signature). IsReadAs u t bound.name bound.version r.arguments r.result) whole
            (read bound.name bound.version s (with_actuals over.derived g) bound.origin e signed stands))
        go bound s signed stands false e whole = inr
            (subst (λ (r : Signature). IsServed u t bound.version r.arguments r.result) whole
            (served_over u types order strict.setting.hierarchy strict.setting.defined t d t.actuals
            (over_own u types order strict.setting.hierarchy strict.setting.defined t made) made.suit bound.version
            (with_actuals over.derived g) bound.serves e))

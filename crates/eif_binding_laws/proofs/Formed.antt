-- The types of signatures are types of the class, and what has a signature is a name.
use Rattle.std.proofs.Common.{◌≡◌, ℕ, ◌≤◌, Bool, true, false, List, [], ◌∷◌, map, Option, Some, None, refl, sym, ap, subst, ◌∙◌, ⊎_elim, arith}
use Rattle.std.proofs.lemmas.Option.{same_Some}
use Rattle.std.specs.List.{flat_map}
use Rattle.std.specs.Option.{option_map, option_or}
use Rattle.std.specs.Prelude.{cond, find, not, slice_get, ◌||◌, if◌then◌else◌}
use Rattle.std.specs.Str.{bytes_eq}
use Rattle.eif_ancestry.proofs.Members.{or_cases, or_left, or_right, is_false}
use Rattle.eif_base.specs.Numbering.{is_among}
use Rattle.eif_classes.specs.Ancestry.{ancestor}
use Rattle.eif_classes.specs.Entries.{Declaration, Origin, deferred, declared_as, clashing, Feature, Entry, entries_of, leading}
use Rattle.eif_classes.specs.Features.{declaration_of, entries, features, feature}
use Rattle.eif_classes.specs.Signatures.{Signature, SignedEntry, declared_signature, with_actuals, signature, signed_entries}
use Rattle.eif_classes.specs.Types.{TyT, Actuals, put_in}
use Rattle.eif_feature_rules.specs.FeatureRules.{clashing_name, deferred_name, origin_faults}
use Rattle.eif_lineage_laws.proofs.Descending.{lines_of, no_line, class_or_none}
use Rattle.eif_lineage_laws.proofs.EachItem.{AllOf, all_at}
use Rattle.eif_lineage_laws.proofs.NoFaults.{none_right, none_where}
use Rattle.eif_lineage_laws.proofs.Unfolding.{unfolded}
use Rattle.eif_rules.specs.FaultForms.{fault_at}
use Rattle.eif_rules.specs.UniverseRules.{formal_count}
use Rattle.eif_base.specs.declared.code.Code.TheVariants as code
use Rattle.eif_system.specs.Inheritance.{clauses}
use Rattle.eif_system.specs.Lineage.{Ups, line, line_of}
use Rattle.eif_system.specs.WrittenTypes.{present}
use Rattle.eif_tree.specs.declared.tree.NameAt.{NameAt}
use Rattle.eif_tree.specs.Members.{has_name, declarations, declared_names}
use Rattle.eif_tree.specs.Tree.{DeclT, ClassT}
use Rattle.eif_type_laws.specs.ClassTypes.{actual_count, AreOf, constraints_of, Meet, AreValid}
use Rattle.eif_type_laws.proofs.Ancestors.{ancestor_of}
use Rattle.eif_type_laws.proofs.TypesKept.{put_something, put_of}
use Rattle.eif_type_laws.proofs.Validity.{put_valid, ancestor_valid}
use Rattle.eif_binding_laws.specs.Signatures.{IsTypeOf, OfTypes, IsSigned}
use Rattle.eif_binding_laws.proofs.Inherited.{all_names, made, feature_is}
use Rattle.eif_binding_laws.proofs.Searches.{turned, apart, found_has, among_append, map_append}
use Rattle.eif_binding_laws.proofs.Settings.{TypesAre, IsSetting}
use Rattle.eif_binding_laws.proofs.Signing.{signed_pairs, no_clash, all_signed, ready}

-- a name has a version where the class isn't deferred
has_version : (c : ClassT) (n : List ℕ) (o : Origin) → c.is_deferred ≡ false → deferred_name c n o ≡ [] →
    (o ≡ clashing → ⊥) → (x : Declaration) × (o ≡ declared_as x)
has_version c n deferred e h distinct =
    let t = none_where (not c.is_deferred) (fault_at c code.Vcch 1 c.place n) h in
    absurd (apart (not c.is_deferred) (ap not e) t)
has_version c n clashing e h distinct = absurd (distinct refl)
has_version c n (declared_as x) e h distinct = (x, refl)

module _ (u : List ClassT) (order : List ℕ) (is : IsSetting u order) where
  pub version : (d : ℕ) (c : ClassT) → slice_get u d ≡ Some c → c.is_deferred ≡ false → (n : List ℕ) (f : Feature) →
      feature (line_of u d) n ≡ Some f → (x : Declaration) × (f.origin ≡ declared_as x)
  version d c at effective n f found =
      let none = found_has (λ f. origin_faults c f ≡ []) (λ f. bytes_eq f.name n) (features (line_of u d)) f
      (is.features d c at).origins found in
      has_version c f.name f.origin effective
      (none_right (clashing_name c f.name f.origin) (deferred_name c f.name f.origin) none)
      (no_clash u order is d c at n f found)

  -- ---- types with actuals put in

  module _ (k d : ℕ) (xs : Actuals) (are : AreOf u (formal_count u d) xs) (count : actual_count xs ≡ formal_count u k)
      (valid : AreValid u d xs) (meet : Meet u d xs (constraints_of u k)) where
    put_type : (t : TyT) → IsTypeOf u k t → IsTypeOf u d (put_in xs t)
    put_type t h =
        let enough : formal_count u k ≤ actual_count xs = omega arith in
        record {
          something = put_something u (formal_count u d) (formal_count u k) xs are enough t h.formed h.something;
          formed = put_of u (formal_count u d) (formal_count u k) xs are enough t h.formed;
          valid = put_valid u order is.hierarchy is.defined k d xs are valid meet t h.formed h.valid;
        }

    put_list : (ts : List TyT) → AllOf (IsTypeOf u k) ts → AllOf (IsTypeOf u d) (map (put_in xs) ts)
    put_list [] h = tt
    put_list (t ∷ ts) h = (put_type t h.0, put_list ts h.1)

    put_option : (o : Option TyT) → AllOf (IsTypeOf u k) (present o) →
        AllOf (IsTypeOf u d) (present (option_map (put_in xs) o))
    put_option None h = tt
    put_option (Some t) h = (put_type t h.0, tt)

    pub put_types : (s : Signature) → TypesAre (IsTypeOf u k) s → TypesAre (IsTypeOf u d) (with_actuals xs s)
    put_types s h = record { arguments = put_list s.arguments h.arguments; result = put_option s.result h.result }

  pub ancestor_types : (d k : ℕ) (xs : Actuals) → ancestor u d k ≡ Some xs → (s : Signature) →
      TypesAre (IsTypeOf u k) s → TypesAre (IsTypeOf u d) (with_actuals xs s)
  ancestor_types d k xs gives s h =
      let a = ancestor_of u order is.hierarchy d k xs gives in
      let v = ancestor_valid u order is.hierarchy is.defined is.clauses d k xs gives in
      put_types k d xs a.0 a.1 v.1 v.0 s h

  pub signed_types : (d : ℕ) (f : Feature) (s : Signature) → IsSigned u d f s → TypesAre (IsTypeOf u d) s
  signed_types d f s g =
      let x = g.declaration in
      let a = g.above in
      subst (TypesAre (IsTypeOf u d)) (sym g.signed)
      (ancestor_types d x.class_number a.actuals a.gives (declared_signature u a.class x.tree)
      (is.types x.class_number a.class a.at x.name x.tree a.declares))

  -- ---- what has a signature is a name

  declared_among : (n : List ℕ) (xs : List DeclT) (x : DeclT) → find (λ x. has_name x.names n) xs ≡ Some x →
      is_among (map (λ n. n.name) (flat_map (λ x. x.names) xs)) n ≡ true
  declared_among n [] x h = cc
  declared_among n (y ∷ ys) x h =
      ap (λ ns. is_among ns n) (map_append (λ n. n.name) y.names (flat_map (λ x. x.names) ys))
      ∙ (among_append (map (λ n. n.name) y.names) (map (λ n. n.name) (flat_map (λ x. x.names) ys)) n
      ∙ go (has_name y.names n) refl h (declared_among n ys x))
    where
      some : (ns : List NameAt) → has_name ns n ≡ true → is_among (map (λ n. n.name) ns) n ≡ true
      some [] h = h
      some (m ∷ ns) h = or_cases _ (bytes_eq m.name n) (has_name ns n) h
          (λ t. or_left _ _ (turned n m.name t)) (λ t. or_right (bytes_eq n m.name) _ (some ns t))

      go : (b : Bool) → has_name y.names n ≡ b → cond b (Some y) (find (λ x. has_name x.names n) ys) ≡ Some x →
          (find (λ x. has_name x.names n) ys ≡ Some x →
          is_among (map (λ n. n.name) (flat_map (λ x. x.names) ys)) n ≡ true) →
          (is_among (map (λ n. n.name) y.names) n
          || is_among (map (λ n. n.name) (flat_map (λ x. x.names) ys)) n) ≡ true
      go true e h later = or_left _ _ (some y.names e)
      go false e h later = or_right (is_among (map (λ n. n.name) y.names) n) _ (later h)

  no_entries : (n : List ℕ) (es : List Entry) → is_among (map (λ e. e.final) es) n ≡ false → entries_of n es ≡ []
  no_entries n [] h = refl
  no_entries n (e ∷ es) h = go (bytes_eq e.final n) refl (no_entries n es)
    where
      go : (b : Bool) → bytes_eq e.final n ≡ b →
          (is_among (map (λ e. e.final) es) n ≡ false → entries_of n es ≡ []) →
          cond b (e ∷ entries_of n es) (entries_of n es) ≡ []
      go true t later = absurd (apart (is_among (map (λ e. e.final) (e ∷ es)) n) (or_left _ _ (turned n e.final t)) h)
      go false t later = later (is_false _ (λ t.
          apart (is_among (map (λ e. e.final) (e ∷ es)) n) (or_right (bytes_eq n e.final) _ t) h))

  no_signed : (xs : List SignedEntry) → map (λ s. s.entry) xs ≡ [] → xs ≡ []
  no_signed [] h = refl
  no_signed (x ∷ xs) h = cc

  module _ (d : ℕ) (c : ClassT) (at : slice_get u d ≡ Some c) where
    abbrev ups : Ups
    ups = lines_of u c (clauses c)

    none_signed : (n : List ℕ) → is_among (all_names d c ups) n ≡ false → signature u (line d c ups) n ≡ None
    none_signed n h =
        let ready = ready u order is d c at (λ q member. all_signed u order is q) in
        let pairs = signed_pairs u c n ready in
        let both = among_append (map (λ n. n.name) (declared_names c)) (map (λ e. e.final) (entries ups)) n in
        let left : is_among (map (λ n. n.name) (declared_names c)) n ≡ false =
        is_false _ (λ t. apart (is_among (all_names d c ups) n) (both ∙ or_left _ _ t) h) in
        let right : is_among (map (λ e. e.final) (entries ups)) n ≡ false =
        is_false _ (λ t. apart (is_among (all_names d c ups) n)
        (both ∙ or_right (is_among (map (λ n. n.name) (declared_names c)) n) _ t) h) in
        let empty = no_signed (signed_entries u c ups n) (pairs.same ∙ no_entries n (entries ups) right) in
        ap (λ o. option_or (option_map (declared_signature u c) o)
        (option_map (λ s. s.signature) (leading (λ s. s.entry) (signed_entries u c ups n)))) (undeclared left)
        ∙ ap (λ xs. option_map (λ s. s.signature) (leading (λ s. s.entry) xs)) empty
      where
        undeclared : is_among (map (λ n. n.name) (declared_names c)) n ≡ false → declaration_of c n ≡ None
        undeclared left = go (declaration_of c n) refl
          where
            go : (o : Option DeclT) → declaration_of c n ≡ o → o ≡ None
            go None e = refl
            go (Some x) e = absurd (apart (is_among (map (λ n. n.name) (declared_names c)) n)
                (declared_among n (declarations c) x e) left)

    has_feature_here : (n : List ℕ) (s : Signature) → signature u (line_of u d) n ≡ Some s →
        (f : Feature) × (feature (line_of u d) n ≡ Some f)
    has_feature_here n s h =
        let l = unfolded u order is.hierarchy.ordered d c at in
        go (is_among (all_names d c ups) n) refl (sym (ap (λ l. signature u l n) l) ∙ h)
        (ap (λ l. feature l n) l ∙ feature_is d c ups n)
      where
        go : (b : Bool) → is_among (all_names d c ups) n ≡ b → signature u (line d c ups) n ≡ Some s →
            feature (line_of u d) n ≡ (if is_among (all_names d c ups) n then Some (made d c ups n) else None) →
            (f : Feature) × (feature (line_of u d) n ≡ Some f)
        go true e h f = (made d c ups n, f ∙ ap (λ b. if b then Some (made d c ups n) else None) e)
        go false e h f = let z : None ≡ Some s = sym (none_signed n e) ∙ h in cc

  pub signed_feature : (d : ℕ) (n : List ℕ) (s : Signature) → signature u (line_of u d) n ≡ Some s →
      (f : Feature) × (feature (line_of u d) n ≡ Some f) × IsSigned u d f s
  signed_feature d n s h = ⊎_elim
      (λ (c : (c : ClassT) × (slice_get u d ≡ Some c)).
      let f = has_feature_here d c.0 c.1 n s h in
      let g = all_signed u order is d n f.0 f.1 in
      (f.0, f.1, subst (IsSigned u d f.0) (same_Some g.0 s (sym g.1 ∙ h)) g.2))
      (λ (e : slice_get u d ≡ None).
      let z : None ≡ Some s = sym (ap (λ l. signature u l n) (no_line u d e)) ∙ h in cc)
      (class_or_none u d)

  pub signature_types : (d : ℕ) (n : List ℕ) (s : Signature) → signature u (line_of u d) n ≡ Some s →
      TypesAre (IsTypeOf u d) s
  signature_types d n s h = let f = signed_feature d n s h in signed_types d f.0 s f.2

-- ---- by places

pub of_types : (P : TyT → Type 0) (s : Signature) → TypesAre P s → OfTypes P s
of_types P s h = record {
  arguments = λ i t e. all_at P s.arguments i t h.arguments e;
  result = λ t e. (subst (λ o. AllOf P (present o)) e h.result).0;
}

-- Each name of a class beside its entries: what it is, by the rules of redeclaration and of joins.
use Rattle.std.proofs.Common.{◌≡◌, ℕ, Bool, true, false, List, [], ◌∷◌, ◌++◌, map, Option, Some, None, refl, sym, ap, ap₂, subst, ◌∙◌}
use Rattle.std.proofs.lemmas.Bool.{eqb-true, eq-eqb}
use Rattle.std.proofs.lemmas.Option.{same_Some}
use Rattle.std.specs.List.{filter, flat_map, list_all}
use Rattle.std.specs.Option.{option_map, option_map_or, option_or}
use Rattle.std.specs.Prelude.{cond, find, not, slice_get, ◌&&◌, ◌||◌, ◌==◌, if◌then◌else◌}
use Rattle.std.specs.Str.{bytes_eq}
use Rattle.eif_base.specs.declared.code.Code.TheVariants as code
use Rattle.eif_base.specs.Numbering.{is_among}
use Rattle.eif_classes.specs.Entries.{Declaration, Origin, deferred, declared_as, clashing, Feature, Entry, entries_of, is_effective, lasts, same_origin, joined, leading}
use Rattle.eif_classes.specs.Features.{declaration_of, declared_origin, declared_feature, feature_by, features, entries, is_attribute, is_field, feature}
use Rattle.eif_classes.specs.Names.{is_undefined}
use Rattle.eif_classes.specs.Signatures.{Signature, SignedEntry, declared_signature, with_actuals, signed, signature, signed_entries}
use Rattle.eif_classes.specs.Types.{TyT}
use Rattle.eif_feature_rules.specs.JoinRules.{SignedName, has_large_entry, large_signature, fits_others, unfit_version, agree, unequal_join, entry_faults, declaration_here, signed_name_faults, signed_name, signed_names, join_faults}
use Rattle.eif_feature_rules.specs.RedeclarationRules.{fault_beside, other_count, other_argument, other_form, other_result, keeps_attribute, lost_attribute, redeclaration_faults_by}
use Rattle.eif_feature_rules.specs.RuleForms.{DeclaredName, names_of_declaration}
use Rattle.eif_feature_rules.specs.SignaturePairs.{have_equal_count, have_equal_arguments, are_of_one_form, has_conforming_result, have_equal_results, fits, are_equal}
use Rattle.eif_lineage_laws.proofs.Descending.{lines_of}
use Rattle.eif_lineage_laws.proofs.EachItem.{AllOf, all_at, all_then, all_both, all_map}
use Rattle.eif_lineage_laws.proofs.NoFaults.{none_left, none_right, none_of_each, none_where}
use Rattle.eif_lineage_laws.proofs.Unfolding.{unfolded}
use Rattle.eif_rules.specs.FaultForms.{fault_at}
use Rattle.eif_system.specs.Graph.{is_member}
use Rattle.eif_system.specs.Inheritance.{clauses, parent_numbers}
use Rattle.eif_system.specs.Lineage.{line, Ups, line_of}
use Rattle.eif_system.specs.WrittenTypes.{present}
use Rattle.eif_tree.specs.declared.tree.NameAt.{NameAt}
use Rattle.eif_tree.specs.Members.{has_name, declarations}
use Rattle.eif_tree.specs.Tree.{KindT, attribute, constant, deferred_body, routine, DeclT, ClassT}
use Rattle.eif_type_laws.proofs.Conforming.{reflexive_at}
use Rattle.eif_type_laws.proofs.SameTypes.{and_left, and_right, and_both}
use Rattle.eif_tree.specs.declared.tree.Mark.TheVariants.{Plain}
use Rattle.eif_binding_laws.specs.KeptSignatures.{ResultConforms, StandsFor}
use Rattle.eif_binding_laws.specs.Signatures.{IsTypeOf, IsDeclaredAbove, signature_above, IsVersion, IsSigned}
use Rattle.eif_binding_laws.proofs.Comparing.{results_equal, stands_by, fit_stands, equal_is}
use Rattle.eif_binding_laws.proofs.FineClasses.{UndefinesNoField, none_of_first}
use Rattle.eif_binding_laws.proofs.Formed.{signed_types}
use Rattle.eif_binding_laws.proofs.Inherited.{all_names, made, found_made, found_named}
use Rattle.eif_binding_laws.proofs.Leading.{leading_has, lasting, first_lasting}
use Rattle.eif_binding_laws.proofs.Searches.{bytes_same, same_bytes, apart, found_has, found_passes}
use Rattle.eif_binding_laws.proofs.Settings.{TypesAre, IsSetting, IsSignedSetting}
use Rattle.eif_binding_laws.proofs.Signing.{Pairs, AreSigned, IsSignedEntry, signed_pairs, all_signed, ready, seen, led}

pub not_false : (b : Bool) → not b ≡ false → b ≡ true
not_false true h = refl
not_false false h = cc

-- ---- versions that are one

abbrev declared_by : ℕ → List ℕ → DeclT → Declaration
declared_by k n x = record { class_number = k; name = n; tree = x }

-- versions of one class and one name are the same, and have the same signature above
module _ (u : List ClassT) (d : ℕ) where
  one_above : (x : Declaration) (a b : IsDeclaredAbove u d x) → signature_above u d x a ≡ signature_above u d x b
  one_above x a b =
      ap₂ (λ xs c. with_actuals xs (declared_signature u c x.tree))
      (same_Some a.actuals b.actuals (sym a.gives ∙ b.gives)) (same_Some a.class b.class (sym a.at ∙ b.at))

  one_declaration : (x y : Declaration) → IsDeclaredAbove u d x → IsDeclaredAbove u d y →
      x.class_number ≡ y.class_number → x.name ≡ y.name → x ≡ y
  one_declaration x y a b number name =
      let class : a.class ≡ b.class = same_Some a.class b.class (sym a.at ∙ (ap (slice_get u) number ∙ b.at)) in
      let tree : x.tree ≡ y.tree =
      same_Some x.tree y.tree (sym a.declares ∙ (ap₂ declaration_of class name ∙ b.declares)) in
      ap₂ (λ k n. declared_by k n x.tree) number name ∙ ap (declared_by y.class_number y.name) tree

  pub one_signature : (x y : Declaration) (a : IsDeclaredAbove u d x) (b : IsDeclaredAbove u d y) → x ≡ y →
      signature_above u d x a ≡ signature_above u d y b
  one_signature x y a b e =
      subst (λ y. (b : IsDeclaredAbove u d y) → signature_above u d x a ≡ signature_above u d y b) e
      (λ b. one_above x a b) b

  -- one origin beside a version
  same_version : (o : Origin) (y z : Declaration) → same_origin (declared_as y) o ≡ true → IsVersion o z →
      (y.class_number ≡ z.class_number) × (y.name ≡ z.name) × (o ≡ declared_as z)
  same_version deferred y z h v = cc
  same_version clashing y z h v = cc
  same_version (declared_as x) y z h v = (
    eqb-true y.class_number x.class_number (and_left (y.class_number == x.class_number) (bytes_eq y.name x.name) h)
        ∙ ap (λ (x : Declaration). x.class_number) v.0,
    same_bytes y.name x.name (and_right (y.class_number == x.class_number) (bytes_eq y.name x.name) h)
        ∙ ap (λ (x : Declaration). x.name) v.0,
    ap declared_as v.0,
  )

-- ---- entries that last

is_field_effective : (o : Origin) → is_field o ≡ true → is_effective o ≡ true
is_field_effective deferred h = cc
is_field_effective clashing h = cc
is_field_effective (declared_as x) h = refl

all_not_found : (es : List Entry) → find lasts es ≡ None → AllOf (λ e. lasts e ≡ false) es
all_not_found [] h = tt
all_not_found (e ∷ es) h = go (lasts e) refl h (all_not_found es)
  where
    go : (b : Bool) → lasts e ≡ b → cond b (Some e) (find lasts es) ≡ None →
        (find lasts es ≡ None → AllOf (λ e. lasts e ≡ false) es) → AllOf (λ e. lasts e ≡ false) (e ∷ es)
    go true t h later = cc
    go false t h later = (t, later h)

-- where no version is joined of the entries none of them lasts
none_lasts : (es : List Entry) → is_effective (joined (lasting es)) ≡ false → AllOf (λ e. lasts e ≡ false) es
none_lasts es h = go (find lasts es) refl
  where
    one : (e : Entry) (os : List Origin) (b : Bool) → is_effective e.feature.origin ≡ true →
        is_effective (if b then e.feature.origin else clashing) ≡ true
    one e os true t = t
    one e os false t = refl

    go : (o : Option Entry) → find lasts es ≡ o → AllOf (λ e. lasts e ≡ false) es
    go None e = all_not_found es e
    go (Some x) e =
        let l = first_lasting es x e in
        let t = and_left (is_effective x.feature.origin) (not (is_undefined x.clause x.final))
        (found_passes lasts es x e) in
        absurd (apart (is_effective (joined (lasting es)))
        (ap (λ os. is_effective (joined os)) l.1
        ∙ one x l.0 (list_all (same_origin x.feature.origin) l.0) t) h)

same_self : (o : Origin) → same_origin o o ≡ true
same_self deferred = refl
same_self clashing = refl
same_self (declared_as x) =
    and_both (x.class_number == x.class_number) (bytes_eq x.name x.name) (eq-eqb x.class_number x.class_number refl)
    (bytes_same x.name)

-- all that last have the version that is joined
all_joined : (es : List Entry) (y : Declaration) → joined (lasting es) ≡ declared_as y →
    list_all (same_origin (declared_as y)) (lasting es) ≡ true
all_joined es y h = go (lasting es) h
  where
    one : (o : Origin) (os : List Origin) (b : Bool) → list_all (same_origin o) os ≡ b →
        (if b then o else clashing) ≡ declared_as y → list_all (same_origin (declared_as y)) (o ∷ os) ≡ true
    one o os true t h =
        subst (λ x. list_all (same_origin x) (o ∷ os) ≡ true) h (and_both (same_origin o o) _ (same_self o) t)
    one o os false t h = cc

    go : (os : List Origin) → joined os ≡ declared_as y → list_all (same_origin (declared_as y)) os ≡ true
    go [] h = refl
    go (o ∷ os) h = one o os (list_all (same_origin o) os) refl h

of_lasting : (test : Origin → Bool) (es : List Entry) → list_all test (lasting es) ≡ true →
    AllOf (λ e. lasts e ≡ true → test e.feature.origin ≡ true) es
of_lasting test [] h = tt
of_lasting test (e ∷ es) h = go (lasts e) refl h (of_lasting test es)
  where
    go : (b : Bool) → lasts e ≡ b →
        list_all test (map (λ e. e.feature.origin) (cond b (e ∷ filter lasts es) (filter lasts es))) ≡ true →
        (list_all test (lasting es) ≡ true → AllOf (λ e. lasts e ≡ true → test e.feature.origin ≡ true) es) →
        AllOf (λ e. lasts e ≡ true → test e.feature.origin ≡ true) (e ∷ es)
    go true t h later = (λ k. and_left (test e.feature.origin) _ h, later (and_right (test e.feature.origin) _ h))
    go false t h later = (λ k. absurd (apart (lasts e) k t), later h)

-- those that don't last have what is asked of the others
of_others : (test : SignedEntry → Bool) (xs : List SignedEntry) →
    list_all test (filter (λ e. not (lasts e.entry)) xs) ≡ true → AllOf (λ s. lasts s.entry ≡ false → test s ≡ true) xs
of_others test [] h = tt
of_others test (x ∷ xs) h = go (lasts x.entry) refl h (of_others test xs)
  where
    go : (b : Bool) → lasts x.entry ≡ b →
        list_all test (cond (not b) (x ∷ filter (λ e. not (lasts e.entry)) xs)
        (filter (λ e. not (lasts e.entry)) xs)) ≡ true →
        (list_all test (filter (λ e. not (lasts e.entry)) xs) ≡ true →
        AllOf (λ s. lasts s.entry ≡ false → test s ≡ true) xs) →
        AllOf (λ s. lasts s.entry ≡ false → test s ≡ true) (x ∷ xs)
    go true t h later = (λ k. absurd (apart (lasts x.entry) t k), later h)
    go false t h later = (λ k. and_left (test x) _ h, later (and_right (test x) _ h))

-- ---- one name of a class beside its entries

-- the declaration that rules judge is the class's
declared_tree : (c : ClassT) (n : List ℕ) → option_map (λ x. x.tree) (declaration_here c n) ≡ declaration_of c n
declared_tree c n = go (declarations c)
  where
    named : (x : DeclT) (ns : List NameAt) (xs : List DeclT) →
        option_map (λ x. x.tree) (find (λ x. bytes_eq x.name.name n) (flat_map names_of_declaration xs))
        ≡ find (λ x. has_name x.names n) xs →
        option_map (λ x. x.tree) (find (λ x. bytes_eq x.name.name n)
        (map (λ m. record { name = m; tree = x }) ns ++ flat_map names_of_declaration xs))
        ≡ cond (has_name ns n) (Some x) (find (λ x. has_name x.names n) xs)
    named x [] xs later = later
    named x (m ∷ ns) xs later = pick (bytes_eq m.name n) (named x ns xs later)
      where
        pick : (b : Bool) →
            option_map (λ x. x.tree) (find (λ x. bytes_eq x.name.name n)
            (map (λ m. record { name = m; tree = x }) ns ++ flat_map names_of_declaration xs))
            ≡ cond (has_name ns n) (Some x) (find (λ x. has_name x.names n) xs) →
            option_map (λ x. x.tree) (cond b (Some (record { name = m; tree = x }))
            (find (λ x. bytes_eq x.name.name n)
            (map (λ m. record { name = m; tree = x }) ns ++ flat_map names_of_declaration xs)))
            ≡ cond (b || has_name ns n) (Some x) (find (λ x. has_name x.names n) xs)
        pick true e = refl
        pick false e = e

    go : (xs : List DeclT) →
        option_map (λ x. x.tree) (find (λ x. bytes_eq x.name.name n) (flat_map names_of_declaration xs))
        ≡ find (λ x. has_name x.names n) xs
    go [] = refl
    go (x ∷ xs) = named x x.names xs (go xs)

module _ (u : List ClassT) (order : List ℕ) (strict : IsSignedSetting u order) (d : ℕ) where
  abbrev is : IsSetting u order
  is = strict.setting

  option_reflexive : (o : Option TyT) → AllOf (IsTypeOf u d) (present o) → ResultConforms u d o o
  option_reflexive None h = tt
  option_reflexive (Some t) h =
      reflexive_at u order is.hierarchy d t h.0.formed h.0.something Plain Plain refl

  pub stands_self : (s : Signature) → TypesAre (IsTypeOf u d) s → StandsFor u d s s
  stands_self s h = record { arguments = refl; result = option_reflexive s.result h.result }

  pub stands_equal : (s t : Signature) → TypesAre (IsTypeOf u d) s → s ≡ t → StandsFor u d s t
  stands_equal s t h e = subst (StandsFor u d s) e (stands_self s h)

  -- the feature f with the signature t beside an entry
  pub record Redeclares (f : Feature) (t : Signature) (s : SignedEntry) : Type 0 where
    pub stands : StandsFor u d t s.signature
    pub field : is_field s.entry.feature.origin ≡ true → (is_field f.origin ≡ true) × (t.result ≡ s.signature.result)

  module _ (c : ClassT) (at : slice_get u d ≡ Some c) (n : List ℕ) where
    -- ---- by its declaration

    field_declared : (k : KindT) (x : Declaration) → x.tree.kind ≡ k → is_attribute k ≡ true →
        is_field (declared_origin k x) ≡ true
    field_declared attribute x e h = ap is_attribute e
    field_declared (constant v) x e h = cc
    field_declared deferred_body x e h = cc
    field_declared (routine groups body) x e h = cc

    by_declaration : (x : DeclaredName) (s : SignedEntry) →
        redeclaration_faults_by u d c x (declared_signature u c x.tree) s ≡ [] →
        Redeclares (declared_feature (record { class_number = d; name = n; tree = x.tree }))
        (declared_signature u c x.tree) s
    by_declaration x e h =
        let s = declared_signature u c x.tree in
        let f1 = other_count c x s e in
        let f2 = other_argument c x s e in
        let f3 = other_form c x s e in
        let f4 = other_result u d c x s e in
        let f5 = lost_attribute c x s e in
        let h5 = none_of_first (f1 ++ f2 ++ f3 ++ f4 ++ f5) h in
        let h4 = none_left (f1 ++ f2 ++ f3 ++ f4) f5 h5 in
        let h3 = none_left (f1 ++ f2 ++ f3) f4 h4 in
        let h2 = none_left (f1 ++ f2) f3 h3 in
        let count = not_false (have_equal_count s e.signature)
        (none_where (not (have_equal_count s e.signature)) (fault_beside c x e 1) (none_left f1 f2 h2)) in
        let arguments = not_false (have_equal_arguments s e.signature)
        (none_where (not (have_equal_arguments s e.signature)) (fault_beside c x e 2) (none_right f1 f2 h2)) in
        let form = not_false (are_of_one_form s e.signature)
        (none_where (not (are_of_one_form s e.signature)) (fault_beside c x e 3) (none_right (f1 ++ f2) f3 h3)) in
        let result = not_false (has_conforming_result u d s e.signature)
        (none_where (not (has_conforming_result u d s e.signature)) (fault_beside c x e 4)
        (none_right (f1 ++ f2 ++ f3) f4 h4)) in
        let lost = none_where (is_field e.entry.feature.origin && not (keeps_attribute x s e)) (fault_beside c x e 5)
        (none_right (f1 ++ f2 ++ f3 ++ f4) f5 h5) in
        record {
          stands = stands_by u d s e.signature count arguments form result;
          field = λ field.
              let kept = not_false (keeps_attribute x s e)
              (ap (λ b. b && not (keeps_attribute x s e)) (sym field) ∙ lost) in (
                field_declared x.tree.kind (record { class_number = d; name = n; tree = x.tree }) refl
                    (and_left (is_attribute x.tree.kind) (have_equal_results s e.signature) kept),
                results_equal s.arguments e.signature.arguments s.result e.signature.result form
                    (and_right (is_attribute x.tree.kind) (have_equal_results s e.signature) kept),
              );
        }

    -- ---- by its entries

    abbrev ups : Ups
    ups = lines_of u c (clauses c)

    abbrev signed_here : List SignedEntry
    signed_here = signed_entries u c ups n

    abbrev entries_here : List Entry
    entries_here = entries_of n (entries ups)

    parents : (q : ℕ) → is_member q (parent_numbers u c) ≡ true → AreSigned u q
    parents q member = all_signed u order is q

    pairs : Pairs (IsSignedEntry u c n) signed_here entries_here
    pairs = signed_pairs u c n (ready u order is d c at parents)

    of_entries : (P : Entry → Type 0) → AllOf P entries_here → AllOf (λ s. P s.entry) signed_here
    of_entries P h = all_map (λ s. s.entry) P signed_here (subst (AllOf P) (sym pairs.same) h)

    -- a field lasts
    field_lasts : (s : SignedEntry) → IsSignedEntry u c n s → is_field s.entry.feature.origin ≡ true →
        lasts s.entry ≡ true
    field_lasts s w field =
        let b = w.by in
        let stays = all_at (UndefinesNoField u c) (clauses c) b.place w.p (is.features d c at).undefines b.among w.q b.names
        s.entry.feature.name s.entry.feature b.found field in
        and_both (is_effective s.entry.feature.origin) (not (is_undefined s.entry.clause s.entry.final))
        (is_field_effective s.entry.feature.origin field)
        (ap not (ap₂ is_undefined b.clause b.renamed ∙ stays))

    agreed_signatures : (xs : List SignedEntry) (l : SignedEntry) → leading (λ s. s.entry) xs ≡ Some l →
        agree xs ≡ true → AllOf (λ s. l.signature ≡ s.signature) xs
    agreed_signatures [] l e h = tt
    agreed_signatures (x ∷ xs) l e h =
        let all : AllOf (λ s. x.signature ≡ s.signature) (x ∷ xs) = (refl, others xs h) in
        let first = leading_has (λ s. s.entry) (λ s. x.signature ≡ s.signature) (x ∷ xs) l all e in
        all_then (λ s. x.signature ≡ s.signature) (λ s. l.signature ≡ s.signature) (x ∷ xs) (λ s q. sym first ∙ q) all
      where
        others : (xs : List SignedEntry) → list_all (λ y. are_equal x.signature y.signature) xs ≡ true →
            AllOf (λ s. x.signature ≡ s.signature) xs
        others [] h = tt
        others (y ∷ ys) h = (
          equal_is x.signature y.signature (and_left (are_equal x.signature y.signature) _ h),
          others ys (and_right (are_equal x.signature y.signature) _ h),
        )

    abbrev judged_name : Feature → SignedName
    judged_name f = record { feature = f; signature = signature u (line d c ups) n; entries = signed_here }

    module _ (f : Feature) (t : Signature) (g : IsSigned u d f t)
        (joins : f.origin ≡ joined (lasting entries_here))
        (is_signature : signature u (line d c ups) n ≡ Some t) where
      -- it has no version, and the entries agree
      by_agreement : (l : SignedEntry) → leading (λ s. s.entry) signed_here ≡ Some l → t ≡ l.signature →
          is_effective f.origin ≡ false → unequal_join c (judged_name f) ≡ [] → AllOf (Redeclares f t) signed_here
      by_agreement l leads same none h =
          let fault = none_where (not (is_effective f.origin) && not (agree signed_here)) (fault_at c code.Vdjr 1 c.place f.name)
          h in
          let agrees = not_false (agree signed_here)
          (ap (λ b. not b && not (agree signed_here)) (sym none) ∙ fault) in
          let equal = agreed_signatures signed_here l leads agrees in
          let last = of_entries (λ e. lasts e ≡ false)
          (none_lasts entries_here (ap is_effective (sym joins) ∙ none)) in
          let types = signed_types u order is d f t g in
          all_both (λ s. l.signature ≡ s.signature) (λ s. (lasts s.entry ≡ false) × IsSignedEntry u c n s)
          (Redeclares f t) signed_here
          (λ s e w. record {
            stands = stands_equal t s.signature types (same ∙ e);
            field = λ field. absurd (apart (lasts s.entry) (field_lasts s w.1 field) w.0);
          }) equal
          (all_both (λ s. lasts s.entry ≡ false) (IsSignedEntry u c n)
          (λ s. (lasts s.entry ≡ false) × IsSignedEntry u c n s) signed_here (λ s a b. (a, b)) last pairs.all)

      beside_version : (y : Declaration) → f.origin ≡ declared_as y → y ≡ g.declaration → (s : SignedEntry) →
          IsSignedEntry u c n s → (lasts s.entry ≡ false → fits u d t s.signature ≡ true) →
          (lasts s.entry ≡ true → same_origin (declared_as y) s.entry.feature.origin ≡ true) → Redeclares f t s
      beside_version y version same s w other lasting = go (lasts s.entry) refl
        where
          kept : same_origin (declared_as y) s.entry.feature.origin ≡ true → Redeclares f t s
          kept h =
              let k = seen u order is d c at parents n s w in
              let v = same_version u d s.entry.feature.origin y k.declaration h k.version in
              let one : g.declaration ≡ k.declaration =
              one_declaration u d g.declaration k.declaration g.above k.above
              (ap (λ (x : Declaration). x.class_number) (sym same) ∙ v.0)
              (ap (λ (x : Declaration). x.name) (sym same) ∙ v.1) in
              let equal : t ≡ s.signature =
              g.signed ∙ (one_signature u d g.declaration k.declaration g.above k.above one ∙ sym k.signed) in
              record {
                stands = stands_equal t s.signature (signed_types u order is d f t g) equal;
                field = λ field. (
                  ap is_field (version ∙ (ap declared_as (same ∙ one) ∙ sym v.2)) ∙ field,
                  ap (λ (s : Signature). s.result) equal,
                );
              }

          go : (b : Bool) → lasts s.entry ≡ b → Redeclares f t s
          go true e = kept (lasting e)
          go false e = record {
            stands = fit_stands u d t s.signature (other e);
            field = λ field. absurd (apart (lasts s.entry) (field_lasts s w field) e);
          }

      -- it has a version, which fits the other entries
      by_version : is_effective f.origin ≡ true → unfit_version u d c (judged_name f) ≡ [] →
          AllOf (Redeclares f t) signed_here
      by_version effective h = go f.origin refl g.version effective
        where
          fitting : AllOf (λ s. lasts s.entry ≡ false → fits u d t s.signature ≡ true) signed_here
          fitting =
              let fit = option_map_or (fits_others u d signed_here) (signature u (line d c ups) n) true in
              let fault = none_where (is_effective f.origin && not fit) (fault_at c code.Vdrd 6 c.place f.name) h in
              let all = not_false fit (ap (λ b. b && not fit) (sym effective) ∙ fault) in
              of_others (λ e. fits u d t e.signature) signed_here
              (ap (λ o. option_map_or (fits_others u d signed_here) o true) (sym is_signature) ∙ all)

          go : (o : Origin) → f.origin ≡ o → IsVersion o g.declaration → is_effective o ≡ true →
              AllOf (Redeclares f t) signed_here
          go deferred e v h = cc
          go clashing e v h = absurd v
          go (declared_as y) e v h =
              let last = of_entries (λ e. lasts e ≡ true → same_origin (declared_as y) e.feature.origin ≡ true)
              (of_lasting (same_origin (declared_as y)) entries_here
              (all_joined entries_here y (sym joins ∙ e))) in
              all_both (IsSignedEntry u c n)
              (λ s. (lasts s.entry ≡ false → fits u d t s.signature ≡ true)
              × (lasts s.entry ≡ true → same_origin (declared_as y) s.entry.feature.origin ≡ true))
              (Redeclares f t) signed_here (λ s w h. beside_version y e v.0 s w h.0 h.1) pairs.all
              (all_both (λ s. lasts s.entry ≡ false → fits u d t s.signature ≡ true)
              (λ s. lasts s.entry ≡ true → same_origin (declared_as y) s.entry.feature.origin ≡ true)
              (λ s. (lasts s.entry ≡ false → fits u d t s.signature ≡ true)
              × (lasts s.entry ≡ true → same_origin (declared_as y) s.entry.feature.origin ≡ true)) signed_here
              (λ s a b. (a, b)) fitting last)

    -- ---- by either

    judged : (f : Feature) → feature (line_of u d) n ≡ Some f →
        signed_name_faults u d c (signed_name u (line d c ups) f) ≡ []
    judged f found =
        let l = unfolded u order is.hierarchy.ordered d c at in
        let none = sym (ap (join_faults u) l) ∙ (strict.signatures d c at).joins in
        found_has (λ f. signed_name_faults u d c (signed_name u (line d c ups) f) ≡ []) (λ f. bytes_eq f.name n)
        (features (line d c ups)) f
        (all_map (signed_name u (line d c ups)) (λ x. signed_name_faults u d c x ≡ []) (features (line d c ups))
        (none_of_each (signed_name_faults u d c) (signed_names u (line d c ups)) none))
        (sym (ap (λ l. feature l n) l) ∙ found)

    small : (f : Feature) → signed_name_faults u d c (judged_name f) ≡ [] → f.name ≡ n →
        entry_faults u d c (judged_name f) (declaration_here c n) ≡ []
    small f h named = go (has_large_entry signed_here) refl h
      where
        go : (b : Bool) → has_large_entry signed_here ≡ b →
            (if b then large_signature c (judged_name f)
            else entry_faults u d c (judged_name f) (declaration_here c f.name)) ≡ [] →
            entry_faults u d c (judged_name f) (declaration_here c n) ≡ []
        go true e h = absurd (apart (has_large_entry signed_here) e
            (none_where (has_large_entry signed_here) (fault_at c code.Xlim 9 c.place f.name) h))
        go false e h =
            subst (λ n. entry_faults u d c (judged_name f) (declaration_here c n) ≡ []) named h

    pub redeclares : (f : Feature) (t : Signature) → feature (line_of u d) n ≡ Some f →
        signature u (line_of u d) n ≡ Some t → AllOf (Redeclares f t) signed_here
    redeclares f t found signed =
        let l = unfolded u order is.hierarchy.ordered d c at in
        let here = sym (ap (λ l. feature l n) l) ∙ found in
        let there = sym (ap (λ l. signature u l n) l) ∙ signed in
        let m = found_made d c ups n f here in
        let named = found_named d c ups n f here in
        let none = small f (subst (λ k. signed_name_faults u d c (record {
          feature = f;
          signature = signature u (line d c ups) k;
          entries = signed_entries u c ups k;
        }) ≡ []) named (judged f found)) named in
        go (declaration_here c n) refl (declared_tree c n) none m.0 m.1 there
      where
        go : (o : Option DeclaredName) → declaration_here c n ≡ o →
            option_map (λ x. x.tree) (declaration_here c n) ≡ declaration_of c n →
            entry_faults u d c (judged_name f) o ≡ [] → f ≡ made d c ups n →
            is_among (all_names d c ups) n ≡ true → signature u (line d c ups) n ≡ Some t →
            AllOf (Redeclares f t) signed_here
        go (Some x) e tree none m among there =
            let of : declaration_of c n ≡ Some x.tree = sym tree ∙ ap (option_map (λ x. x.tree)) e in
            let same_f : declared_feature (record { class_number = d; name = n; tree = x.tree }) ≡ f =
            sym (m ∙ ap (feature_by d (entries ups) n) of) in
            let s_is : signature u (line d c ups) n ≡ Some (declared_signature u c x.tree) =
            ap (λ o. option_or (option_map (declared_signature u c) o)
            (option_map (λ s. s.signature) (leading (λ s. s.entry) signed_here))) of in
            let same_t : declared_signature u c x.tree ≡ t =
            same_Some (declared_signature u c x.tree) t (sym s_is ∙ there) in
            all_then
            (λ s. redeclaration_faults_by u d c x (declared_signature u c x.tree) s ≡ []) (Redeclares f t) signed_here
            (λ s h. subst (λ f. Redeclares f t s) same_f
            (subst (λ t. Redeclares (declared_feature (record { class_number = d; name = n; tree = x.tree })) t s) same_t
            (by_declaration x s h)))
            (none_of_each (redeclaration_faults_by u d c x (declared_signature u c x.tree)) signed_here none)
        go None e tree none m among there =
            let of : declaration_of c n ≡ None = sym tree ∙ ap (option_map (λ x. x.tree)) e in
            let w = led u order is d c at parents n among of in
            let joins : f.origin ≡ joined (lasting entries_here) =
            ap (λ (f : Feature). f.origin) (m ∙ ap (feature_by d (entries ups) n) of) in
            let s_is : signature u (line d c ups) n ≡ Some w.by.signature =
            ap (λ o. option_or (option_map (declared_signature u c) o)
            (option_map (λ s. s.signature) (leading (λ s. s.entry) signed_here))) of
            ∙ ap (option_map (λ s. s.signature)) w.leads in
            let same_t : t ≡ w.by.signature = same_Some t w.by.signature (sym there ∙ s_is) in
            let a = all_signed u order is d n f found in
            let g = subst (IsSigned u d f) (same_Some a.0 t (sym a.1 ∙ signed)) a.2 in
            by (is_effective f.origin) refl w.by w.leads same_t joins g there none
          where
            by : (b : Bool) → is_effective f.origin ≡ b → (l : SignedEntry) →
                leading (λ s. s.entry) signed_here ≡ Some l → t ≡ l.signature →
                f.origin ≡ joined (lasting entries_here) → IsSigned u d f t →
                signature u (line d c ups) n ≡ Some t →
                unfit_version u d c (judged_name f) ++ unequal_join c (judged_name f) ≡ [] →
                AllOf (Redeclares f t) signed_here
            by true e l leads same joins g there none =
                by_version f t g joins there e
                (none_left (unfit_version u d c (judged_name f)) (unequal_join c (judged_name f)) none)
            by false e l leads same joins g there none =
                by_agreement f t g joins there l leads same e
                (none_right (unfit_version u d c (judged_name f)) (unequal_join c (judged_name f)) none)

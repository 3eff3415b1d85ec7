-- Dynamic binding keeps signatures.
use Rattle.std.proofs.Common.{◌≡◌, ℕ, zero, suc, Bool, true, false, List, [], ◌∷◌, map, Option, Some, None, refl, sym, ap, ap₂, subst, ◌∙◌, ⊎_elim}
use Rattle.std.proofs.lemmas.Bool.{eqb-true}
use Rattle.std.proofs.lemmas.Option.{same_Some}
use Rattle.std.specs.List.{filter_map, cons_option}
use Rattle.std.specs.Option.{option_map}
use Rattle.std.specs.Prelude.{cond, find, slice_get, ◌==◌, if◌then◌else◌}
use Rattle.std.specs.Str.{bytes_eq}
use Rattle.eif_classes.specs.Ancestry.{ancestor}
use Rattle.eif_classes.specs.Binding.{bind, candidates}
use Rattle.eif_classes.specs.Entries.{Declaration, declared_as, Feature, Entry, entry, entries_of}
use Rattle.eif_classes.specs.Features.{features, has_feature, is_field, feature}
use Rattle.eif_classes.specs.Names.{final_name}
use Rattle.eif_classes.specs.Resolution.{own_formals, clause_actuals}
use Rattle.eif_classes.specs.Signatures.{Signature, SignedEntry, with_actuals, signed, signature, signed_entries}
use Rattle.eif_classes.specs.Types.{TyT, Actuals, put_in, put_in_all}
use Rattle.eif_lineage_laws.specs.Lineages.{line_over}
use Rattle.eif_lineage_laws.proofs.Descending.{lines_of, no_line, class_or_none}
use Rattle.eif_lineage_laws.proofs.EachItem.{AllOf, all_left, all_right}
use Rattle.eif_lineage_laws.proofs.Unfolding.{by_parents, Step, parent_class, unfolded}
use Rattle.eif_system.specs.Inheritance.{clauses, parent_number}
use Rattle.eif_system.specs.Lineage.{Line, line_by, line_of}
use Rattle.eif_system.specs.WrittenTypes.{present}
use Rattle.eif_tree.specs.Tree.{ParentT, ClassT}
use Rattle.eif_type_laws.specs.ClassTypes.{AreOf}
use Rattle.eif_type_laws.proofs.Ancestors.{own_is, ancestor_has_class, ancestor_descends, count_is}
use Rattle.eif_type_laws.proofs.Conforming.{transitive, substituted}
use Rattle.eif_type_laws.proofs.Ways.{clause_member}
use Rattle.eif_binding_laws.specs.KeptSignatures.{ResultConforms, StandsFor, Serves, IsBound}
use Rattle.eif_binding_laws.specs.Signatures.{IsTypeOf, IsVersion, IsSigned}
use Rattle.eif_binding_laws.proofs.Bound.{bind_by, bound_by, candidate_is, picked_among, bound_names, names_bound}
use Rattle.eif_binding_laws.proofs.Formed.{version, ancestor_types, signature_types, signed_feature}
use Rattle.eif_binding_laws.proofs.Inherited.{made, has_name_of, found_made, made_is_found}
use Rattle.eif_binding_laws.proofs.Redeclared.{stands_self, Redeclares, redeclares}
use Rattle.eif_binding_laws.proofs.Searches.{bytes_same, same_bytes, apart}
use Rattle.eif_binding_laws.proofs.Settings.{TypesAre, actuals_compose, own_signature, IsSetting, IsSignedSetting}
use Rattle.eif_binding_laws.proofs.Signing.{climbs, all_signed}

-- ---- an entry is among the signed ones

module _ (u : List ClassT) (c : ClassT) (n : List ℕ) (Q : SignedEntry → Type 0) where
  later_all : (o : Option SignedEntry) (xs : List SignedEntry) → AllOf Q (cons_option o xs) → AllOf Q xs
  later_all None xs h = h
  later_all (Some x) xs h = h.1

  abbrev signed_by : ParentT → Line → List Entry → List SignedEntry
  signed_by p l es =
      filter_map (λ e. option_map (signed (clause_actuals u c p) e) (signature u l e.feature.name)) es

  in_clause : (p : ParentT) (l : Line) (m : List ℕ) (f : Feature) (t : Signature) → final_name p m ≡ n →
      signature u l m ≡ Some t → (fs : List Feature) →
      AllOf Q (signed_by p l (entries_of n (map (entry p) fs))) → find (λ g. bytes_eq g.name m) fs ≡ Some f →
      Q (signed (clause_actuals u c p) (entry p f) t)
  in_clause p l m f t final sig [] all found = cc
  in_clause p l m f t final sig (g ∷ fs) all found =
      go (bytes_eq g.name m) (bytes_eq (final_name p g.name) n) refl refl found all
      (λ all found. in_clause p l m f t final sig fs all found)
    where
      head : g.name ≡ m → g ≡ f → AllOf Q (cons_option (option_map (signed (clause_actuals u c p) (entry p g))
          (signature u l g.name)) (signed_by p l (entries_of n (map (entry p) fs)))) →
          Q (signed (clause_actuals u c p) (entry p f) t)
      head named same all =
          subst (λ f. Q (signed (clause_actuals u c p) (entry p f) t)) same
          (subst (λ o. AllOf Q (cons_option (option_map (signed (clause_actuals u c p) (entry p g)) o)
          (signed_by p l (entries_of n (map (entry p) fs))))) (ap (signature u l) named ∙ sig) all).0

      go : (a b : Bool) → bytes_eq g.name m ≡ a → bytes_eq (final_name p g.name) n ≡ b →
          cond a (Some g) (find (λ g. bytes_eq g.name m) fs) ≡ Some f →
          AllOf Q (signed_by p l (cond b (entry p g ∷ entries_of n (map (entry p) fs))
          (entries_of n (map (entry p) fs)))) →
          (AllOf Q (signed_by p l (entries_of n (map (entry p) fs))) →
          find (λ g. bytes_eq g.name m) fs ≡ Some f → Q (signed (clause_actuals u c p) (entry p f) t)) →
          Q (signed (clause_actuals u c p) (entry p f) t)
      go true true a b found all later = head (same_bytes g.name m a) (same_Some g f found) all
      go true false a b found all later = absurd (apart (bytes_eq (final_name p g.name) n)
          (subst (λ k. bytes_eq (final_name p k) n ≡ true) (sym (same_bytes g.name m a))
          (subst (λ k. bytes_eq (final_name p m) k ≡ true) final (bytes_same (final_name p m)))) b)
      go false false a b found all later = later all found
      go false true a b found all later =
          later (later_all (option_map (signed (clause_actuals u c p) (entry p g)) (signature u l g.name)) _ all) found

  pub entry_among : (ps : List ParentT) → AllOf Q (signed_entries u c (lines_of u c ps) n) → (i : ℕ) (p : ParentT) →
      slice_get ps i ≡ Some p → (q : ℕ) → parent_number u c p ≡ Some q → (m : List ℕ) (f : Feature) →
      feature (line_of u q) m ≡ Some f → final_name p m ≡ n → (t : Signature) →
      signature u (line_of u q) m ≡ Some t → Q (signed (clause_actuals u c p) (entry p f) t)
  entry_among [] all i p at q names m f found final t sig = cc
  entry_among (r ∷ ps) all zero p at q names m f found final t sig =
      let e : r ≡ p = same_Some r p at in
      let names_r : parent_number u c r ≡ Some q =
      subst (λ (p : ParentT). parent_number u c p ≡ Some q) (sym e) names in
      let l = line_by (line_of u) (parent_number u c r) in
      let first = all_left Q (signed_by r l (entries_of n (map (entry r) (features l))))
      (signed_entries u c (lines_of u c ps) n) all in
      let here = subst (λ o. AllOf Q (signed_by r (line_by (line_of u) o)
      (entries_of n (map (entry r) (features (line_by (line_of u) o)))))) names_r first in
      subst (λ (p : ParentT). Q (signed (clause_actuals u c p) (entry p f) t)) e
      (in_clause r (line_of u q) m f t (subst (λ (p : ParentT). final_name p m ≡ n) (sym e) final) sig
      (features (line_of u q)) here found)
  entry_among (r ∷ ps) all (suc i) p at q names m f found final t sig =
      let l = line_by (line_of u) (parent_number u c r) in
      entry_among ps
      (all_right Q (signed_by r l (entries_of n (map (entry r) (features l)))) (signed_entries u c (lines_of u c ps) n)
      all) i p at q names m f found final t sig

-- ---- signatures that stand for one another

module _ (u : List ClassT) (order : List ℕ) (strict : IsSignedSetting u order) where
  abbrev is : IsSetting u order
  is = strict.setting

  results_further : (d : ℕ) (a b c : Option TyT) → ResultConforms u d a b → ResultConforms u d b c →
      ResultConforms u d a c
  results_further d None None c h g = g
  results_further d None (Some b) c h g = absurd h
  results_further d (Some a) None c h g = absurd h
  results_further d (Some a) (Some b) None h g = absurd g
  results_further d (Some a) (Some b) (Some c) h g =
      transitive u order is.hierarchy is.defined d a b c h g

  stands_further : (d : ℕ) (r s t : Signature) → StandsFor u d r s → StandsFor u d s t → StandsFor u d r t
  stands_further d r s t h g = record {
    arguments = h.arguments ∙ g.arguments;
    result = results_further d r.result s.result t.result h.result g.result;
  }

  module _ (d : ℕ) (c : ClassT) (at : slice_get u d ≡ Some c) (i : ℕ) (p : ParentT)
      (among : slice_get (clauses c) i ≡ Some p) (q : ℕ) (names : parent_number u c p ≡ Some q) where
    abbrev ca : Actuals
    ca = clause_actuals u c p

    results_put : (a b : Option TyT) → AllOf (IsTypeOf u q) (present a) → AllOf (IsTypeOf u q) (present b) →
        ResultConforms u q a b → ResultConforms u d (option_map (put_in ca) a) (option_map (put_in ca) b)
    results_put None None x y h = tt
    results_put None (Some b) x y h = absurd h
    results_put (Some a) None x y h = absurd h
    results_put (Some a) (Some b) x y h =
        let types = subst (λ n. AreOf u n ca) (sym (count_is u order is.hierarchy d c at))
        (is.hierarchy.parents d c at i p among q names).types in
        substituted u order is.hierarchy is.defined q d ca types (is.clauses d c at i p among q names).meet a b
        x.0.formed y.0.formed h

    stands_put : (s t : Signature) → TypesAre (IsTypeOf u q) s → TypesAre (IsTypeOf u q) t → StandsFor u q s t →
        StandsFor u d (with_actuals ca s) (with_actuals ca t)
    stands_put s t x y h = record {
      arguments = ap (map (put_in ca)) h.arguments;
      result = results_put s.result t.result x.result y.result h.result;
    }

  -- ---- what a name is bound to

  pub found_feature : (d : ℕ) (c : ClassT) → slice_get u d ≡ Some c → (n : List ℕ) →
      has_feature (line_of u d) n ≡ true → (f : Feature) × (feature (line_of u d) n ≡ Some f)
  found_feature d c at n has =
      let l = unfolded u order is.hierarchy.ordered d c at in
      let ups = lines_of u c (clauses c) in
      let among = sym (has_name_of d c ups n) ∙ (sym (ap (λ l. has_feature l n) l) ∙ has) in
      (made d c ups n, ap (λ l. feature l n) l ∙ made_is_found d c ups n among)

  -- the name n has in the class d a signature that stands for s; where m is a field, n is one and has s
  pub record IsKept (d k : ℕ) (m n : List ℕ) (s : Signature) : Type 0 where
    pub here : Feature
    pub found : feature (line_of u d) n ≡ Some here
    pub theirs : Signature
    pub signed : signature u (line_of u d) n ≡ Some theirs
    pub stands : StandsFor u d theirs s
    pub field : (g : Feature) → feature (line_of u k) m ≡ Some g → is_field g.origin ≡ true →
        (is_field here.origin ≡ true) × (theirs.result ≡ s.result)

  abbrev Keep : ℕ → Type 0
  Keep d =
      (k : ℕ) (m n : List ℕ) (xs : Actuals) (s : Signature) → ancestor u d k ≡ Some xs →
      signature u (line_of u k) m ≡ Some s → bind (line_of u d) k m ≡ Some n → IsKept d k m n (with_actuals xs s)

  keep_step : Step u order is.hierarchy.ordered Keep
  keep_step d c at parents k m n xs s gives sig bound =
      go (d == k) refl (sym (bind_by u order is.hierarchy.ordered d c k m at) ∙ bound)
    where
      names : has_feature (line_of u d) n ≡ true
      names = (bound_names u order is.hierarchy.ordered d k m n bound).0

      f : (f : Feature) × (feature (line_of u d) n ≡ Some f)
      f = found_feature d c at n names

      t : (t : Signature) × (signature u (line_of u d) n ≡ Some t) × IsSigned u d f.0 t
      t = all_signed u order is d n f.0 f.1

      -- the class itself
      own_name_is : (b : Bool) → (if b then Some m else None) ≡ Some n → m ≡ n
      own_name_is true h = same_Some m n h
      own_name_is false h = cc

      itself : k ≡ d → m ≡ n → xs ≡ own_formals c → IsKept d k m n (with_actuals xs s)
      itself q e x =
          let here : signature u (line_of u d) n ≡ Some s =
          ap₂ (λ d n. signature u (line_of u d) n) (sym q) (sym e) ∙ sig in
          let types = signature_types u order is d n s here in
          let same : with_actuals xs s ≡ s =
          ap (λ xs. with_actuals xs s) x
          ∙ own_signature u d c s (count_is u order is.hierarchy d c at) types in
          record {
            here = f.0;
            found = f.1;
            theirs = s;
            signed = here;
            stands = subst (StandsFor u d s) (sym same) (stands_self u order strict d s types);
            field = λ g found field.
                let one : f.0 ≡ g = same_Some f.0 g
                (sym f.1 ∙ (ap₂ (λ d n. feature (line_of u d) n) (sym q) (sym e) ∙ found)) in (
                  ap (λ (f : Feature). is_field f.origin) one ∙ field,
                  ap (λ (s : Signature). s.result) (sym same),
                );
          }

      -- by a clause
      inherited : (i : ℕ) (p : ParentT) → slice_get (clauses c) i ≡ Some p → (q : ℕ) →
          parent_number u c p ≡ Some q → (x : List ℕ) → bind (line_of u q) k m ≡ Some x → n ≡ final_name p x →
          IsKept d k m n (with_actuals xs s)
      inherited i p among q number x theirs final =
          let member = clause_member u c (clauses c) i p q among number in
          let parent = parent_class u order is.hierarchy.ordered d q c at member in
          let b = bound_names u order is.hierarchy.ordered q k m x theirs in
          let ys = is.defined q k b.1 in
          let r = parents q member k m x ys.0 s ys.1 sig theirs in
          let ca = clause_actuals u c p in
          let put : put_in_all ca ys.0 ≡ xs = same_Some (put_in_all ca ys.0) xs
          (sym (climbs u order is.hierarchy is.defined d c at i p among q number k ys.0 ys.1) ∙ gives) in
          let whole : with_actuals ca (with_actuals ys.0 s) ≡ with_actuals xs s =
          actuals_compose ys.0 ca s ∙ ap (λ xs. with_actuals xs s) put in
          let k_types = signature_types u order is k m s sig in
          let y_types = ancestor_types u order is q k ys.0 ys.1 s k_types in
          let r_types = signature_types u order is q x r.theirs r.signed in
          let v : Redeclares u order strict d f.0 t.0 (signed ca (entry p r.here) r.theirs) =
          entry_among u c n (Redeclares u order strict d f.0 t.0) (clauses c)
          (redeclares u order strict d c at n f.0 t.0 f.1 t.1) i p among q number x r.here r.found (sym final) r.theirs
          r.signed in
          let up = stands_put d c at i p among q number r.theirs (with_actuals ys.0 s) r_types y_types r.stands in
          record {
            here = f.0;
            found = f.1;
            theirs = t.0;
            signed = t.1;
            stands = stands_further d t.0 (with_actuals ca r.theirs) (with_actuals xs s) v.stands
                (subst (StandsFor u d (with_actuals ca r.theirs)) whole up);
            field = λ g found field.
                let l = r.field g found field in
                let w = v.field l.0 in (
                  w.0,
                  w.1 ∙ (ap (option_map (put_in ca)) l.1 ∙ ap (λ (s : Signature). s.result) whole),
                );
          }

      go : (b : Bool) → (d == k) ≡ b → bound_by u order is.hierarchy.ordered d c k m b ≡ Some n →
          IsKept d k m n (with_actuals xs s)
      go true e h = itself (sym (eqb-true d k e)) (own_name_is (has_feature (line_over u d c) m) h)
          (own_is u order is.hierarchy d k c xs at e gives)
      go false e h =
          let w = candidate_is u c k m (clauses c) n
          (picked_among (clauses c) (candidates (lines_of u c (clauses c)) k m) n h) in
          inherited w.place w.clause w.among w.q w.names w.name w.bound w.final

  pub kept : (d k : ℕ) (m n : List ℕ) (xs : Actuals) (s : Signature) → ancestor u d k ≡ Some xs →
      signature u (line_of u k) m ≡ Some s → bind (line_of u d) k m ≡ Some n → IsKept d k m n (with_actuals xs s)
  kept d k m n xs s gives sig bound =
      let c = ancestor_has_class u order is.hierarchy d k xs gives in
      by_parents u order is.hierarchy.ordered Keep keep_step d c.0 c.1 k m n xs s gives sig bound

  -- ---- the version that serves

  pub has_version : (d : ℕ) (s : Signature) (f : Feature) (t : Signature) → IsSigned u d f t → StandsFor u d t s →
      (y : Declaration) → f.origin ≡ declared_as y → Serves u d y s
  has_version d s f t g stands y e =
      let v : IsVersion (declared_as y) g.declaration =
      subst (λ o. IsVersion o g.declaration) e g.version in
      subst (λ y. Serves u d y s) (sym v.0) record {
        above = g.above;
        written = v.1;
        stands = subst (λ t. StandsFor u d t s) g.signed stands;
      }

  has_name_here : (k : ℕ) (m : List ℕ) (s : Signature) → signature u (line_of u k) m ≡ Some s →
      has_feature (line_of u k) m ≡ true
  has_name_here k m s sig =
      let f = signed_feature u order is k m s sig in
      ⊎_elim
      (λ (c : (c : ClassT) × (slice_get u k ≡ Some c)).
      let l = unfolded u order is.hierarchy.ordered k c.0 c.1 in
      let ups = lines_of u c.0 (clauses c.0) in
      ap (λ l. has_feature l m) l
      ∙ (has_name_of k c.0 ups m ∙ (found_made k c.0 ups m f.0 (sym (ap (λ l. feature l m) l) ∙ f.1)).1))
      (λ (e : slice_get u k ≡ None).
      let z : None ≡ Some s = sym (ap (λ l. signature u l m) (no_line u k e)) ∙ sig in cc)
      (class_or_none u k)

  pub served : (d : ℕ) (c : ClassT) → slice_get u d ≡ Some c → c.is_deferred ≡ false → (k : ℕ) (m : List ℕ)
      (xs : Actuals) (s : Signature) → ancestor u d k ≡ Some xs → signature u (line_of u k) m ≡ Some s →
      IsBound u d k m (with_actuals xs s)
  served d c at effective k m xs s gives sig =
      let b = names_bound u order is.hierarchy.ordered (λ d c at. (is.features d c at).decided) d k m
      (ancestor_descends u order is.hierarchy d k xs gives) (has_name_here k m s sig) in
      let w = kept d k m b.0 xs s gives sig b.1 in
      let v = version u order is d c at effective b.0 w.here w.found in
      let g = signed_feature u order is d b.0 w.theirs w.signed in
      let one : g.0 ≡ w.here = same_Some g.0 w.here (sym g.1 ∙ w.found) in
      record {
        name = b.0;
        bound = b.1;
        version = v.0;
        origin = ap (option_map (λ f. f.origin)) w.found ∙ ap Some v.1;
        serves = has_version d (with_actuals xs s) w.here w.theirs
            (subst (λ f. IsSigned u d f w.theirs) one g.2) w.stands v.0 v.1;
      }

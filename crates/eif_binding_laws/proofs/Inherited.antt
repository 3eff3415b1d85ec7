-- What a class has under a name: by its declaration, or else by its entries.
use Rattle.std.proofs.Common.{◌≡◌, ℕ, zero, suc, Bool, true, false, List, [], ◌∷◌, ◌++◌, map, Option, Some, None, refl, sym, ap, subst, ◌∙◌}
use Rattle.std.proofs.lemmas.Option.{same_Some}
use Rattle.std.specs.Prelude.{slice_get, ◌||◌, if◌then◌else◌}
use Rattle.std.specs.Str.{bytes_eq}
use Rattle.eif_ancestry.proofs.Members.{or_cases, or_left, or_right}
use Rattle.eif_base.specs.Numbering.{is_among}
use Rattle.eif_classes.specs.Entries.{Feature, entry}
use Rattle.eif_classes.specs.Features.{declaration_of, feature_by, features, entries, has_feature, feature}
use Rattle.eif_classes.specs.Names.{name_set, final_name}
use Rattle.eif_lineage_laws.proofs.Descending.{lines_of}
use Rattle.eif_lineage_laws.proofs.EachItem.{AllOf}
use Rattle.eif_system.specs.Inheritance.{parent_number}
use Rattle.eif_system.specs.Lineage.{Line, line, Ups, line_by, line_of}
use Rattle.eif_tree.specs.Members.{declared_names}
use Rattle.eif_tree.specs.Tree.{ParentT, DeclT, ClassT}
use Rattle.eif_binding_laws.proofs.Searches.{bytes_same, same_bytes, among_append, map_append}
use Rattle.eif_binding_laws.proofs.NameSets.{among_set, made_found, made_named}

module _ (d : ℕ) (c : ClassT) (ups : Ups) where
  -- the names that are declared and those that are inherited
  abbrev pub all_names : List (List ℕ)
  all_names = map (λ n. n.name) (declared_names c) ++ map (λ e. e.final) (entries ups)

  -- what the class has under a name of these
  abbrev pub made : List ℕ → Feature
  made n = feature_by d (entries ups) n (declaration_of c n)

  named_by : (n : List ℕ) (o : Option DeclT) → (feature_by d (entries ups) n o).name ≡ n
  named_by n None = refl
  named_by n (Some x) = refl

  pub named : (n : List ℕ) → (made n).name ≡ n
  named n = named_by n (declaration_of c n)

  pub has_name_of : (n : List ℕ) → has_feature (line d c ups) n ≡ is_among all_names n
  has_name_of n =
      ap (λ ns. is_among ns n) (made_named (λ f. f.name) made named (name_set all_names)) ∙ among_set all_names n

  pub inherited_has : (n : List ℕ) → is_among (map (λ e. e.final) (entries ups)) n ≡ true →
      has_feature (line d c ups) n ≡ true
  inherited_has n h =
      has_name_of n
      ∙ (among_append (map (λ n. n.name) (declared_names c)) (map (λ e. e.final) (entries ups)) n
      ∙ or_right (is_among (map (λ n. n.name) (declared_names c)) n) _ h)

  pub feature_is : (n : List ℕ) →
      feature (line d c ups) n ≡ (if is_among all_names n then Some (made n) else None)
  feature_is n = made_found (λ f. f.name) made named (name_set all_names) n
      ∙ ap (λ b. if b then Some (made n) else None) (among_set all_names n)

  -- a feature that is found is what the class has under the name
  pub found_made : (n : List ℕ) (f : Feature) → feature (line d c ups) n ≡ Some f →
      (f ≡ made n) × (is_among all_names n ≡ true)
  found_made n f h = go (is_among all_names n) refl (sym (feature_is n) ∙ h)
    where
      go : (b : Bool) → is_among all_names n ≡ b → (if b then Some (made n) else None) ≡ Some f →
          (f ≡ made n) × (is_among all_names n ≡ true)
      go true e h = (sym (same_Some (made n) f h), e)
      go false e h = cc

  pub made_is_found : (n : List ℕ) → is_among all_names n ≡ true → feature (line d c ups) n ≡ Some (made n)
  made_is_found n h = feature_is n ∙ ap (λ b. if b then Some (made n) else None) h

  -- each feature is found by its name
  all_found : (ns : List (List ℕ)) → ((n : List ℕ) → is_among ns n ≡ true → is_among all_names n ≡ true) →
      AllOf (λ f. feature (line d c ups) f.name ≡ Some f) (map made ns)
  all_found [] h = tt
  all_found (n ∷ ns) h = (
    ap (feature (line d c ups)) (named n) ∙ made_is_found n (h n (or_left _ _ (bytes_same n))),
    all_found ns (λ k m. h k (or_right (bytes_eq k n) _ m)),
  )

  pub each_found : AllOf (λ f. feature (line d c ups) f.name ≡ Some f) (features (line d c ups))
  each_found = all_found (name_set all_names) (λ n m. sym (among_set all_names n) ∙ m)

  pub found_named : (n : List ℕ) (f : Feature) → feature (line d c ups) n ≡ Some f → f.name ≡ n
  found_named n f h = ap (λ (f : Feature). f.name) (found_made n f h).0 ∙ named n

-- ---- names by clauses

-- an entry by the clause has the name
abbrev clause_names : ParentT → Line → List ℕ → Bool
clause_names p l n = is_among (map (λ e. e.final) (map (entry p) (features l))) n

-- the names of a clause's entries are the final names of the parent's
finals_among : (p : ParentT) (fs : List Feature) (m : List ℕ) → is_among (map (λ f. f.name) fs) m ≡ true →
    is_among (map (λ e. e.final) (map (entry p) fs)) (final_name p m) ≡ true
finals_among p [] m h = h
finals_among p (f ∷ fs) m h = or_cases _ (bytes_eq m f.name) (is_among (map (λ f. f.name) fs) m) h
    (λ t. or_left _ _ (subst (λ k. bytes_eq (final_name p m) (final_name p k) ≡ true) (same_bytes m f.name t)
    (bytes_same (final_name p m))))
    (λ t. or_right (bytes_eq (final_name p m) (final_name p f.name)) _ (finals_among p fs m t))

module _ (u : List ClassT) (c : ClassT) where
  pub final_among : (ps : List ParentT) (i : ℕ) (p : ParentT) (q : ℕ) (m : List ℕ) → slice_get ps i ≡ Some p →
      parent_number u c p ≡ Some q → has_feature (line_of u q) m ≡ true →
      is_among (map (λ e. e.final) (entries (lines_of u c ps))) (final_name p m) ≡ true
  final_among [] i p q m at names has = cc
  final_among (r ∷ ps) i p q m at names has =
      let l = line_by (line_of u) (parent_number u c r) in
      ap (λ ns. is_among ns (final_name p m))
      (map_append (λ e. e.final) (map (entry r) (features l)) (entries (lines_of u c ps)))
      ∙ (among_append (map (λ e. e.final) (map (entry r) (features l)))
      (map (λ e. e.final) (entries (lines_of u c ps))) (final_name p m)
      ∙ go i at (λ i at. final_among ps i p q m at names has))
    where
      go : (i : ℕ) → slice_get (r ∷ ps) i ≡ Some p →
          ((i : ℕ) → slice_get ps i ≡ Some p →
          is_among (map (λ e. e.final) (entries (lines_of u c ps))) (final_name p m) ≡ true) →
          (clause_names r (line_by (line_of u) (parent_number u c r)) (final_name p m)
          || is_among (map (λ e. e.final) (entries (lines_of u c ps))) (final_name p m)) ≡ true
      go zero at later =
          let e : r ≡ p = same_Some r p at in
          let names_r : parent_number u c r ≡ Some q =
          subst (λ (p : ParentT). parent_number u c p ≡ Some q) (sym e) names in
          let first = finals_among r (features (line_of u q)) m has in
          or_left _ _
          (ap (λ o. clause_names r (line_by (line_of u) o) (final_name p m)) names_r
          ∙ subst (λ (p : ParentT).
          is_among (map (λ e. e.final) (map (entry r) (features (line_of u q)))) (final_name p m) ≡ true) e first)
      go (suc i) at later = or_right (clause_names r (line_by (line_of u) (parent_number u c r)) (final_name p m)) _ (later i at)

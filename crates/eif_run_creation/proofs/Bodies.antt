-- The bodies that run on an object of a class without a call on another object are what it and its ancestors declare.
use Rattle.std.proofs.Common.{◌≡◌, ℕ, Bool, true, false, inl, inr, List, [], ◌∷◌, ◌++◌, Option, Some, None, refl, sym, ap, subst, ◌∙◌, ⊎_elim}
use Rattle.std.specs.Prelude.{slice_get, cond, find, flat_map, ◌||◌, ◌==◌}
use Rattle.std.specs.List.{cons_option, filter_map}
use Rattle.std.specs.Option.{option_map, option_map_or}
use Rattle.std.specs.Str.{bytes_eq}
use Rattle.std.proofs.lemmas.Bool.{cases_Bool, eqb-true, eqb-false, eq-eqb}
use Rattle.std.proofs.lemmas.List.Folds.{list_any-append}
use Rattle.eif_tree.specs.declared.tree.NameAt.{NameAt}
use Rattle.eif_tree.specs.Members.{has_name, declarations, declared_names}
use Rattle.eif_tree.specs.Tree.{DeclT, ClassT}
use Rattle.eif_system.specs.Graph.{is_member}
use Rattle.eif_system.specs.Lineage.{line_of}
use Rattle.eif_classes.specs.Descent.{class_of, descends, above}
use Rattle.eif_classes.specs.Entries.{Declaration}
use Rattle.eif_classes.specs.Features.{declaration_of}
use Rattle.eif_flow_rules.specs.CallPaths.{IsOneOf}
use Rattle.eif_flow_rules.specs.VersionFlows.{declared_in, declared_above}
use Rattle.eif_ancestry.proofs.Members.{or_cases, or_left, or_right}
use Rattle.eif_lineage_laws.proofs.Descending.{no_line, class_or_none, has_class, descends_reaches, reaches_descends, descends_self, listed_is_above, above_is_listed}
use Rattle.eif_lineage_laws.proofs.Unfolding.{unfolded}
use Rattle.eif_type_laws.specs.ClassTypes.{IsHierarchy, Defined}
use Rattle.eif_type_laws.proofs.Ancestors.{ancestor_descends}
use Rattle.eif_binding_laws.specs.Signatures.{IsDeclaredAbove}
use Rattle.eif_binding_laws.proofs.Searches.{same_bytes}
use Rattle.eif_run_creation.proofs.Callees.{split}

-- ---- what is among some declarations

one_left : (xs ys : List Declaration) (x : Declaration) → IsOneOf xs x → IsOneOf (xs ++ ys) x
one_left [] ys x m = absurd m
one_left (z ∷ zs) ys x m = elim m [ inl e ↦ inl e | inr m ↦ inr (one_left zs ys x m) ]

one_right : (xs ys : List Declaration) (x : Declaration) → IsOneOf ys x → IsOneOf (xs ++ ys) x
one_right [] ys x m = m
one_right (z ∷ zs) ys x m = inr (one_right zs ys x m)

one_later : (o : Option Declaration) (xs : List Declaration) (x : Declaration) → IsOneOf xs x
    → IsOneOf (cons_option o xs) x
one_later None xs x m = m
one_later (Some y) xs x m = inr m

-- of some classes
module _ (f : ℕ → List Declaration) (x : Declaration) where
  of_classes : (ks : List ℕ) → IsOneOf (flat_map f ks) x
      → (k : ℕ) × (is_member k ks ≡ true) × IsOneOf (f k) x
  of_classes [] m = absurd m
  of_classes (j ∷ ks) m =
      elim (split (f j) (flat_map f ks) x m) [
        | inl l ↦ (j, or_left (j == j) (is_member j ks) (eq-eqb j j refl), l)
        | inr r ↦ (let s = of_classes ks r in (s.0, or_right (j == s.0) (is_member s.0 ks) s.1, s.2))
      ]

  in_classes : (ks : List ℕ) (k : ℕ) → is_member k ks ≡ true → IsOneOf (f k) x → IsOneOf (flat_map f ks) x
  in_classes [] k m h = cc
  in_classes (j ∷ ks) k m h =
      or_cases _ (j == k) (is_member k ks) m
      (λ t. one_left (f j) (flat_map f ks) x
      (subst (λ (k : ℕ). IsOneOf (f k) x) (sym (eqb-true j k t)) h))
      (λ t. one_right (f j) (flat_map f ks) x (in_classes ks k t h))

-- ---- what a class declares

-- the declaration x is the first of its name in the class c, which has the number k
abbrev pub IsDeclaredBy : ℕ → ClassT → Declaration → Type 0
IsDeclaredBy k c x = (x.class_number ≡ k) × (declaration_of c x.name ≡ Some x.tree)

module _ (k : ℕ) (c : ClassT) where
  abbrev declared_as_named : NameAt → Option Declaration
  declared_as_named n =
      option_map (λ x. record { class_number = k; name = n.name; tree = x }) (declaration_of c n.name)

  declared_among : (ns : List NameAt) (x : Declaration) → IsOneOf (filter_map declared_as_named ns) x
      → IsDeclaredBy k c x
  declared_among [] x m = absurd m
  declared_among (n ∷ ns) x m = by (declaration_of c n.name) refl m (declared_among ns x)
    where
      by : (o : Option DeclT) → declaration_of c n.name ≡ o
          → IsOneOf (cons_option (option_map (λ (t : DeclT). record { class_number = k; name = n.name; tree = t }) o)
          (filter_map declared_as_named ns)) x
          → (IsOneOf (filter_map declared_as_named ns) x → IsDeclaredBy k c x) → IsDeclaredBy k c x
      by None e m later = later m
      by (Some t) e m later =
          elim m [
            | inl q ↦ subst (IsDeclaredBy k c) q (refl, e)
            | inr m ↦ later m
          ]

  among_declared : (ns : List NameAt) (x : Declaration) → IsDeclaredBy k c x → has_name ns x.name ≡ true
      → IsOneOf (filter_map declared_as_named ns) x
  among_declared [] x is h = cc
  among_declared (n ∷ ns) x is h =
      or_cases _ (bytes_eq n.name x.name) (has_name ns x.name) h
      (λ t. subst (λ o. IsOneOf (cons_option o (filter_map declared_as_named ns)) x) (sym (found t)) (inl refl))
      (λ t. one_later (declared_as_named n) (filter_map declared_as_named ns) x (among_declared ns x is t))
    where
      of : ℕ → List ℕ → DeclT → Declaration
      of j m t = record { class_number = j; name = m; tree = t }

      found : bytes_eq n.name x.name ≡ true → declared_as_named n ≡ Some x
      found t =
          let e = same_bytes n.name x.name t in
          ap (λ (m : List ℕ). option_map (λ (t : DeclT). record { class_number = k; name = m; tree = t })
          (declaration_of c m)) e
          ∙ (ap (option_map (λ (t : DeclT). record { class_number = k; name = x.name; tree = t })) is.1
          ∙ ap (λ (j : ℕ). Some (record { class_number = j; name = x.name; tree = x.tree })) (sym is.0))

  -- what is found by a name stands among the declared names
  name_found : (n : List ℕ) (ts : List DeclT) (t : DeclT) → find (λ x. has_name x.names n) ts ≡ Some t
      → has_name (flat_map (λ x. x.names) ts) n ≡ true
  name_found n [] t e = cc
  name_found n (x ∷ ts) t e =
      list_any-append (λ (m : NameAt). bytes_eq m.name n) x.names (flat_map (λ x. x.names) ts)
      ∙ by (has_name x.names n) e (name_found n ts t)
    where
      by : (b : Bool) → cond b (Some x) (find (λ x. has_name x.names n) ts) ≡ Some t
          → (find (λ x. has_name x.names n) ts ≡ Some t → has_name (flat_map (λ x. x.names) ts) n ≡ true)
          → (b || has_name (flat_map (λ x. x.names) ts) n) ≡ true
      by true e later = refl
      by false e later = later e

  is_declared_in : (x : Declaration) → IsDeclaredBy k c x → IsOneOf (declared_in k c) x
  is_declared_in x is =
      among_declared (declared_names c) x is (name_found x.name (declarations c) x.tree is.1)

-- ---- a class and its ancestors

module _ (u : List ClassT) (order : List ℕ) (is : IsHierarchy u order) (defined : Defined u) where
  module _ (d : ℕ) (c : ClassT) (at : slice_get u d ≡ Some c) where
    abbrev classes : List ℕ
    classes = cons_option (class_of (line_of u d)) (above (line_of u d))

    own_first : classes ≡ d ∷ above (line_of u d)
    own_first = ap (λ o. cons_option o (above (line_of u d))) (ap class_of (unfolded u order is.ordered d c at))

    class_descends : (k : ℕ) → is_member k classes ≡ true → descends (line_of u d) k ≡ true
    class_descends k m =
        or_cases _ (d == k) (is_member k (above (line_of u d))) (sym (ap (is_member k) own_first) ∙ m)
        (λ t. subst (λ (k : ℕ). descends (line_of u d) k ≡ true) (eqb-true d k t)
        (descends_self u order is.ordered d c at))
        (λ t. reaches_descends u order is.ordered d k c at (listed_is_above u order is.ordered d k c at t).above)

    is_class : (k : ℕ) → descends (line_of u d) k ≡ true → is_member k classes ≡ true
    is_class k h =
        ap (is_member k) own_first
        ∙ elim (cases_Bool (d == k)) [
          | inl t ↦ or_left (d == k) (is_member k (above (line_of u d))) t
          | inr f ↦ or_right (d == k) (is_member k (above (line_of u d)))
              (above_is_listed u order is.ordered d k c at
              record { other = eqb-false d k f; above = descends_reaches u order is.ordered d k h })
        ]

  abbrev of_number : ℕ → List Declaration
  of_number k = option_map_or (declared_in k) (slice_get u k) []

  -- one of the bodies above is a declaration above
  pub is_above : (d : ℕ) (x : Declaration) → IsOneOf (declared_above u (line_of u d)) x → IsDeclaredAbove u d x
  is_above d x m = ⊎_elim
      (λ (c : (c : ClassT) × (slice_get u d ≡ Some c)).
      let s = of_classes of_number x (classes d c.0 c.1) m in
      by s.0 (class_descends d c.0 c.1 s.0 s.1) (slice_get u s.0) refl s.2)
      (λ (e : slice_get u d ≡ None).
      absurd (subst (λ l. IsOneOf (declared_above u l) x) (no_line u d e) m))
      (class_or_none u d)
    where
      by : (k : ℕ) → descends (line_of u d) k ≡ true → (o : Option ClassT) → slice_get u k ≡ o
          → IsOneOf (option_map_or (declared_in k) o []) x → IsDeclaredAbove u d x
      by k down None e m = absurd m
      by k down (Some c) e m =
          let w = declared_among k c (declared_names c) x m in
          let n = sym w.0 in
          let xs = defined d x.class_number
          (subst (λ (k : ℕ). descends (line_of u d) k ≡ true) n down) in
          record {
            class = c;
            at = subst (λ (k : ℕ). slice_get u k ≡ Some c) n e;
            declares = w.1;
            actuals = xs.0;
            gives = xs.1;
          }

  -- and the other way round
  pub above_is : (d : ℕ) (x : Declaration) → IsDeclaredAbove u d x → IsOneOf (declared_above u (line_of u d)) x
  above_is d x w =
      let down = ancestor_descends u order is d x.class_number w.actuals w.gives in
      let c = has_class u d x.class_number down in
      in_classes of_number x (classes d c.0 c.1) x.class_number (is_class d c.0 c.1 x.class_number down)
      (subst (λ o. IsOneOf (option_map_or (declared_in x.class_number) o []) x) (sym w.at)
      (is_declared_in x.class_number w.class x (refl, w.declares)))

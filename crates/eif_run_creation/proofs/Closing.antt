-- What a body calls on its own object is declared by the class of the object or by an ancestor.
use Rattle.std.proofs.Common.{◌≡◌, ℕ, Bool, true, false, inl, inr, List, [], ◌∷◌, map, Option, Some, None, refl, sym, ap, subst, ◌∙◌, ⊎_elim}
use Rattle.std.specs.Prelude.{slice_get, cond, if◌then◌else◌}
use Rattle.std.specs.List.{filter}
use Rattle.std.specs.Option.{option_map, option_map_or}
use Rattle.std.proofs.lemmas.Option.{same_Some}
use Rattle.eif_base.specs.declared.place.Place.{Place}
use Rattle.eif_tree.specs.Members.{body_of}
use Rattle.eif_tree.specs.Tree.{ClassT}
use Rattle.eif_system.specs.Graph.{is_member}
use Rattle.eif_system.specs.Inheritance.{clauses, parent_numbers}
use Rattle.eif_system.specs.Lineage.{line_of}
use Rattle.eif_classes.specs.Ancestry.{ancestor}
use Rattle.eif_classes.specs.Binding.{bind}
use Rattle.eif_classes.specs.Entries.{Declaration, Origin, deferred, declared_as, clashing, Feature, Entry, entries_of}
use Rattle.eif_classes.specs.Features.{is_attribute, is_field, feature, origin, entries_in}
use Rattle.eif_classes.specs.Precursors.{is_precursor, single, precursor}
use Rattle.eif_classes.specs.Signatures.{SignedEntry, signed_entries}
use Rattle.eif_classes.specs.Types.{Actuals}
use Rattle.eif_flow_rules.specs.CallPaths.{IsOneOf, IsClosed}
use Rattle.eif_flow_rules.specs.FlowTrees.{idle, reads, sets, calls, callees}
use Rattle.eif_flow_rules.specs.VersionFlows.{entity_names, body_in, call_of, use_of, setting_of, precursor_origin, meanings_in, version_flow, declared_above}
use Rattle.eif_lineage_laws.proofs.Descending.{lines_of, no_line, class_or_none, descends_further}
use Rattle.eif_lineage_laws.proofs.EachItem.{AllOf}
use Rattle.eif_lineage_laws.proofs.Unfolding.{unfolded}
use Rattle.eif_type_laws.proofs.Ancestors.{ancestor_descends}
use Rattle.eif_binding_laws.specs.Signatures.{IsDeclaredAbove, IsVersion}
use Rattle.eif_binding_laws.proofs.Settings.{IsSetting}
use Rattle.eif_binding_laws.proofs.Signing.{IsSignedEntry, signed_pairs, all_signed, ready, seen}
use Rattle.eif_run_creation.proofs.Callees.{Calls, Mean, of_compound}
use Rattle.eif_run_creation.proofs.Bodies.{is_above, above_is}

-- Q of what is made of each item, where P of the item gives it
all_of_map : {A B : Type 0} (f : A → B) (P : A → Type 0) (Q : B → Type 0) (xs : List A)
    → ((x : A) → P x → Q (f x)) → AllOf P xs → AllOf Q (map f xs)
all_of_map f P Q [] g h = tt
all_of_map f P Q (x ∷ xs) g h = (g x h.0, all_of_map f P Q xs g h.1)

all_filtered : {A : Type 0} (P : A → Type 0) (keep : A → Bool) (xs : List A) → AllOf P xs → AllOf P (filter keep xs)
all_filtered P keep [] h = tt
all_filtered {A} P keep (x ∷ xs) h = by (keep x) (all_filtered P keep xs h.1)
  where
    by : (b : Bool) → AllOf P (filter keep xs) → AllOf P (cond b (x ∷ filter keep xs) (filter keep xs))
    by true rest = (h.0, rest)
    by false rest = rest

single_has : {A : Type 0} (P : A → Type 0) (xs : List A) (x : A) → AllOf P xs → single xs ≡ Some x → P x
single_has P [] x h e = cc
single_has P (y ∷ []) x h e = subst P (same_Some y x e) h.0
single_has P (y ∷ z ∷ zs) x h e = cc

module _ (P : Declaration → Type 0) (p : Place) where
  -- the body of a version
  of_version : (o : Origin) → ((y : Declaration) → o ≡ declared_as y → P y)
      → Calls P (option_map_or (calls p) (body_in o) idle)
  of_version deferred h y m = absurd m
  of_version clashing h y m = absurd m
  of_version (declared_as x) h y m = by (is_attribute x.tree.kind) m
    where
      by : (b : Bool) → IsOneOf (callees (option_map_or (calls p) (if b then None else Some x) idle)) y → P y
      by true m = absurd m
      by false m = elim m [ inl e ↦ h y (ap declared_as e) | inr n ↦ absurd n ]

  of_call : (o : Option Origin) → ((y : Declaration) → o ≡ Some (declared_as y) → P y) → Calls P (call_of p o)
  of_call None h y m = absurd m
  of_call (Some o) h y m = of_version o (λ x e. h x (ap Some e)) y m

module _ (u : List ClassT) (order : List ℕ) (is : IsSetting u order) where
  -- what a version stands for is declared above
  above_by : (d : ℕ) (f : Feature) (x : Declaration) → IsDeclaredAbove u d x → IsVersion f.origin x
      → (y : Declaration) → f.origin ≡ declared_as y → IsDeclaredAbove u d y
  above_by d f x w v y e =
      let same = (subst (λ o. IsVersion o x) e v).0 in subst (IsDeclaredAbove u d) (sym same) w

  pub origin_above : (d : ℕ) (n : List ℕ) (y : Declaration) → origin (line_of u d) n ≡ Some (declared_as y)
      → IsDeclaredAbove u d y
  origin_above d n y e = by (feature (line_of u d) n) refl e
    where
      by : (o : Option Feature) → feature (line_of u d) n ≡ o
          → option_map (λ (f : Feature). f.origin) o ≡ Some (declared_as y) → IsDeclaredAbove u d y
      by None f e = cc
      by (Some f) g e =
          let s = (all_signed u order is d n f g).2 in
          above_by d f s.declaration s.above s.version y (same_Some f.origin (declared_as y) e)

  -- and what is above an ancestor is above the class
  above_further : (d k : ℕ) (xs : Actuals) → ancestor u d k ≡ Some xs → (y : Declaration) → IsDeclaredAbove u k y
      → IsDeclaredAbove u d y
  above_further d k xs gives y w =
      let h = is.hierarchy in
      let down = descends_further u order h.ordered d k y.class_number (ancestor_descends u order h d k xs gives)
      (ancestor_descends u order h k y.class_number w.actuals w.gives) in
      let ys = is.defined d y.class_number down in
      record { class = w.class; at = w.at; declares = w.declares; actuals = ys.0; gives = ys.1 }

  -- ---- Precursor

  abbrev StandsAbove : ℕ → Entry → Type 0
  StandsAbove k e = (y : Declaration) → e.feature.origin ≡ declared_as y → IsDeclaredAbove u k y

  entries_above : (k : ℕ) (c : ClassT) → slice_get u k ≡ Some c → (n : List ℕ)
      → AllOf (StandsAbove k) (entries_of n (entries_in (line_of u k)))
  entries_above k c at n =
      let parents = λ (q : ℕ) (m : is_member q (parent_numbers u c) ≡ true). all_signed u order is q in
      let pairs = signed_pairs u c n (ready u order is k c at parents) in
      let l = unfolded u order is.hierarchy.ordered k c at in
      subst (λ l. AllOf (StandsAbove k) (entries_of n (entries_in l))) (sym l)
      (subst (AllOf (StandsAbove k)) pairs.same
      (all_of_map (λ (s : SignedEntry). s.entry) (IsSignedEntry u c n) (StandsAbove k)
      (signed_entries u c (lines_of u c (clauses c)) n)
      (λ s w. let g = seen u order is k c at parents n s w in
      above_by k s.entry.feature g.declaration g.above g.version)
      pairs.all))

  precursor_above : (x : Declaration) (parent : Option (List ℕ)) (y : Declaration)
      → precursor_origin u x parent ≡ Some (declared_as y) → IsDeclaredAbove u x.class_number y
  precursor_above x parent y h = ⊎_elim
      (λ (c : (c : ClassT) × (slice_get u x.class_number ≡ Some c)).
      let es = entries_of x.name (entries_in (line_of u x.class_number)) in
      by (precursor (λ e. e) parent es)
      (λ e p. single_has (StandsAbove x.class_number) (filter (λ e. is_precursor parent e) es) e
      (all_filtered (StandsAbove x.class_number) (λ e. is_precursor parent e) es
      (entries_above x.class_number c.0 c.1 x.name)) p) h)
      (λ (e : slice_get u x.class_number ≡ None).
      let z : None ≡ Some (declared_as y) =
      sym (ap (λ l. option_map (λ (e : Entry). e.feature.origin)
      (precursor (λ e. e) parent (entries_of x.name (entries_in l)))) (no_line u x.class_number e)) ∙ h in
      cc)
      (class_or_none u x.class_number)
    where
      by : (o : Option Entry) → ((e : Entry) → o ≡ Some e → StandsAbove x.class_number e)
          → option_map (λ (e : Entry). e.feature.origin) o ≡ Some (declared_as y)
          → IsDeclaredAbove u x.class_number y
      by None f h = cc
      by (Some e) f h = f e refl y (same_Some e.feature.origin (declared_as y) h)

  -- ---- bodies

  module _ (d : ℕ) (x : Declaration) (above : IsDeclaredAbove u d x) where
    abbrev IsOurs : Declaration → Type 0
    IsOurs y = IsDeclaredAbove u d y

    used_above : (p : Place) (o : Option (List ℕ)) → Calls IsOurs (option_map_or (use_of (line_of u d) p) o idle)
    used_above p None y m = absurd m
    used_above p (Some n) y m = by (option_map_or is_field (origin (line_of u d) n) false) y m
      where
        by : (b : Bool) → Calls IsOurs (if b then reads p n else call_of p (origin (line_of u d) n))
        by true y m = absurd m
        by false y m = of_call IsOurs p (origin (line_of u d) n) (λ y e. origin_above d n y e) y m

    assigned_above : (o : Option (List ℕ)) → Calls IsOurs (option_map_or (setting_of (line_of u d)) o idle)
    assigned_above None y m = absurd m
    assigned_above (Some n) y m = by (option_map_or is_field (origin (line_of u d) n) false) y m
      where
        by : (b : Bool) → Calls IsOurs (if b then sets n else idle)
        by true y m = absurd m
        by false y m = absurd m

    mean : Mean IsOurs (meanings_in u (line_of u d) x)
    mean = record {
      used = λ p n. used_above p (bind (line_of u d) x.class_number n);
      assigned = λ n. assigned_above (bind (line_of u d) x.class_number n);
      version = λ p parent. of_call IsOurs p (precursor_origin u x parent)
          (λ y e. above_further d x.class_number above.actuals above.gives y (precursor_above x parent y e));
    }

    calls_above : Calls IsOurs (version_flow u (line_of u d) x)
    calls_above =
        of_compound IsOurs (meanings_in u (line_of u d) x) mean (entity_names x.tree) (body_of x.tree.kind)

  pub closed : (d : ℕ) → IsClosed (version_flow u (line_of u d)) (declared_above u (line_of u d))
  closed d x y m c =
      above_is u order is.hierarchy is.defined d y
      (calls_above d x (is_above u order is.hierarchy is.defined d x m) y c)

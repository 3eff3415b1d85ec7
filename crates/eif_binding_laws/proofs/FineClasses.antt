-- What it says of a class that it breaks no rule of features, and none of signatures.
use Rattle.std.proofs.Common.{◌≡◌, ℕ, ◌+◌, Bool, true, false, List, [], ◌∷◌, ◌++◌, length, map, take, Option, Some, None, refl, sym, ap, subst, ◌∙◌, arith}
use Rattle.std.proofs.lemmas.Bool.{eqb-true, eq-eqb}
use Rattle.std.proofs.lemmas.Option.{same_Some}
use Rattle.std.specs.List.{flat_map, enumerate_from, list_all, cons_option}
use Rattle.std.specs.Option.{option_map}
use Rattle.std.specs.Prelude.{slice_get, cond, find, ◌&&◌, ◌==◌, if◌then◌else◌, nat_lt}
use Rattle.std.specs.Str.{bytes_eq}
use Rattle.eif_ancestry.proofs.Members.{or_cases, or_left, or_right, is_false, place_of}
use Rattle.eif_base.specs.declared.code.Code.TheVariants as code
use Rattle.eif_base.specs.declared.fault.Fault.{Fault}
use Rattle.eif_base.specs.declared.root.Root.{Root}
use Rattle.eif_base.specs.Appends.{In}
use Rattle.eif_base.specs.Numbering.{is_among}
use Rattle.eif_classes.specs.Binding.{bind, candidates}
use Rattle.eif_classes.specs.Descent.{descends, any_descends, above}
use Rattle.eif_classes.specs.Entries.{Feature, Origin, declared_as, deferred, clashing}
use Rattle.eif_classes.specs.Features.{is_field, entries, features, has_feature, names, feature}
use Rattle.eif_classes.specs.Names.{final_name, is_undefined}
use Rattle.eif_feature_rules.specs.ClauseRules.{fault_at_name, each_listed, unknown_undefine, repeated_undefine, attribute_undefine, deferred_undefine, undefine_faults, clause_faults, rename_faults, renamed_names, export_faults, exported_names, repeated_all, exported_alls, redefine_faults, select_faults}
use Rattle.eif_feature_rules.specs.CreatorRules.{creator_faults, root_procedure_faults, creation_faults}
use Rattle.eif_feature_rules.specs.DeclarationRules.{declaration_faults}
use Rattle.eif_feature_rules.specs.FeaturePhases.{own_feature_faults, is_clean, feature_faults, signature_faults, each_given}
use Rattle.eif_feature_rules.specs.FeatureRules.{undeclared_redefine, adaptation_faults, origin_faults, many_names, many_ancestor_names, count_names, name_faults}
use Rattle.eif_feature_rules.specs.JoinRules.{join_faults}
use Rattle.eif_feature_rules.specs.ParentFeatures.{attribute_feature, routine_feature, ParentFeature, is_attribute_feature, parent_state, parent_feature, parent_features, final_names, has_entry}
use Rattle.eif_feature_rules.specs.ReplicationRules.{replication_faults}
use Rattle.eif_feature_rules.specs.RuleForms.{first_broken, with_earlier, each_clause}
use Rattle.eif_feature_rules.specs.SelectionRules.{choices, clause_selection_faults, is_undecided, least, undecided_version, selection_faults}
use Rattle.eif_lineage_laws.specs.Lineages.{line_over}
use Rattle.eif_lineage_laws.proofs.Descending.{lines_of, descending_parent, descends_by, reaches_descends, listed_is_above}
use Rattle.eif_lineage_laws.proofs.EachItem.{AllOf, all_at, all_then, all_map, all_flat, all_numbered, all_numbers}
use Rattle.eif_lineage_laws.proofs.KernelClasses.{OfKernel, of_each, given_at, integer_class, boolean_class}
use Rattle.eif_lineage_laws.proofs.NoFaults.{none_left, none_right, none_of_each, none_where, none_in}
use Rattle.eif_lineage_laws.proofs.Unfolding.{by_parents, Step, parent_class, unfolded}
use Rattle.eif_lineage_laws.proofs.WholeClasses.{has_order}
use Rattle.eif_rules.specs.FaultForms.{IsNone, fault_at}
use Rattle.eif_system.specs.Graph.{is_member, IsOrder}
use Rattle.eif_system.specs.Inheritance.{any_clause, clauses, parent_number, parent_numbers, graph_of}
use Rattle.eif_system.specs.Kernel.{kernel, kernel_count, any_class, character_class, string_class, array_class}
use Rattle.eif_system.specs.Lineage.{Line, line, Ups, top, up, line_by, line_of}
use Rattle.eif_system.specs.Universe.{universe}
use Rattle.eif_tree.specs.declared.tree.NameAt.{NameAt}
use Rattle.eif_tree.specs.Members.{has_name}
use Rattle.eif_tree.specs.Tree.{ParentT, ClassT}
use Rattle.eif_type_laws.proofs.SameTypes.{and_both}
use Rattle.eif_binding_laws.specs.WellFormed.{IsDerived, IsWellFormed}
use Rattle.eif_binding_laws.proofs.Searches.{bytes_same, same_bytes, apart}

-- ---- the facts

-- the clause undefines no field of its class
abbrev pub UndefinesNoField : List ClassT → ClassT → ParentT → Type 0
UndefinesNoField u c p =
    (q : ℕ) → parent_number u c p ≡ Some q → (m : List ℕ) (f : Feature) → feature (line_of u q) m ≡ Some f →
    is_field f.origin ≡ true → is_undefined p (final_name p m) ≡ false

-- l is the line of the class, which breaks no rule of features
pub record HasFineFeatures (u : List ClassT) (c : ClassT) (l : Line) : Type 0 where
  -- no ancestor's feature has several candidates of which not one is selected
  pub decided : (k : ℕ) (m : List ℕ) → is_member k (above l) ≡ true →
      has_feature (line_of u k) m ≡ true → is_undecided (clauses c) (candidates (lines_of u c (clauses c)) k m) ≡ false
  pub origins : AllOf (λ f. origin_faults c f ≡ []) (features l)
  pub undefines : AllOf (UndefinesNoField u c) (clauses c)

-- it breaks no rule of signatures
pub record HasFineSignatures (u : List ClassT) (c : ClassT) (l : Line) : Type 0 where
  pub joins : join_faults u l ≡ []
  pub creators : creator_faults u c l ≡ []

-- ---- clauses

pub none_of_first : (xs : List Fault) → first_broken xs ≡ [] → xs ≡ []
none_of_first [] h = refl
none_of_first (x ∷ xs) h = cc

module _ (u : List ClassT) (c : ClassT) where
  -- of each clause and the line of its class
  pub none_of_clauses : (judge : ParentT → Line → List Fault) (ps : List ParentT) →
      each_clause judge (lines_of u c ps) ≡ [] →
      AllOf (λ p. judge p (line_by (line_of u) (parent_number u c p)) ≡ []) ps
  none_of_clauses judge [] h = tt
  none_of_clauses judge (p ∷ ps) h = (
    none_left (judge p (line_by (line_of u) (parent_number u c p))) (each_clause judge (lines_of u c ps)) h,
    none_of_clauses judge ps
        (none_right (judge p (line_by (line_of u) (parent_number u c p))) (each_clause judge (lines_of u c ps)) h),
  )

-- no listed name has a fault, whatever stands before it
pub none_listed : (P : NameAt → Type 0) (judge : List NameAt → NameAt → List Fault) (ns : List NameAt) →
    ((earlier : List NameAt) (n : NameAt) → judge earlier n ≡ [] → P n) → each_listed judge ns ≡ [] → AllOf P ns
none_listed P judge ns f h =
    all_numbered P 0 ns
    (all_then (λ x. judge (take x.0 ns) x.1 ≡ []) (λ x. P x.1) (enumerate_from 0 ns) (λ x e. f (take x.0 ns) x.1 e)
    (all_map (λ x. (take x.0 ns, x.1)) (λ x. judge x.0 x.1 ≡ []) (enumerate_from 0 ns)
    (none_of_each (λ x. judge x.0 x.1) (with_earlier ns) h)))

module _ (class : List ℕ) (p : ParentT) (l : Line) where
  abbrev fs : List ParentFeature
  fs = parent_features l

  undefines_none : clause_faults class p fs ≡ [] →
      AllOf (λ n. has_entry is_attribute_feature p fs n.name ≡ false) p.undefines
  undefines_none h =
      let renames = each_listed (rename_faults class fs) (renamed_names p) in
      let exports = each_listed (export_faults class p fs) (exported_names p) in
      let alls = flat_map (λ x. repeated_all class x.0 x.1) (with_earlier (exported_alls p)) in
      let undefines = each_listed (undefine_faults class p fs) p.undefines in
      let redefines = each_listed (redefine_faults class p fs) p.redefines in
      let selects = each_listed (select_faults class p fs) p.selects in
      let none : undefines ≡ [] =
      none_right (renames ++ exports ++ alls) undefines
      (none_left (renames ++ exports ++ alls ++ undefines) redefines
      (none_left (renames ++ exports ++ alls ++ undefines ++ redefines) selects h)) in
      none_listed (λ n. has_entry is_attribute_feature p fs n.name ≡ false) (undefine_faults class p fs) p.undefines
      judged none
    where
      judged : (earlier : List NameAt) (n : NameAt) → undefine_faults class p fs earlier n ≡ [] →
          has_entry is_attribute_feature p fs n.name ≡ false
      judged earlier n e =
          let unknown = unknown_undefine class p fs n in
          let repeated = repeated_undefine class earlier n in
          let field = attribute_undefine class p fs n in
          none_where (has_entry is_attribute_feature p fs n.name) (fault_at_name class code.Vdus 3 n)
          (none_right (unknown ++ repeated) field
          (none_left (unknown ++ repeated ++ field) (deferred_undefine class p fs n) (none_of_first _ e)))

  field_state : (o : Origin) → is_field o ≡ true → is_attribute_feature (parent_state o) ≡ true
  field_state deferred h = cc
  field_state clashing h = cc
  field_state (declared_as x) h = ap (λ b. is_attribute_feature (if b then attribute_feature else routine_feature)) h

  -- a field of the clause's class is an entry that is an attribute
  field_entry : (gs : List Feature) (m : List ℕ) (f : Feature) → find (λ g. bytes_eq g.name m) gs ≡ Some f →
      is_field f.origin ≡ true →
      has_entry is_attribute_feature p (map parent_feature gs) (final_name p m) ≡ true
  field_entry [] m f e h = cc
  field_entry (g ∷ gs) m f e h = go (bytes_eq g.name m) refl e (λ e. field_entry gs m f e h)
    where
      go : (b : Bool) → bytes_eq g.name m ≡ b → cond b (Some g) (find (λ g. bytes_eq g.name m) gs) ≡ Some f →
          (find (λ g. bytes_eq g.name m) gs ≡ Some f →
          has_entry is_attribute_feature p (map parent_feature gs) (final_name p m) ≡ true) →
          has_entry is_attribute_feature p (map parent_feature (g ∷ gs)) (final_name p m) ≡ true
      go true t e later =
          or_left _ (has_entry is_attribute_feature p (map parent_feature gs) (final_name p m))
          (and_both (bytes_eq (final_name p g.name) (final_name p m)) (is_attribute_feature (parent_state g.origin))
          (subst (λ k. bytes_eq (final_name p g.name) (final_name p k) ≡ true) (same_bytes g.name m t)
          (bytes_same (final_name p g.name)))
          (field_state g.origin (subst (λ (f : Feature). is_field f.origin ≡ true) (sym (same_Some g f e)) h)))
      go false t e later =
          or_right (bytes_eq (final_name p g.name) (final_name p m) && is_attribute_feature (parent_state g.origin)) _
          (later e)

  not_listed : (n : List ℕ) (ns : List NameAt) → AllOf (λ x. has_entry is_attribute_feature p fs x.name ≡ false) ns →
      has_entry is_attribute_feature p fs n ≡ true → has_name ns n ≡ false
  not_listed n [] all h = refl
  not_listed n (x ∷ ns) all h = is_false _ (λ t. or_cases ⊥ (bytes_eq x.name n) (has_name ns n) t
      (λ e. apart (has_entry is_attribute_feature p fs x.name)
      (subst (λ k. has_entry is_attribute_feature p fs k ≡ true) (sym (same_bytes x.name n e)) h) all.0)
      (λ e. apart (has_name ns n) e (not_listed n ns all.1 h)))

  pub field_stays : clause_faults class p fs ≡ [] → (m : List ℕ) (f : Feature) → feature l m ≡ Some f →
      is_field f.origin ≡ true → is_undefined p (final_name p m) ≡ false
  field_stays none m f found h =
      not_listed (final_name p m) p.undefines (undefines_none none) (field_entry (features l) m f found h)

-- ---- candidates

-- one clause makes no choice
one_clause : (ps : List ParentT) (o : Option (List ℕ)) → is_undecided ps (cons_option o []) ≡ false
one_clause ps None = refl
one_clause ps (Some n) = refl

among_all : (P : List ℕ → Type 0) (ns : List (List ℕ)) (n : List ℕ) → AllOf P ns → is_among ns n ≡ true → P n
among_all P [] n all h = cc
among_all P (m ∷ ns) n all h = or_cases _ (bytes_eq n m) (is_among ns n) h
    (λ t. subst P (sym (same_bytes n m t)) all.0) (λ t. among_all P ns n all.1 t)

module _ (u : List ClassT) (c : ClassT) (ups : Ups) (ancestors : List ℕ) where
  pub decided_by : flat_map (undecided_version c) (choices u ups ancestors) ≡ [] → (k : ℕ) (m : List ℕ) →
      is_member k ancestors ≡ true → has_feature (line_of u k) m ≡ true →
      is_undecided (clauses c) (candidates ups k m) ≡ false
  decided_by h k m member has =
      let each = none_of_each (undecided_version c) (choices u ups ancestors) h in
      let i = place_of ancestors k member in
      let here = all_at (λ k. AllOf (λ ns. undecided_version c ns ≡ [])
      (map (candidates ups k) (names (line_of u k)))) ancestors i.0 k
      (all_flat (λ k. map (candidates ups k) (names (line_of u k))) (λ ns. undecided_version c ns ≡ []) ancestors each)
      i.1 in
      none_where (is_undecided (clauses c) (candidates ups k m))
      (fault_at c code.Vmrc 1 c.place (least (candidates ups k m)))
      (among_all (λ m. undecided_version c (candidates ups k m) ≡ []) (names (line_of u k)) m
      (all_map (candidates ups k) (λ ns. undecided_version c ns ≡ []) (names (line_of u k)) here) has)

-- ---- a class that breaks no rule

module _ (u : List ClassT) (d : ℕ) (c : ClassT) where
  features_by : own_feature_faults u (line_over u d c) ≡ [] → HasFineFeatures u c (line_over u d c)
  features_by h =
      let ups = lines_of u c (clauses c) in
      let l = line_over u d c in
      let adaptations = each_clause (adaptation_faults c) ups in
      let declarations = declaration_faults u c (entries ups) in
      let names = name_faults u c (features l) (above l) in
      let selections = selection_faults u c ups (above l) in
      let h1 = none_left (adaptations ++ declarations ++ names ++ selections) (replication_faults u c l (above l)) h in
      let selected : selections ≡ [] = none_right (adaptations ++ declarations ++ names) selections h1 in
      let h2 = none_left (adaptations ++ declarations ++ names) selections h1 in
      let named : names ≡ [] = none_right (adaptations ++ declarations) names h2 in
      let adapted : adaptations ≡ [] =
      none_left adaptations declarations (none_left (adaptations ++ declarations) names h2) in
      let origins = flat_map (origin_faults c) (features l) in
      let many = many_names c (length (features l)) in
      record {
        decided = decided_by u c ups (above l)
            (none_right (each_clause (clause_selection_faults c (choices u ups (above l))) ups)
            (flat_map (undecided_version c) (choices u ups (above l))) selected);
        origins = none_of_each (origin_faults c) (features l)
            (none_left origins many
            (none_left (origins ++ many) (many_ancestor_names c (map (count_names u) (above l))) named));
        undefines = all_then
            (λ p. adaptation_faults c p (line_by (line_of u) (parent_number u c p)) ≡ [])
            (UndefinesNoField u c) (clauses c)
            (λ p none q number m f found field. field_stays c.name p (line_of u q)
            (subst (λ o. clause_faults c.name p (parent_features (line_by (line_of u) o)) ≡ []) number
            (none_left (clause_faults c.name p (parent_features (line_by (line_of u) (parent_number u c p))))
            (each_listed (undeclared_redefine c (final_names p
            (parent_features (line_by (line_of u) (parent_number u c p))))) p.redefines) none))
            m f found field)
            (none_of_clauses u c (adaptation_faults c) (clauses c) adapted);
      }

  signatures_by : (root : Root) → signature_faults u root (line_over u d c) ≡ [] →
      HasFineSignatures u c (line_over u d c)
  signatures_by root h =
      let l = line_over u d c in
      record {
        joins = none_left (join_faults u l) (creation_faults u root l) h;
        creators = none_left (creator_faults u c l) (root_procedure_faults u root d c l)
            (none_right (join_faults u l) (creation_faults u root l) h);
      }

-- ---- the kernel's classes

module _ (given : List ClassT) where
  abbrev u : List ClassT
  u = universe given

  pub any_at : slice_get u 0 ≡ Some any_class
  unfolding kernel
  any_at = refl

  abbrev over_any : ℕ → ClassT → Line → Line
  over_any d c l = line d c (up any_clause l top)

  module _ (first : line_of u 0 ≡ line 0 any_class top) where
    kernel_origins : OfKernel (λ d c. flat_map (origin_faults c) (features (line_over u d c)) ≡ [])
    unfolding kernel
    kernel_origins = record {
      any = refl;
      integer = subst (λ l. flat_map (origin_faults integer_class) (features (over_any 1 integer_class l)) ≡ [])
          (sym first) refl;
      boolean = subst (λ l. flat_map (origin_faults boolean_class) (features (over_any 2 boolean_class l)) ≡ [])
          (sym first) refl;
      character = subst (λ l. flat_map (origin_faults character_class) (features (over_any 3 character_class l)) ≡ [])
          (sym first) refl;
      string = subst (λ l. flat_map (origin_faults string_class) (features (over_any 4 string_class l)) ≡ [])
          (sym first) refl;
      array = subst (λ l. flat_map (origin_faults array_class) (features (over_any 5 array_class l)) ≡ [])
          (sym first) refl;
    }

    kernel_joins : OfKernel (λ d c. join_faults u (line_over u d c) ≡ [])
    unfolding kernel
    kernel_joins = record {
      any = refl;
      integer = subst (λ l. join_faults u (over_any 1 integer_class l) ≡ []) (sym first) refl;
      boolean = subst (λ l. join_faults u (over_any 2 boolean_class l) ≡ []) (sym first) refl;
      character = subst (λ l. join_faults u (over_any 3 character_class l) ≡ []) (sym first) refl;
      string = subst (λ l. join_faults u (over_any 4 string_class l) ≡ []) (sym first) refl;
      array = subst (λ l. join_faults u (over_any 5 array_class l) ≡ []) (sym first) refl;
    }

    kernel_creators : OfKernel (λ d c. creator_faults u c (line_over u d c) ≡ [])
    unfolding kernel
    kernel_creators = record {
      any = refl;
      integer = subst (λ l. creator_faults u integer_class (over_any 1 integer_class l) ≡ []) (sym first) refl;
      boolean = subst (λ l. creator_faults u boolean_class (over_any 2 boolean_class l) ≡ []) (sym first) refl;
      character = subst (λ l. creator_faults u character_class (over_any 3 character_class l) ≡ []) (sym first) refl;
      string = subst (λ l. creator_faults u string_class (over_any 4 string_class l) ≡ []) (sym first) refl;
      array = subst (λ l. creator_faults u array_class (over_any 5 array_class l) ≡ []) (sym first) refl;
    }

  kernel_undefines : OfKernel (λ d c. AllOf (UndefinesNoField u c) (clauses c))
  kernel_undefines =
      record {
        any = tt;
        integer = (none integer_class, tt);
        boolean = (none boolean_class, tt);
        character = (none character_class, tt);
        string = (none string_class, tt);
        array = (none array_class, tt);
      }
    where
      none : (c : ClassT) → UndefinesNoField u c any_clause
      none c q number m f found field = refl

  abbrev AreDecided : ClassT → Type 0
  AreDecided c = (k : ℕ) (m : List ℕ) → is_undecided (clauses c) (candidates (lines_of u c (clauses c)) k m) ≡ false

  kernel_decided : OfKernel (λ d c. AreDecided c)
  kernel_decided = record {
    any = λ k m. refl;
    integer = λ k m. by_any integer_class k m;
    boolean = λ k m. by_any boolean_class k m;
    character = λ k m. by_any character_class k m;
    string = λ k m. by_any string_class k m;
    array = λ k m. by_any array_class k m;
  }
    where
      by_any : (c : ClassT) (k : ℕ) (m : List ℕ) →
          is_undecided (any_clause ∷ []) (candidates (lines_of u c (any_clause ∷ [])) k m) ≡ false
      by_any c k m = one_clause (any_clause ∷ [])
          (option_map (final_name any_clause) (bind (line_by (line_of u) (parent_number u c any_clause)) k m))

-- ---- all classes

module _ (given : List ClassT) (root : Root) (is : IsDerived given root) where
  abbrev classes : List ClassT
  classes = universe given

  order : (order : List ℕ) × IsOrder (graph_of classes) order
  order = has_order given root is.universe

  unfolds : (d : ℕ) (c : ClassT) → slice_get classes d ≡ Some c → line_of classes d ≡ line_over classes d c
  unfolds d c at = unfolded classes order.0 order.1 d c at

  judged : (judge : List ClassT → Line → List Fault) → IsNone (In (each_given judge given)) → (i : ℕ) (c : ClassT) →
      slice_get given i ≡ Some c → judge classes (line_of classes (kernel_count + i)) ≡ []
  judged judge never i c at =
      let each = none_of_each (λ (x : ℕ × ClassT). judge classes (line_of classes (kernel_count + x.0)))
      (enumerate_from 0 given) (none_in (each_given judge given) never) in
      let here = all_numbers (λ n. judge classes (line_of classes (kernel_count + n)) ≡ []) 0 given i c each at in
      subst (λ n. judge classes (line_of classes (kernel_count + n)) ≡ []) (omega arith) here

  -- ---- no class has a fault of its features

  abbrev AreClean : ℕ → Type 0
  AreClean d = (k : ℕ) → descends (line_of classes d) k ≡ true → is_clean classes k ≡ true

  all_pass : (test : ℕ → Bool) (ks : List ℕ) → ((k : ℕ) → is_member k ks ≡ true → test k ≡ true) →
      list_all test ks ≡ true
  all_pass test [] h = refl
  all_pass test (k ∷ ks) h = and_both (test k) (list_all test ks) (h k (or_left _ _ (eq-eqb k k refl)))
      (all_pass test ks (λ j m. h j (or_right (k == j) _ m)))

  ancestors_clean : (d : ℕ) (c : ClassT) → slice_get classes d ≡ Some c →
      ((q : ℕ) → is_member q (parent_numbers classes c) ≡ true → AreClean q) →
      list_all (is_clean classes) (above (line_of classes d)) ≡ true
  ancestors_clean d c at parents = all_pass (is_clean classes) (above (line_of classes d)) (λ k m.
      let a = listed_is_above classes order.0 order.1 d k c at m in
      let down = sym (descends_by classes order.0 order.1 d k c at)
      ∙ reaches_descends classes order.0 order.1 d k c at a.above in
      or_cases (is_clean classes k ≡ true) (d == k) (any_descends (lines_of classes c (clauses c)) k) down
      (λ t. absurd (a.other (eqb-true d k t)))
      (λ t. let q = descending_parent classes c k (clauses c) t in parents q.0 q.1 k q.2))

  own_none : (i : ℕ) (c : ClassT) → slice_get given i ≡ Some c →
      list_all (is_clean classes) (above (line_of classes (kernel_count + i))) ≡ true →
      own_feature_faults classes (line_of classes (kernel_count + i)) ≡ []
  own_none i c at clean =
      ap (λ b. if b then own_feature_faults classes (line_of classes (kernel_count + i)) else []) (sym clean)
      ∙ judged feature_faults is.features i c at

  clean_over : (d : ℕ) (c : ClassT) → slice_get classes d ≡ Some c →
      list_all (is_clean classes) (above (line_of classes d)) ≡ true → is_clean classes d ≡ true
  clean_over = of_each given
      (λ d c. list_all (is_clean classes) (above (line_of classes d)) ≡ true → is_clean classes d ≡ true)
      record {
        any = λ h. refl;
        integer = λ h. refl;
        boolean = λ h. refl;
        character = λ h. refl;
        string = λ h. refl;
        array = λ h. refl;
      }
      (λ i c at h. or_right (nat_lt (kernel_count + i) kernel_count) _ (ap (λ xs. length xs == 0) (own_none i c at h)))

  clean_step : Step classes order.0 order.1 AreClean
  clean_step d c at parents k h =
      or_cases (is_clean classes k ≡ true) (d == k) (any_descends (lines_of classes c (clauses c)) k)
      (sym (descends_by classes order.0 order.1 d k c at) ∙ h)
      (λ t. subst (λ k. is_clean classes k ≡ true) (eqb-true d k t)
      (clean_over d c at (ancestors_clean d c at parents)))
      (λ t. let q = descending_parent classes c k (clauses c) t in parents q.0 q.1 k q.2)

  all_clean : (d : ℕ) (c : ClassT) → slice_get classes d ≡ Some c →
      list_all (is_clean classes) (above (line_of classes d)) ≡ true
  all_clean d c at = ancestors_clean d c at (λ q m.
      let p = parent_class classes order.0 order.1 d q c at m in
      by_parents classes order.0 order.1 AreClean clean_step q p.0 p.1)

  -- ---- the features of each class are fine

  abbrev AreFine : ℕ → ClassT → Type 0
  AreFine d c = HasFineFeatures classes c (line_over classes d c)

  given_features : (i : ℕ) (c : ClassT) → slice_get given i ≡ Some c → AreFine (kernel_count + i) c
  given_features i c at =
      let there = given_at given i c at in
      let l = unfolds (kernel_count + i) c there in
      features_by classes (kernel_count + i) c
      (sym (ap (own_feature_faults classes) l) ∙ own_none i c at (all_clean (kernel_count + i) c there))

  kernel_features : OfKernel AreFine
  kernel_features =
      let o = kernel_origins given (unfolds 0 any_class (any_at given)) in
      let n = kernel_undefines given in
      let k = kernel_decided given in
      record {
        any = are_fine 0 any_class o.any n.any k.any;
        integer = are_fine 1 integer_class o.integer n.integer k.integer;
        boolean = are_fine 2 boolean_class o.boolean n.boolean k.boolean;
        character = are_fine 3 character_class o.character n.character k.character;
        string = are_fine 4 string_class o.string n.string k.string;
        array = are_fine 5 array_class o.array n.array k.array;
      }
    where
      are_fine : (d : ℕ) (c : ClassT) → flat_map (origin_faults c) (features (line_over classes d c)) ≡ [] →
          AllOf (UndefinesNoField classes c) (clauses c) →
          ((k : ℕ) (m : List ℕ) →
          is_undecided (clauses c) (candidates (lines_of classes c (clauses c)) k m) ≡ false) →
          AreFine d c
      are_fine d c o n k = record {
        decided = λ a m member has. k a m;
        origins = none_of_each (origin_faults c) (features (line_over classes d c)) o;
        undefines = n;
      }

  pub fine_features : (d : ℕ) (c : ClassT) → slice_get classes d ≡ Some c →
      HasFineFeatures classes c (line_of classes d)
  fine_features d c at =
      subst (HasFineFeatures classes c) (sym (unfolds d c at))
      (of_each given AreFine kernel_features given_features d c at)

-- ---- and the signatures

module _ (given : List ClassT) (root : Root) (is : IsWellFormed given root) where
  abbrev AreSigned : ℕ → ClassT → Type 0
  AreSigned d c = HasFineSignatures (universe given) c (line_over (universe given) d c)

  unbroken : (i : ℕ) (c : ClassT) → slice_get given i ≡ Some c →
      signature_faults (universe given) root (line_over (universe given) (kernel_count + i) c) ≡ []
  unbroken i c at =
      let l = unfolds given root is.derived (kernel_count + i) c (given_at given i c at) in
      sym (ap (signature_faults (universe given) root) l)
      ∙ judged given root is.derived (λ u l. signature_faults u root l) is.signatures i c at

  given_signatures : (i : ℕ) (c : ClassT) → slice_get given i ≡ Some c → AreSigned (kernel_count + i) c
  given_signatures i c at = signatures_by (universe given) (kernel_count + i) c root (unbroken i c at)

  -- the root procedure, where the class is the root class
  pub fine_root : (i : ℕ) (c : ClassT) → slice_get given i ≡ Some c →
      root_procedure_faults (universe given) root (kernel_count + i) c
      (line_over (universe given) (kernel_count + i) c) ≡ []
  fine_root i c at =
      let l = line_over (universe given) (kernel_count + i) c in
      let root_faults = root_procedure_faults (universe given) root (kernel_count + i) c l in
      none_right (creator_faults (universe given) c l) root_faults
      (none_right (join_faults (universe given) l) (creation_faults (universe given) root l) (unbroken i c at))

  kernel_signatures : OfKernel AreSigned
  kernel_signatures =
      let first = unfolds given root is.derived 0 any_class (any_at given) in
      let j = kernel_joins given first in
      let r = kernel_creators given first in
      record {
        any = record { joins = j.any; creators = r.any };
        integer = record { joins = j.integer; creators = r.integer };
        boolean = record { joins = j.boolean; creators = r.boolean };
        character = record { joins = j.character; creators = r.character };
        string = record { joins = j.string; creators = r.string };
        array = record { joins = j.array; creators = r.array };
      }

  pub fine_signatures : (d : ℕ) (c : ClassT) → slice_get (universe given) d ≡ Some c →
      HasFineSignatures (universe given) c (line_of (universe given) d)
  fine_signatures d c at =
      subst (HasFineSignatures (universe given) c) (sym (unfolds given root is.derived d c at))
      (of_each given AreSigned kernel_signatures given_signatures d c at)

-- What the classes of a universe are, where none of its rules is broken.
use Rattle.std.proofs.Common.{◌≡◌, ℕ, suc, ◌+◌, Bool, true, false, inl, inr, List, [], ◌∷◌, ◌++◌, length, take, Option, Some, None, refl, sym, ap, subst, ◌∙◌, arith}
use Rattle.std.proofs.lemmas.Bool.{eqb-true}
use Rattle.std.proofs.lemmas.Option.{same_Some}
use Rattle.std.proofs.lemmas.Slice.Eq.{bytes_eq-Decides}
use Rattle.std.specs.Bool.{MatchBool}
use Rattle.std.specs.List.{list_any, enumerate_from, flat_map}
use Rattle.std.specs.Option.{option_map_or}
use Rattle.std.specs.Prelude.{slice_get, not, ◌&&◌, ◌||◌, ◌==◌, if◌then◌else◌, is_some, is_none}
use Rattle.std.specs.Str.{bytes_eq}
use Rattle.eif_base.specs.declared.code.Code.TheVariants as code
use Rattle.eif_base.specs.declared.fault.Fault.{Fault}
use Rattle.eif_base.specs.declared.root.Root.{Root}
use Rattle.eif_rules.specs.FaultForms.{IsNone, fault_at, fault_in}
use Rattle.eif_rules.specs.UniverseRules.{unknown_class, formal_count, wrong_count, wrong_mark, nested_type_faults, long_type, written_type_faults, formal_names_class, repeated_formal, formal_in_constraint, numbered_formal_faults, formal_parent, kernel_parent, parent_faults, many_parents, many_formals, text_faults, OwnBroken, repeated_class, ClassBroken, UniverseBroken}
use Rattle.eif_system.specs.Graph.{is_member, Climbs, Reaches, HasNoCycle, IsOrder}
use Rattle.eif_system.specs.Inheritance.{clauses, any_clause, parent_number, graph_of}
use Rattle.eif_system.specs.Kernel.{any_name, any_class, kernel_count, character_class, string_class, array_class}
use Rattle.eif_system.specs.Universe.{universe, class_number, is_formal}
use Rattle.eif_system.specs.WrittenTypes.{Written, written, written_types, present, nested, actuals, type_name, type_name_place}
use Rattle.eif_tree.specs.Tree.{TypeT, FormalT, ParentT, ClassT}
use Rattle.eif_lineage_laws.specs.Universes.{NamesClass, IsNamed}
use Rattle.eif_lineage_laws.proofs.KernelClasses.{integer_class, boolean_class, of_each, given_at, any_first, any_parents, kernel_names, kernel_types, any_parent, NameClasses, kernel_parents, NameNoFormal, kernel_constraints}
use Rattle.eif_lineage_laws.proofs.EachItem.{AllOf, all_at, all_from, all_then, all_left, all_numbered}
use Rattle.eif_lineage_laws.proofs.NoFaults.{none_left, none_right, none_of_each, none_where, none_in}
use Rattle.eif_lineage_laws.proofs.Ordering.{order_exists}
use Rattle.eif_lineage_laws.proofs.Written.{each_clause, nested_first, among_parents}
use Rattle.eif_lineage_laws.proofs.Numbers.{first_number_is, parent_by, graph_closed}

not_true : (b : Bool) → not b ≡ false → b ≡ true
not_true true h = refl
not_true false h = cc

-- ---- types that break no rule

module _ (u : List ClassT) (c : ClassT) where
  named_by : (t : TypeT) (b : Bool) (o : Option ℕ) → is_formal c (type_name t) ≡ b → class_number u (type_name t) ≡ o →
      (not b && is_none o) ≡ false →
      (if b then not (length (actuals t) == 0)
      else option_map_or (λ k. not (length (actuals t) == formal_count u k)) o false) ≡ false →
      IsNamed u c t
  named_by t true o formal number known counted =
      inl (record { formal = formal; none = eqb-true (length (actuals t)) 0 (not_true _ counted) })
  named_by t false (Some k) formal number known counted =
      inr (
        k,
        record {
          no_formal = formal;
          number = number;
          count = eqb-true (length (actuals t)) (formal_count u k) (not_true _ counted);
        },
      )
  named_by t false None formal number known counted = cc

  pub named : (feature : List ℕ) (t : TypeT) → nested_type_faults u c feature t ≡ [] → IsNamed u c t
  named feature t h =
      let both = none_left (unknown_class u c feature t ++ wrong_count u c feature t) (wrong_mark c feature t) h in
      named_by t (is_formal c (type_name t)) (class_number u (type_name t)) refl refl
      (none_where _ (fault_in c feature code.Vtct 1 (type_name_place t) (type_name t))
      (none_left (unknown_class u c feature t) (wrong_count u c feature t) both))
      (none_where _ (fault_in c feature code.Xgen 1 (type_name_place t) (type_name t))
      (none_right (unknown_class u c feature t) (wrong_count u c feature t) both))

  abbrev pub AreNamed : Written → Type 0
  AreNamed w = AllOf (IsNamed u c) (nested w.type_tree)

  pub all_named : flat_map (written_type_faults u c) (written_types c) ≡ [] → AllOf AreNamed (written_types c)
  all_named h =
      all_then (λ w. written_type_faults u c w ≡ []) AreNamed (written_types c)
      (λ w e. all_then (λ t. nested_type_faults u c w.feature t ≡ []) (IsNamed u c) (nested w.type_tree)
      (λ t. named w.feature t)
      (none_of_each (nested_type_faults u c w.feature) (nested w.type_tree)
      (none_left (flat_map (nested_type_faults u c w.feature) (nested w.type_tree)) (long_type c w) e)))
      (none_of_each (written_type_faults u c) (written_types c) h)

  -- ---- a class that breaks no rule by its text

  module _ (none : text_faults u c ≡ []) where
    abbrev types : List Fault
    types = flat_map (written_type_faults u c) (written_types c)

    abbrev formals : List Fault
    formals = flat_map (numbered_formal_faults u c) (enumerate_from 0 c.formals)

    abbrev parents : List Fault
    parents = flat_map (parent_faults u c) c.parents

    -- but for its size
    of_text : types ++ formals ++ parents ≡ []
    of_text =
        none_left (types ++ formals ++ parents) (many_parents c)
        (none_left (types ++ formals ++ parents ++ many_parents c) (many_formals c) none)

    no_type : types ≡ []
    no_type = none_left types formals (none_left (types ++ formals) parents of_text)

    no_formal : AllOf (λ x. numbered_formal_faults u c x ≡ []) (enumerate_from 0 c.formals)
    no_formal =
        none_of_each (numbered_formal_faults u c) (enumerate_from 0 c.formals)
        (none_right types formals (none_left (types ++ formals) parents of_text))

    no_parent : AllOf (λ p. parent_faults u c p ≡ []) c.parents
    no_parent = none_of_each (parent_faults u c) c.parents (none_right (types ++ formals) parents of_text)

    pub names_no_formal : NameNoFormal c
    names_no_formal =
        all_numbered (λ f. AllOf (λ s. is_formal c (type_name s) ≡ false) (flat_map nested (present f.constraint)))
        0 c.formals
        (all_then (λ x. numbered_formal_faults u c x ≡ [])
        (λ x. AllOf (λ s. is_formal c (type_name s) ≡ false) (flat_map nested (present x.1.constraint)))
        (enumerate_from 0 c.formals) constraint no_formal)
      where
        constraint : (x : ℕ × FormalT) → numbered_formal_faults u c x ≡ [] →
            AllOf (λ s. is_formal c (type_name s) ≡ false) (flat_map nested (present x.1.constraint))
        constraint x e =
            let a = formal_names_class u c x.1 in
            let b = repeated_formal c (take x.0 c.formals) x.1 in
            let d = flat_map (formal_in_constraint c) (flat_map nested (present x.1.constraint)) in
            all_then (λ s. formal_in_constraint c s ≡ []) (λ s. is_formal c (type_name s) ≡ false)
            (flat_map nested (present x.1.constraint))
            (λ s. none_where _ (fault_at c code.Vcfg 3 (type_name_place s) (type_name s)))
            (none_of_each (formal_in_constraint c) (flat_map nested (present x.1.constraint))
            (none_right (a ++ b) d e))

    -- no formal has the name of a class
    pub class_no_formal : (n : List ℕ) (k : ℕ) → class_number u n ≡ Some k → is_formal c n ≡ false
    class_no_formal n k number = go c.formals (all_numbered (λ f. is_some (class_number u f.name) ≡ false) 0 c.formals
        (all_then (λ x. numbered_formal_faults u c x ≡ []) (λ x. is_some (class_number u x.1.name) ≡ false)
        (enumerate_from 0 c.formals) unnamed no_formal))
      where
        unnamed : (x : ℕ × FormalT) → numbered_formal_faults u c x ≡ [] → is_some (class_number u x.1.name) ≡ false
        unnamed x e =
            let a = formal_names_class u c x.1 in
            let b = repeated_formal c (take x.0 c.formals) x.1 in
            let d = flat_map (formal_in_constraint c) (flat_map nested (present x.1.constraint)) in
            none_where _ (fault_at c code.Vcfg 1 x.1.place x.1.name) (none_left a b (none_left (a ++ b) d e))

        go : (fs : List FormalT) → AllOf (λ f. is_some (class_number u f.name) ≡ false) fs →
            list_any (λ f. bytes_eq f.name n) fs ≡ false
        go [] h = refl
        go (f ∷ fs) h = here (bytes_eq f.name n) refl (go fs h.1)
          where
            here : (b : Bool) → bytes_eq f.name n ≡ b → list_any (λ f. bytes_eq f.name n) fs ≡ false →
                (b || list_any (λ f. bytes_eq f.name n) fs) ≡ false
            here true t r =
                let same = (bytes_eq-Decides f.name n).0 t in
                let z : true ≡ false = sym (ap is_some (ap (class_number u) same ∙ number)) ∙ h.0 in
                cc
            here false t r = r

    pub written_parents : AllOf (λ p. (k : ℕ) × NamesClass u c p.parent k) c.parents
    written_parents = go c.parents named_parents no_parent
      where
        named_parents : AllOf (λ p. IsNamed u c p.parent) c.parents
        named_parents =
            all_then (λ p. AreNamed (written [] p.parent)) (λ p. IsNamed u c p.parent) c.parents
            (λ p. nested_first (IsNamed u c) p.parent) (among_parents c AreNamed (all_named no_type))

        go : (ps : List ParentT) → AllOf (λ p. IsNamed u c p.parent) ps → AllOf (λ p. parent_faults u c p ≡ []) ps →
            AllOf (λ p. (k : ℕ) × NamesClass u c p.parent k) ps
        go [] h g = tt
        go (p ∷ ps) h g = (here h.0, go ps h.1 g.1)
          where
            here : IsNamed u c p.parent → (k : ℕ) × NamesClass u c p.parent k
            here (inr k) = k
            here (inl f) =
                let e = none_where _ (fault_at c code.Vtct 2 (type_name_place p.parent) (type_name p.parent))
                (none_left (formal_parent c p) (kernel_parent u c p) g.0) in
                let z : true ≡ false = sym f.formal ∙ e in
                cc

-- ---- the universe

module _ (given : List ClassT) (root : Root) (never : IsNone (UniverseBroken given root)) where
  abbrev u : List ClassT
  u = universe given

  -- no earlier class has the name of a given one, which is not broken by itself
  pub record IsFine (i : ℕ) (c : ClassT) : Type 0 where
    pub first : class_number (take (kernel_count + i) u) c.name ≡ None
    pub own : (f : Fault) → OwnBroken u (kernel_count + i) c f → ⊥

  pub fine : (i : ℕ) (c : ClassT) → slice_get given i ≡ Some c → IsFine i c
  fine i c at = go (class_number (take (kernel_count + i) u) c.name) refl
    where
      broken : (f : Fault) → ClassBroken u (kernel_count + i) c f → ⊥
      broken f b = never f (inl (record { i = i; x = c; at = at; judged = b }))

      go : (o : Option ℕ) → class_number (take (kernel_count + i) u) c.name ≡ o → IsFine i c
      go (Some k) e = absurd (broken (repeated_class c)
          (subst (λ b. MatchBool b (repeated_class c ≡ repeated_class c)
          (OwnBroken u (kernel_count + i) c (repeated_class c))) (sym (ap is_some e)) refl))
      go None e = record {
        first = e;
        own = λ f own. broken f (subst (λ b. MatchBool b (f ≡ repeated_class c) (OwnBroken u (kernel_count + i) c f))
            (sym (ap is_some e)) own);
      }

  no_text_fault : (i : ℕ) (c : ClassT) → slice_get given i ≡ Some c → text_faults u c ≡ []
  no_text_fault i c at = none_in (text_faults u c) (λ f m. (fine i c at).own f (inl m))

  -- ---- names

  pub name_denotes : (d : ℕ) (c : ClassT) → slice_get u d ≡ Some c → class_number u c.name ≡ Some d
  name_denotes = of_each given (λ d c. class_number u c.name ≡ Some d) (kernel_names given) (λ i c at.
      first_number_is u (kernel_count + i) c (fine i c at).first (given_at given i c at))

  -- ---- types, parents, constraints

  pub types_named : (d : ℕ) (c : ClassT) → slice_get u d ≡ Some c → AllOf (AreNamed u c) (written_types c)
  types_named d c at = all_named u c (of_each given (λ d c. flat_map (written_type_faults u c) (written_types c) ≡ [])
      (kernel_types given) (λ i c at. no_type u c (no_text_fault i c at)) d c at)

  -- where ANY is the parent
  pub any_named : (d : ℕ) (c : ClassT) → slice_get u d ≡ Some c → NamesClass u c any_clause.parent 0
  any_named = of_each given (λ d c. NamesClass u c any_clause.parent 0) record {
    any = any_parent given any_class refl;
    integer = any_parent given integer_class refl;
    boolean = any_parent given boolean_class refl;
    character = any_parent given character_class refl;
    string = any_parent given string_class refl;
    array = any_parent given array_class refl;
  } (λ i c at. any_parent given c (class_no_formal u c (no_text_fault i c at) any_name 0 (any_first given)))

  pub parents_named : (d : ℕ) (c : ClassT) → slice_get u d ≡ Some c → NameClasses given c
  parents_named = of_each given (λ d c. NameClasses given c) (kernel_parents given) (λ i c at.
      each_clause (λ p. (k : ℕ) × NamesClass u c p.parent k) c
      (0, any_named (kernel_count + i) c (given_at given i c at))
      (written_parents u c (no_text_fault i c at)))

  pub constraints_named : (d : ℕ) (c : ClassT) → slice_get u d ≡ Some c → NameNoFormal c
  constraints_named = of_each given (λ d c. NameNoFormal c) kernel_constraints
      (λ i c at. names_no_formal u c (no_text_fault i c at))

  -- ---- the order

  -- ANY descends from no other class
  any_reaches : (d : ℕ) → Reaches (graph_of u) 0 d → 0 ≡ d
  any_reaches d r = go r.0 r.1
    where
      go : (steps : List ℕ) → Climbs (graph_of u) 0 steps d → 0 ≡ d
      go [] e = e
      go (p ∷ ps) h =
          let z : is_member p [] ≡ true = subst (λ xs. is_member p xs ≡ true) (any_parents given) h.0 in cc

  -- the class of the clause does not descend from the class d
  abbrev LeadsAway : ℕ → ClassT → ParentT → Type 0
  LeadsAway d c p = (k : ℕ) → parent_number u c p ≡ Some k → Reaches (graph_of u) k d → ⊥

  any_away : (d : ℕ) (c : ClassT) → LeadsAway (suc d) c any_clause
  any_away d c k e r = go (is_formal c any_name) e
    where
      go : (b : Bool) → (if b then None else class_number u any_name) ≡ Some k → ⊥
      go true e = cc
      go false e =
          let zero_is : 0 ≡ k = same_Some 0 k (sym (any_first given) ∙ e) in
          let z = any_reaches (suc d) (subst (λ k. Reaches (graph_of u) k (suc d)) (sym zero_is) r) in
          omega arith

  clauses_away : (d : ℕ) (c : ClassT) → slice_get u d ≡ Some c → AllOf (LeadsAway d c) (clauses c)
  clauses_away = of_each given (λ d c. AllOf (LeadsAway d c) (clauses c)) record {
    any = tt;
    integer = (any_away 0 integer_class, tt);
    boolean = (any_away 1 boolean_class, tt);
    character = (any_away 2 character_class, tt);
    string = (any_away 3 string_class, tt);
    array = (any_away 4 array_class, tt);
  } (λ i c at. each_clause (LeadsAway (kernel_count + i) c) c (far i c)
      (all_from (LeadsAway (kernel_count + i) c) c.parents
      (λ j p among k names r.
      let f : Fault = fault_at c code.Vhpr 1 (type_name_place p.parent) (type_name p.parent) in
      (fine i c at).own f (inr (inl record { i = j; x = p; at = among; judged = (k, names, r, refl) })))))
    where
      far : (i : ℕ) (c : ClassT) → LeadsAway (kernel_count + i) c any_clause
      far i c = let n : suc (5 + i) ≡ kernel_count + i = omega arith in
          subst (λ d. LeadsAway d c any_clause) n (any_away (5 + i) c)

  pub no_cycle : HasNoCycle (graph_of u)
  no_cycle d p m r =
      let b = parent_by u d p m in
      all_at (LeadsAway d b.class) (clauses b.class) b.place b.clause (clauses_away d b.class b.at) b.among p b.names r

  pub has_order : (order : List ℕ) × IsOrder (graph_of u) order
  has_order = order_exists (graph_of u) (graph_closed u) no_cycle

pub constraint_names_none : (c : ClassT) (f : FormalT) (t s : TypeT) (j : ℕ) →
    AllOf (λ s. is_formal c (type_name s) ≡ false) (flat_map nested (present f.constraint)) → f.constraint ≡ Some t →
    slice_get (nested t) j ≡ Some s → is_formal c (type_name s) ≡ false
constraint_names_none c f t s j h e at =
    let all : AllOf (λ s. is_formal c (type_name s) ≡ false) (nested t ++ []) =
    subst (λ o. AllOf (λ s. is_formal c (type_name s) ≡ false) (flat_map nested (present o))) e h in
    all_at (λ s. is_formal c (type_name s) ≡ false) (nested t) j s
    (all_left (λ s. is_formal c (type_name s) ≡ false) (nested t) [] all) at

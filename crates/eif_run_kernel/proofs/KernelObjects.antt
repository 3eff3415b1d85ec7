-- The classes of the kernel but ANY have no fields, and those without formals may have instances.
use Rattle.std.proofs.Common.{◌≡◌, ℕ, Bool, true, false, List, [], ◌∷◌, length, map, Option, Some, None, refl, sym, ap, ◌∙◌}
use Rattle.std.specs.List.{filter, find}
use Rattle.std.specs.Option.{option_map, option_map_or, option_and_then}
use Rattle.std.specs.Prelude.{slice_get, if◌then◌else◌}
use Rattle.std.specs.Str.{bytes_eq}
use Rattle.eif_base.specs.declared.root.Root.{Root}
use Rattle.eif_classes.specs.Constraints.{formal_constraint, constraint}
use Rattle.eif_classes.specs.Entries.{Origin, deferred, declared_as, clashing, Feature}
use Rattle.eif_classes.specs.Features.{features, is_attribute, is_field, fields}
use Rattle.eif_classes.specs.Resolution.{own_formals}
use Rattle.eif_classes.specs.Types.{TyT, no_actuals, formals_from}
use Rattle.eif_lineage_laws.specs.Lineages.{line_over}
use Rattle.eif_lineage_laws.proofs.KernelClasses.{integer_class, boolean_class}
use Rattle.eif_lineage_laws.proofs.Unfolding.{unfolded}
use Rattle.eif_lineage_laws.proofs.WholeClasses.{has_order}
use Rattle.eif_meaning.specs.Objects.{field_type, result_type}
use Rattle.eif_meaning.specs.System.{declaration_in, system_over}
use Rattle.eif_rules.specs.FaultForms.{IsNone}
use Rattle.eif_rules.specs.UniverseRules.{UniverseBroken}
use Rattle.eif_run_kernel.proofs.FinalClasses.{each_plain, each_final}
use Rattle.eif_run_laws.specs.ObjectTypes.{has_instances, IsMade}
use Rattle.eif_run_laws.specs.SystemLaws.{is_plain_kernel, is_final}
use Rattle.eif_system.specs.Graph.{IsOrder}
use Rattle.eif_system.specs.Inheritance.{any_clause, graph_of}
use Rattle.eif_system.specs.Kernel.{kernel, any_class, character_class, string_class, array_class}
use Rattle.eif_system.specs.Lineage.{line, top, up, line_of}
use Rattle.eif_system.specs.Universe.{universe}
use Rattle.eif_tree.specs.Tree.{ClassT}
use Rattle.eif_type_laws.specs.ClassTypes.{actual_count}
use Rattle.eif_type_laws.proofs.Ancestors.{own_ancestor}
use Rattle.eif_type_laws.proofs.WholeUniverses.{hierarchy}

-- ---- classes without fields

-- what a name is as a field, by what it is as a feature
abbrev field_by : Option TyT → Option Feature → Option TyT
field_by t o =
    option_and_then (λ x. if is_attribute x.tree.kind then t else None)
    (option_and_then declaration_in (option_map (λ f. f.origin) o))

-- where none is a field, no name is
no_field : (t : Option TyT) (n : List ℕ) (fs : List Feature) →
    map (λ f. f.name) (filter (λ f. is_field f.origin) fs) ≡ [] → field_by t (find (λ f. bytes_eq f.name n) fs) ≡ None
no_field t n [] h = refl
no_field t n (f ∷ fs) h = by (is_field f.origin) refl h (no_field t n fs)
  where
    of_origin : (o : Origin) → is_field o ≡ false →
        option_and_then (λ x. if is_attribute x.tree.kind then t else None) (declaration_in o) ≡ None
    of_origin (declared_as x) e = ap (λ b. if b then t else None) e
    of_origin deferred e = refl
    of_origin clashing e = refl

    found : (b : Bool) → is_field f.origin ≡ false → field_by t (find (λ f. bytes_eq f.name n) fs) ≡ None →
        field_by t (if b then Some f else find (λ f. bytes_eq f.name n) fs) ≡ None
    found true e rest = of_origin f.origin e
    found false e rest = rest

    by : (b : Bool) → is_field f.origin ≡ b →
        map (λ f. f.name) (if b then f ∷ filter (λ f. is_field f.origin) fs
        else filter (λ f. is_field f.origin) fs) ≡ [] →
        (map (λ f. f.name) (filter (λ f. is_field f.origin) fs) ≡ [] →
        field_by t (find (λ f. bytes_eq f.name n) fs) ≡ None) →
        field_by t (find (λ f. bytes_eq f.name n) (f ∷ fs)) ≡ None
    by true e h rest = cc
    by false e h rest = found (bytes_eq f.name n) e (rest h)

module _ (given : List ClassT) (root : Root) (never : IsNone (UniverseBroken given root)) where
  abbrev u : List ClassT
  u = universe given

  abbrev order : (order : List ℕ) × IsOrder (graph_of u) order
  order = has_order given root never

  unfolds : (d : ℕ) (c : ClassT) → slice_get u d ≡ Some c → line_of u d ≡ line_over u d c
  unfolds d c at = unfolded u order.0 order.1 d c at

  any_line : line_of u 0 ≡ line 0 any_class top
  unfolding kernel
  any_line = unfolds 0 any_class refl

  -- over the line of ANY
  bare : (d : ℕ) (c : ClassT) → line_of u d ≡ line d c (up any_clause (line_of u 0) top) →
      fields (line d c (up any_clause (line 0 any_class top) top)) ≡ [] → (n : List ℕ) →
      field_type (system_over u) d n ≡ None
  bare d c e h n =
      let l = e ∙ ap (λ l. line d c (up any_clause l top)) any_line in
      no_field (result_type (system_over u) d n) n (features (line_of u d)) (ap fields l ∙ h)

  pub fieldless : (d : ℕ) (n : List ℕ) → is_final d ≡ true → field_type (system_over u) d n ≡ None
  unfolding kernel
  fieldless d n h =
      each_final (λ d. field_type (system_over u) d n ≡ None)
      (bare 1 integer_class (unfolds 1 integer_class refl) refl n)
      (bare 2 boolean_class (unfolds 2 boolean_class refl) refl n)
      (bare 3 character_class (unfolds 3 character_class refl) refl n)
      (bare 4 string_class (unfolds 4 string_class refl) refl n)
      (bare 5 array_class (unfolds 5 array_class refl) refl n)
      d h

  -- ---- classes without formals

  made : (d : ℕ) (c : ClassT) → slice_get u d ≡ Some c → c.formals ≡ [] → has_instances (system_over u) d ≡ true →
      IsMade (system_over u) (record { class_number = d; actuals = no_actuals })
  made d c at none instances =
      let formals_are : (system_over u).formals d ≡ own_formals c =
      ap (λ o. option_map_or own_formals o no_actuals) at in
      let no_formals : own_formals c ≡ no_actuals = ap (λ fs. formals_from 0 (length fs)) none in
      record {
        there = own_ancestor u order.0 (hierarchy given root never order.0 order.1) d c at
            ∙ ap Some (sym formals_are);
        instances = instances;
        suit = record {
          closed = tt;
          count = ap actual_count (sym (formals_are ∙ no_formals));
          meet = λ i t e. absurd (unconstrained i t e);
        };
      }
    where
      unconstrained : (i : ℕ) (t : TyT) → constraint u d i ≡ Some t → ⊥
      unconstrained i t e =
          let z : None ≡ Some t =
          sym (ap (option_and_then (λ c. option_map (formal_constraint u c) (slice_get c.formals i))) at
          ∙ ap (λ fs. option_map (formal_constraint u c) (slice_get fs i)) none) ∙ e in
          cc

  pub plain : (d : ℕ) → is_plain_kernel d ≡ true →
      IsMade (system_over u) (record { class_number = d; actuals = no_actuals })
  unfolding kernel
  plain = each_plain (λ d. IsMade (system_over u) (record { class_number = d; actuals = no_actuals }))
      (made 1 integer_class refl refl refl)
      (made 2 boolean_class refl refl refl)
      (made 3 character_class refl refl refl)
      (made 4 string_class refl refl refl)

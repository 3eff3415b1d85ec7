-- The faults of the phase of derivations, class by class.
use Rattle.std.proofs.Common.{◌≡◌, ℕ, ◌+◌, ◌<◌, ◌≤◌, ◌⊎◌, inl, inr, List, [], ◌++◌, length, Some, refl, sym, ap, subst, ◌∙◌, ⊎_elim, arith}
use Rattle.std.specs.List.{enumerate_from}
use Rattle.std.specs.Prelude.{slice_get}
use Rattle.eif_base.proofs.Adding.{adds_both, adds_list, adds_to_none}
use Rattle.eif_base.specs.Appends.{In, Has}
use Rattle.eif_base.specs.declared.fault.Fault.{Fault}
use Rattle.eif_base.specs.declared.root.Root.{Root}
use Rattle.eif_derivation_laws.specs.GivenDerivations.{derivations_by, actuals_by}
use Rattle.eif_feature_rules.specs.DerivationRules.{derivation_faults, written_actual_faults}
use Rattle.eif_feature_rules.specs.FeaturePhases.{class_derivation_faults, each_given}
use Rattle.eif_lineage_laws.specs.Lineages.{line_over}
use Rattle.eif_lineage_laws.proofs.KernelClasses.{OfKernel, of_each, given_at, integer_class, boolean_class}
use Rattle.eif_lineage_laws.proofs.Unfolding.{class_at, class_within, place_at, unfolded}
use Rattle.eif_lineage_laws.proofs.WholeClasses.{has_order}
use Rattle.eif_rules.specs.FaultForms.{IsNone}
use Rattle.eif_rules.specs.UniverseRules.{UniverseBroken}
use Rattle.eif_system.specs.Graph.{IsOrder}
use Rattle.eif_system.specs.Inheritance.{any_clause, graph_of}
use Rattle.eif_system.specs.Kernel.{kernel, kernel_count, any_class, character_class, string_class, array_class}
use Rattle.eif_system.specs.Lineage.{Line, line, top, up, line_of}
use Rattle.eif_system.specs.Universe.{universe}
use Rattle.eif_table_laws.proofs.FaultSets.{of_item, is_of_item, numbered_item, item_numbered}
use Rattle.eif_tree.specs.Tree.{ClassT}

-- a fault of two lists is one of the first or of the second
pub in_either : (xs ys : List Fault) → Has (xs ++ ys) (λ f. In xs f ⊎ In ys f)
in_either xs ys = adds_to_none (xs ++ ys) (λ f. In xs f ⊎ In ys f)
    (adds_both [] xs (xs ++ ys) (In xs) (In ys) (λ f. In xs f ⊎ In ys f) (λ f h. inl h) (λ f h. inr h)
    (λ P f h a b. ⊎_elim a b h) (adds_list [] xs xs refl) (adds_list xs (xs ++ ys) ys refl))

in_none : (xs : List Fault) (f : Fault) → xs ≡ [] → In xs f → ⊥
in_none xs f e h = let none : In [] f = subst (λ xs. In xs f) e h in cc

-- ---- the kernel's classes

module _ (given : List ClassT) (first : line_of (universe given) 0 ≡ line 0 any_class top) where
  abbrev u : List ClassT
  u = universe given

  no_faults : OfKernel (λ d c. class_derivation_faults u (line_over u d c) ≡ [])
  unfolding kernel
  no_faults = record {
    any = refl;
    integer = over 1 integer_class (λ l e. rw e refl);
    boolean = over 2 boolean_class (λ l e. rw e refl);
    character = over 3 character_class (λ l e. rw e refl);
    string = over 4 string_class (λ l e. rw e refl);
    array = over 5 array_class (λ l e. rw e refl);
  }
    where
      over : (d : ℕ) (c : ClassT) →
          ((l : Line) → l ≡ line 0 any_class top → class_derivation_faults u (line d c (up any_clause l top)) ≡ []) →
          class_derivation_faults u (line d c (up any_clause (line_of u 0) top)) ≡ []
      over d c h = h (line_of u 0) first

module _ (given : List ClassT) (root : Root) (sound : IsNone (UniverseBroken given root)) where
  abbrev classes : List ClassT
  classes = universe given

  ordered : (order : List ℕ) × IsOrder (graph_of classes) order
  ordered = has_order given root sound

  unfolds : (d : ℕ) (c : ClassT) → slice_get classes d ≡ Some c → line_of classes d ≡ line_over classes d c
  unfolds d c at = unfolded classes ordered.0 ordered.1 d c at

  any_at : slice_get classes 0 ≡ Some any_class
  unfolding kernel
  any_at = refl

  few : kernel_count ≤ length classes
  unfolding kernel
  few = omega arith

  abbrev HasNoFault : ℕ → ClassT → Type 0
  HasNoFault d c = class_derivation_faults classes (line_over classes d c) ≡ []

  kernel_none : OfKernel HasNoFault
  kernel_none = no_faults given (unfolds 0 any_class any_at)

  over_line : (d : ℕ) (c : ClassT) → slice_get classes d ≡ Some c → d < kernel_count → HasNoFault d c
  over_line = of_each given (λ d c. d < kernel_count → HasNoFault d c)
      record {
        any = λ _. kernel_none.any;
        integer = λ _. kernel_none.integer;
        boolean = λ _. kernel_none.boolean;
        character = λ _. kernel_none.character;
        string = λ _. kernel_none.string;
        array = λ _. kernel_none.array;
      }
      (λ i c at h. absurd (omega arith))

  pub kernel_derived : (d : ℕ) → d < kernel_count → class_derivation_faults classes (line_of classes d) ≡ []
  kernel_derived d h =
      let c = class_within classes d (omega (arith, few)) in
      ap (class_derivation_faults classes) (unfolds d c.0 c.1) ∙ over_line d c.0 c.1 h

  -- ---- each fault is of a given class

  abbrev judged : ℕ × ClassT → List Fault
  judged x = class_derivation_faults classes (line_of classes (kernel_count + x.0))

  abbrev IsBroken : Fault → Type 0
  IsBroken f = In (each_given class_derivation_faults given) f

  of_given : (i : ℕ) (c : ClassT) (f : Fault) → slice_get given i ≡ Some c →
      In (class_derivation_faults classes (line_over classes (kernel_count + i) c)) f → IsBroken f
  of_given i c f at h =
      let d = kernel_count + i in
      let there = subst (λ l. In (class_derivation_faults classes l) f) (sym (unfolds d c (given_at given i c at))) h in
      is_of_item judged (enumerate_from 0 given) f i (0 + i, c) (numbered_item 0 given i c at)
      (subst (λ k. In (class_derivation_faults classes (line_of classes (kernel_count + k))) f) (omega arith) there)

  of_class : (f : Fault) (d : ℕ) (c : ClassT) → slice_get classes d ≡ Some c →
      In (derivation_faults classes (line_over classes d c)) f ⊎ In (written_actual_faults classes d c) f → IsBroken f
  of_class f d c at h =
      of_each given (λ d c. In (class_derivation_faults classes (line_over classes d c)) f → IsBroken f)
      record {
        any = λ h. absurd (in_none _ f kernel_none.any h);
        integer = λ h. absurd (in_none _ f kernel_none.integer h);
        boolean = λ h. absurd (in_none _ f kernel_none.boolean h);
        character = λ h. absurd (in_none _ f kernel_none.character h);
        string = λ h. absurd (in_none _ f kernel_none.string h);
        array = λ h. absurd (in_none _ f kernel_none.array h);
      }
      (λ i c at h. of_given i c f at h) d c at
      ((in_either (derivation_faults classes (line_over classes d c)) (written_actual_faults classes d c)).each f h)

  pub found_broken : (order : List ℕ) → IsOrder (graph_of classes) order → (f : Fault) →
      In (derivations_by classes order) f ⊎ In (actuals_by classes) f → IsBroken f
  found_broken order is f h = ⊎_elim
      (λ l.
      let o = of_item (λ d. derivation_faults classes (line_of classes d)) order f l in
      let c = class_at classes order is o.place o.item o.at in
      of_class f o.item c.0 c.1
      (inl (subst (λ l. In (derivation_faults classes l) f) (unfolds o.item c.0 c.1) o.fault)))
      (λ r.
      let o = of_item (λ (x : ℕ × ClassT). written_actual_faults classes x.0 x.1) (enumerate_from 0 classes) f r in
      let i = item_numbered 0 classes o.place o.item o.at in
      of_class f i.place o.item.1 i.at
      (inr (subst (λ k. In (written_actual_faults classes k o.item.1) f) (i.number ∙ omega arith) o.fault)))
      h

  -- ---- and each is found

  pub broken_found : (order : List ℕ) → IsOrder (graph_of classes) order → (f : Fault) → IsBroken f →
      In (derivations_by classes order) f ⊎ In (actuals_by classes) f
  broken_found order is f h =
      let o = of_item judged (enumerate_from 0 given) f h in
      let c = o.item.1 in
      let i = item_numbered 0 given o.place o.item o.at in
      let same : o.item.0 ≡ i.place = i.number ∙ omega arith in
      let d = kernel_count + i.place in
      let at = given_at given i.place c i.at in
      let p = place_at classes order is d c at in
      let there = subst (λ k. In (class_derivation_faults classes (line_of classes (kernel_count + k))) f) same o.fault in
      let here : In (class_derivation_faults classes (line_over classes d c)) f =
      subst (λ l. In (class_derivation_faults classes l) f) (unfolds d c at) there in
      ⊎_elim
      (λ l. inl (is_of_item (λ d. derivation_faults classes (line_of classes d)) order f p.0 d p.1
      (subst (λ l. In (derivation_faults classes l) f) (sym (unfolds d c at)) l)))
      (λ r. inr (is_of_item (λ (x : ℕ × ClassT). written_actual_faults classes x.0 x.1) (enumerate_from 0 classes) f
      d (0 + d, c) (numbered_item 0 classes d c at)
      (subst (λ k. In (written_actual_faults classes k c) f) (omega arith) r)))
      ((in_either (derivation_faults classes (line_over classes d c)) (written_actual_faults classes d c)).only f here)

-- The root class may have instances, and the root procedure is a creator of it.
use Rattle.std.proofs.Common.{◌≡◌, ◌≢◌, ℕ, ◌+◌, Bool, true, false, List, [], ◌∷◌, length, Option, Some, None, refl, sym, ap, ◌∙◌, inr, arith}
use Rattle.std.specs.Prelude.{slice_get, not, is_none, ◌&&◌, ◌||◌, ◌==◌}
use Rattle.std.specs.Option.{option_map, option_map_or, option_and_then}
use Rattle.std.proofs.lemmas.Bool.{eqb-true}
use Rattle.std.proofs.lemmas.Option.{slice_get_within}
use Rattle.std.proofs.Math.Dec.{eqb-suc-zero}
use Rattle.eif_base.specs.declared.code.Code.TheVariants as code
use Rattle.eif_base.specs.declared.root.Root.{Root}
use Rattle.eif_tree.specs.Tree.{FormalT, ClassT}
use Rattle.eif_system.specs.Kernel.{kernel_count}
use Rattle.eif_system.specs.Universe.{universe}
use Rattle.eif_classes.specs.Constraints.{formal_constraint, constraint}
use Rattle.eif_classes.specs.KernelNumbers.{is_basic}
use Rattle.eif_classes.specs.Resolution.{own_formals}
use Rattle.eif_classes.specs.Types.{no_actuals}
use Rattle.eif_meaning.specs.System.{system_over}
use Rattle.eif_rules.specs.FaultForms.{fault_of, fault_where}
use Rattle.eif_rules.specs.UniverseRules.{no_root_class, root_class_faults, given_root_faults, root_number, root_faults}
use Rattle.eif_lineage_laws.proofs.KernelClasses.{given_at}
use Rattle.eif_lineage_laws.proofs.NoFaults.{none_left, none_right, none_where, none_in}
use Rattle.eif_type_laws.specs.ClassTypes.{actual_count}
use Rattle.eif_binding_laws.proofs.Creating.{root_creator}
use Rattle.eif_binding_laws.proofs.RootNumbers.{numbered, given_root, root_number_is}
use Rattle.eif_run_laws.specs.ObjectTypes.{Suit, IsMade}
use Rattle.eif_run_sound.specs.Soundness.{root_type, IsRoot}
use Rattle.eif_run_sound.specs.UniverseLaws.{IsCreator}
use Rattle.eif_run_types.proofs.ClosedTypes.{there}
use Rattle.eif_run_creation.specs.LawfulCreation.{IsCreated, RootIsLawful}
use Rattle.eif_run_creation.proofs.Creation.{order, set, creator_is}

no_other : (a b : ℕ) → a ≢ b → (a == b) ≡ false
no_other a b ne = by (a == b) refl
  where
    by : (t : Bool) → (a == b) ≡ t → t ≡ false
    by true e = absurd (ne (eqb-true a b e))
    by false e = refl

-- a given class is not basic
not_basic : (i : ℕ) → is_basic (kernel_count + i) ≡ false
not_basic i =
    let d = kernel_count + i in
    let one = no_other d 1 (λ e. omega arith) in
    let two = no_other d 2 (λ e. omega arith) in
    let three = no_other d 3 (λ e. omega arith) in
    ap (λ b. b || (d == 2) || (d == 3)) one ∙ (ap (λ b. b || (d == 3)) two ∙ three)

no_formals : (fs : List FormalT) → not (length fs == 0) ≡ false → fs ≡ []
no_formals [] h = refl
no_formals (f ∷ fs) h = let e = eqb-suc-zero (length fs) in cc

-- the root class among the given ones
record IsRootClass (given : List ClassT) (root : Root) : Type 0 where
  pub place : ℕ
  pub number : root_number given root ≡ Some place
  pub class : ClassT
  pub at : slice_get given place ≡ Some class
  pub effective : class.is_deferred ≡ false
  pub plain : class.formals ≡ []

module _ (given : List ClassT) (root : Root) (is : IsCreated given root) where
  abbrev u : List ClassT
  u = universe given

  root_class : IsRootClass given root
  root_class = by (root_number given root) refl none
    where
      none : root_faults given root ≡ []
      none = none_in (root_faults given root) (λ f h. is.well_formed.derived.universe f (inr h))

      of_class : (i : ℕ) → root_number given root ≡ Some i → (c : ClassT) → slice_get given i ≡ Some c
          → root_class_faults c ≡ [] → IsRootClass given root
      of_class i e c at h =
          let effective = fault_where c.is_deferred (fault_of c code.Vsrt 2) in
          let plain = fault_where (not (length c.formals == 0)) (fault_of c code.Vsrt 3) in
          record {
            place = i;
            number = e;
            class = c;
            at = at;
            effective = none_where c.is_deferred (fault_of c code.Vsrt 2) (none_left effective plain h);
            plain = no_formals c.formals
                (none_where (not (length c.formals == 0)) (fault_of c code.Vsrt 3) (none_right effective plain h));
          }

      by : (o : Option ℕ) → root_number given root ≡ o → root_faults given root ≡ [] → IsRootClass given root
      by None e h =
          let told = none_where (is_none (root_number given root)) (no_root_class root)
          (none_left (fault_where (is_none (root_number given root)) (no_root_class root))
          (given_root_faults given (root_number given root)) h) in
          let z : true ≡ false = sym (ap is_none e) ∙ told in
          cc
      by (Some i) e h =
          let c = numbered given root.class_name i (given_root given root i e) in
          of_class i e c.0 c.1
          (sym (ap (given_root_faults given) e ∙ ap (λ o. option_map_or root_class_faults o []) c.1)
          ∙ none_right (fault_where (is_none (root_number given root)) (no_root_class root))
          (given_root_faults given (root_number given root)) h)

  abbrev number : ℕ
  number = kernel_count + root_class.place

  root_at : slice_get u number ≡ Some root_class.class
  root_at = given_at given root_class.place root_class.class root_class.at

  creatable : (system_over u).is_creatable number ≡ true
  creatable =
      ap (λ o. option_map_or (λ (c : ClassT). not c.is_deferred && not (is_basic number)) o false) root_at
      ∙ (ap (λ b. not b && not (is_basic number)) root_class.effective
      ∙ ap not (not_basic root_class.place))

  own_count : actual_count ((system_over u).formals number) ≡ 0
  own_count =
      ap (λ o. actual_count (option_map_or own_formals o no_actuals)) root_at
      ∙ ap (λ (fs : List FormalT). actual_count (own_formals (record root_class.class { formals = fs })))
      root_class.plain

  no_constraint : (i : ℕ) → constraint u number i ≡ None
  no_constraint i =
      ap (option_and_then (λ (c : ClassT). option_map (formal_constraint u c) (slice_get c.formals i))) root_at
      ∙ ap (λ (fs : List FormalT). option_map (formal_constraint u root_class.class) (slice_get fs i))
      root_class.plain

  suit : Suit (system_over u) number no_actuals
  suit = record {
    closed = tt;
    count = sym own_count;
    meet = λ i t e. let z : None ≡ Some t = sym (no_constraint i) ∙ e in cc;
  }

  made : IsMade (system_over u) (root_type number)
  made = record {
    there = there u (order given root is) (set given root is).hierarchy number
        (slice_get_within u number root_class.class root_at);
    instances = ap (λ b. b || (system_over u).is_creatable number) (not_basic root_class.place) ∙ creatable;
    suit = suit;
  }

  root_procedure : IsCreator u (root_type number) root.procedure_name []
  root_procedure =
      let c = root_creator given root is.well_formed root_class.place root_class.number in
      creator_is given root is (root_type number) made (not_basic root_class.place) root.procedure_name
      (record { arguments = []; result = None }) c.0 c.1

  is_root : IsRoot u root.class_name root.procedure_name
  is_root = record {
    number = number;
    named = root_number_is given root root_class.place root_class.number;
    creatable = creatable;
    made = made;
    creator = root_procedure;
  }

pub root_is_lawful : RootIsLawful
root_is_lawful given root is = is_root given root is

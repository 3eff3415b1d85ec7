-- A system without faults breaks no rule of the language: its classes are plain.
use Rattle.std.proofs.Common.{◌≡◌, ℕ, ◌+◌, List, [], ◌∷◌, Some, refl, inl, inr, ap, ◌∙◌}
use Rattle.std.specs.List.{flat_map, enumerate_from}
use Rattle.std.specs.Prelude.{slice_get}
use Rattle.eif_base.specs.Appends.{In}
use Rattle.eif_base.specs.declared.fault.Fault.{Fault}
use Rattle.eif_base.specs.declared.root.Root.{Root}
use Rattle.eif_binding_laws.specs.WellFormed.{IsWellFormed}
use Rattle.eif_body_rules.specs.BodyRules.{class_body_faults, numbered_body_faults, GivenBodiesBroken}
use Rattle.eif_classes.specs.Features.{fields}
use Rattle.eif_feature_rules.specs.FeaturePhases.{FeaturesBroken, DerivationsBroken, SignaturesBroken}
use Rattle.eif_flow_rules.specs.CreationFaults.{creation_faults, CreationBroken}
use Rattle.eif_lineage_laws.proofs.Descending.{lines_of}
use Rattle.eif_lineage_laws.proofs.EachItem.{all_at}
use Rattle.eif_lineage_laws.proofs.KernelClasses.{given_at}
use Rattle.eif_lineage_laws.proofs.NoFaults.{none_of_each, none_in}
use Rattle.eif_lineage_laws.proofs.Unfolding.{unfolded}
use Rattle.eif_lineage_laws.proofs.WholeClasses.{any_named, has_order}
use Rattle.eif_lineage_laws.specs.Lineages.{line_over}
use Rattle.eif_rules.specs.FaultForms.{IsNone, FirstOf}
use Rattle.eif_rules.specs.UniverseRules.{UniverseBroken}
use Rattle.eif_system.specs.Kernel.{kernel, kernel_count, any_class}
use Rattle.eif_system.specs.Inheritance.{clauses}
use Rattle.eif_system.specs.Lineage.{line, top, line_of}
use Rattle.eif_system.specs.Universe.{universe}
use Rattle.eif_system_rules.specs.SystemRules.{not_yet, unknown_names_in, BodiesBroken, DeclarationsBroken, TypesBroken, ClassesBroken, SystemBroken}
use Rattle.eif_table_laws.proofs.FaultSets.{of_item, item_numbered}
use Rattle.eif_tree.specs.Tree.{ClassT}
use Rattle.eif_valid_systems.specs.ValidSystems.{IsValidSystem}
use Rattle.eif_plain_systems.proofs.PlainParts.{IsPlainClass, plain_class}
use Rattle.eif_plain_systems.proofs.PlainBodies.{bodies_fine}
use Rattle.eif_plain_systems.proofs.NoFields.{fieldless, creation_fine}

-- where no phase has a fault, the first has none, and so have the later ones

first_none : (first later : Fault → Type 0) → IsNone (FirstOf first later) → IsNone first
first_none first later none f h = none f (inl h)

later_none : (first later : Fault → Type 0) → IsNone (FirstOf first later) → IsNone later
later_none first later none f h = none f (inr (first_none first later none, h))

empty : (list : List Fault) (f : Fault) → list ≡ [] → In list f → ⊥
empty [] f e h = cc
empty (g ∷ list) f e h = cc

-- ---- the given classes, where each is plain

module _ (given : List ClassT) (root : Root) (sound : IsNone (UniverseBroken given root))
    (plain : (i : ℕ) (c : ClassT) → slice_get given i ≡ Some c → IsPlainClass c) where
  abbrev u : List ClassT
  u = universe given

  unfolds : (d : ℕ) (c : ClassT) → slice_get u d ≡ Some c → line_of u d ≡ line_over u d c
  unfolds d c at = let ordered = has_order given root sound in unfolded u ordered.0 ordered.1 d c at

  any_line : line_of u 0 ≡ line 0 any_class top
  unfolding kernel
  any_line = unfolds 0 any_class refl

  bodies_none : IsNone (GivenBodiesBroken given)
  bodies_none f h =
      let o = of_item (numbered_body_faults u) (enumerate_from kernel_count given) f h in
      let p = item_numbered kernel_count given o.place o.item o.at in
      let c = o.item.1 in
      let d = kernel_count + p.place in
      let fine = bodies_fine u d c (lines_of u c (clauses c)) (unfolds d c (given_at given p.place c p.at))
      (plain p.place c p.at) in
      empty (numbered_body_faults u o.item) f (ap (λ (k : ℕ). class_body_faults u k c) p.number ∙ fine) o.fault

  creation_none : IsNone (CreationBroken given)
  creation_none f h =
      let d = kernel_count + h.i in
      let at = given_at given h.i h.x h.at in
      let none = fieldless u h.x any_line (any_named given root sound d h.x at) (plain h.i h.x h.at) d in
      empty (creation_faults u d h.x) f (creation_fine u d h.x (ap fields (unfolds d h.x at) ∙ none)) h.judged

-- ---- the system

module _ (given : List ClassT) (root : Root) (never : IsNone (SystemBroken given root)) where
  classes : IsNone (ClassesBroken given root)
  classes = later_none (UniverseBroken given root) (ClassesBroken given root) never

  types : IsNone (TypesBroken given root)
  types = later_none (FeaturesBroken given) (TypesBroken given root) classes

  declared : IsNone (DeclarationsBroken given root)
  declared = later_none (DerivationsBroken given) (DeclarationsBroken given root) types

  bodies : IsNone (BodiesBroken given)
  bodies = later_none (SignaturesBroken given root) (BodiesBroken given) declared

  universe_none : IsNone (UniverseBroken given root)
  universe_none = first_none (UniverseBroken given root) (ClassesBroken given root) never

  well_formed : IsWellFormed given root
  well_formed = record {
    derived = record {
      universe = universe_none;
      features = first_none (FeaturesBroken given) (TypesBroken given root) classes;
      derivations = first_none (DerivationsBroken given) (DeclarationsBroken given root) types;
    };
    signatures = first_none (SignaturesBroken given root) (BodiesBroken given) declared;
  }

  plain_at : (i : ℕ) (c : ClassT) → slice_get given i ≡ Some c → IsPlainClass c
  plain_at i c at =
      let form = In (flat_map not_yet given) in
      let names = In (flat_map unknown_names_in given) in
      plain_class c
      (all_at (λ c. not_yet c ≡ []) given i c
      (none_of_each not_yet given (none_in (flat_map not_yet given) (first_none form names bodies))) at)
      (all_at (λ c. unknown_names_in c ≡ []) given i c
      (none_of_each unknown_names_in given (none_in (flat_map unknown_names_in given) (later_none form names bodies)))
      at)

  pub valid_system : IsValidSystem given root
  valid_system = record {
    well_formed = well_formed;
    bodies = bodies_none given root universe_none plain_at;
    creation = creation_none given root universe_none plain_at;
  }

-- The kernel's classes have no breach of features.
use Rattle.std.proofs.Common.{◌≡◌, ℕ, ◌<◌, ◌≤◌, List, [], length, Some, refl, sym, ap, subst, ◌∙◌, arith}
use Rattle.std.specs.Prelude.{slice_get}
use Rattle.eif_base.specs.declared.root.Root.{Root}
use Rattle.eif_feature_rules.specs.FeaturePhases.{own_feature_faults}
use Rattle.eif_lineage_laws.specs.Lineages.{line_over}
use Rattle.eif_lineage_laws.proofs.KernelClasses.{OfKernel, of_each, integer_class, boolean_class}
use Rattle.eif_lineage_laws.proofs.Unfolding.{class_within, unfolded}
use Rattle.eif_lineage_laws.proofs.WholeClasses.{has_order}
use Rattle.eif_rules.specs.FaultForms.{IsNone}
use Rattle.eif_rules.specs.UniverseRules.{UniverseBroken}
use Rattle.eif_system.specs.Graph.{IsOrder}
use Rattle.eif_system.specs.Inheritance.{any_clause, graph_of}
use Rattle.eif_system.specs.Kernel.{kernel, kernel_count, any_class, character_class, string_class, array_class}
use Rattle.eif_system.specs.Lineage.{Line, line, top, up, line_of}
use Rattle.eif_system.specs.Universe.{universe}
use Rattle.eif_tree.specs.Tree.{ClassT}

module _ (given : List ClassT) (first : line_of (universe given) 0 ≡ line 0 any_class top) where
  abbrev u : List ClassT
  u = universe given

  abbrev over_any : ℕ → ClassT → Line → Line
  over_any d c l = line d c (up any_clause l top)

  pub no_faults : OfKernel (λ d c. own_feature_faults u (line_over u d c) ≡ [])
  unfolding kernel
  no_faults = record {
    any = refl;
    integer = subst (λ l. own_feature_faults u (over_any 1 integer_class l) ≡ []) (sym first) (rw first refl);
    boolean = subst (λ l. own_feature_faults u (over_any 2 boolean_class l) ≡ []) (sym first) (rw first refl);
    character = subst (λ l. own_feature_faults u (over_any 3 character_class l) ≡ []) (sym first) (rw first refl);
    string = subst (λ l. own_feature_faults u (over_any 4 string_class l) ≡ []) (sym first) (rw first refl);
    array = subst (λ l. own_feature_faults u (over_any 5 array_class l) ≡ []) (sym first) (rw first refl);
  }

module _ (given : List ClassT) (root : Root) (sound : IsNone (UniverseBroken given root)) where
  abbrev classes : List ClassT
  classes = universe given

  order : (order : List ℕ) × IsOrder (graph_of classes) order
  order = has_order given root sound

  unfolds : (d : ℕ) (c : ClassT) → slice_get classes d ≡ Some c → line_of classes d ≡ line_over classes d c
  unfolds d c at = unfolded classes order.0 order.1 d c at

  any_at : slice_get classes 0 ≡ Some any_class
  unfolding kernel
  any_at = refl

  any_line : line_of classes 0 ≡ line 0 any_class top
  unfolding kernel
  any_line = unfolds 0 any_class any_at

  few : kernel_count ≤ length classes
  unfolding kernel
  few = omega arith

  over_line : (d : ℕ) (c : ClassT) → slice_get classes d ≡ Some c → d < kernel_count →
      own_feature_faults classes (line_over classes d c) ≡ []
  over_line = of_each given (λ d c. d < kernel_count → own_feature_faults classes (line_over classes d c) ≡ [])
      (let k = no_faults given any_line in record {
        any = λ _. k.any;
        integer = λ _. k.integer;
        boolean = λ _. k.boolean;
        character = λ _. k.character;
        string = λ _. k.string;
        array = λ _. k.array;
      })
      (λ i c at h. absurd (omega arith))

  pub kernel_clean : (d : ℕ) → d < kernel_count → own_feature_faults classes (line_of classes d) ≡ []
  kernel_clean d h =
      let c = class_within classes d (omega (arith, few)) in
      ap (λ l. own_feature_faults classes l) (unfolds d c.0 c.1) ∙ over_line d c.0 c.1 h

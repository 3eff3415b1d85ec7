-- What the phase gives, by the faults of the classes in their order.
use Rattle.std.proofs.Common.{◌≡◌, ℕ, List, [], length, map, Option, Some, refl, sym, ap, subst, ◌∙◌}
use Rattle.std.proofs.lemmas.List.{drop_at, length-map}
use Rattle.std.proofs.lemmas.Option.{slice_get-map}
use Rattle.std.specs.Option.{option_map}
use Rattle.std.specs.Prelude.{slice_get}
use Rattle.eif_base.specs.Appends.{Has, In}
use Rattle.eif_class_rows.proofs.Whole.{all_whole}
use Rattle.eif_class_rows.specs.Filling.{AreFilled}
use Rattle.eif_class_rows.specs.Phase.{AreWholeRows}
use Rattle.eif_feature_rules.specs.FeaturePhases.{FeaturesBroken}
use Rattle.eif_lineage_laws.proofs.Unfolding.{class_within}
use Rattle.eif_rows.specs.Systems.{IsSystem}
use Rattle.eif_rows.specs.declared.row.Row.{Row}
use Rattle.eif_rules.specs.FaultForms.{IsNone}
use Rattle.eif_system.specs.Graph.{IsOrder}
use Rattle.eif_system.specs.Inheritance.{graph_of}
use Rattle.eif_system.specs.Kernel.{kernel, kernel_count}
use Rattle.eif_system.specs.Universe.{universe}
use Rattle.eif_table_laws.proofs.Wholeness.{fault_of_given, given_fault}
use Rattle.eif_table_laws.specs.WholeClasses.{faults_by}
use Rattle.eif_tree.specs.Tree.{ClassT}
use Rattle.eif_universe.specs.Universes.{given_in}

-- the classes after the kernel's are the given ones
given_are : (given : List ClassT) → given_in (universe given) ≡ given
unfolding kernel
given_are given = drop_at kernel given kernel_count refl

module _ (u : List ClassT) (system : IsSystem u) (order : List ℕ) (is : IsOrder (graph_of u) order) where
  -- the faults in the order are those of the given classes
  pub faults_of_given : Has (faults_by u order) (FeaturesBroken (given_in u))
  faults_of_given = subst (λ g. Has (faults_by u order) (FeaturesBroken g))
      (sym (ap given_in system.is ∙ given_are system.given))
      (subst
      (λ v. (order : List ℕ) → IsOrder (graph_of v) order → Has (faults_by v order) (FeaturesBroken system.given))
      (sym system.is)
      (λ order is. record {
        only = given_fault system.given system.root system.sound order is;
        each = fault_of_given system.given system.root system.sound order is;
      })
      order is)

  -- without a fault in the order there is none
  pub none_broken : faults_by u order ≡ [] → IsNone (FeaturesBroken (given_in u))
  none_broken none f broken =
      let found : In [] f = subst (λ xs. In xs f) none (faults_of_given.each f broken) in cc

  -- and each class has its row
  pub whole_rows : faults_by u order ≡ [] → (rows : List (Option Row)) → AreFilled u rows order → (all : List Row) →
      map Some all ≡ rows → AreWholeRows u all
  whole_rows none rows filled all sole = record {
    whole = λ d within. let c = class_within u d within in all_whole u system order is none d c.0 c.1;
    long = sym (length-map all Some) ∙ (ap length sole ∙ filled.long);
    each = λ d r at. (filled.of_whole d r (ap (λ rs. slice_get rs d) (sym sole)
        ∙ (slice_get-map Some all d ∙ ap (option_map Some) at))).0;
  }

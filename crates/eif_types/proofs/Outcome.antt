-- What the phase gives, by the faults that were found.
use Rattle.std.proofs.Common.{◌≡◌, ℕ, List, [], ◌++◌, sym, ap, subst, ◌∙◌, refl}
use Rattle.std.proofs.lemmas.List.{drop_at}
use Rattle.eif_base.specs.Appends.{Has, In}
use Rattle.eif_derivation_laws.proofs.Given.{broken_found, found_broken, in_either}
use Rattle.eif_derivation_laws.specs.GivenDerivations.{actuals_by, derivations_by}
use Rattle.eif_feature_rules.specs.FeaturePhases.{DerivationsBroken}
use Rattle.eif_rows.specs.Systems.{IsSystem}
use Rattle.eif_rules.specs.FaultForms.{IsNone}
use Rattle.eif_system.specs.Graph.{IsOrder}
use Rattle.eif_system.specs.Inheritance.{graph_of}
use Rattle.eif_system.specs.Kernel.{kernel, kernel_count}
use Rattle.eif_system.specs.Universe.{universe}
use Rattle.eif_tree.specs.Tree.{ClassT}
use Rattle.eif_type_laws.proofs.ValidUniverses as valid
use Rattle.eif_type_laws.specs.ClassTypes.{Defined}
use Rattle.eif_universe.specs.Universes.{given_in}

-- the classes after the kernel's are the given ones
pub given_are : (given : List ClassT) → given_in (universe given) ≡ given
unfolding kernel
given_are given = drop_at kernel given kernel_count refl

module _ (u : List ClassT) (system : IsSystem u) where
  pub same_given : given_in u ≡ system.given
  same_given = ap given_in system.is ∙ given_are system.given

  abbrev AreFound : List ClassT → List ClassT → Type 0
  AreFound u given =
      (order : List ℕ) → IsOrder (graph_of u) order → Has (derivations_by u order ++ actuals_by u) (DerivationsBroken given)

  all_found : AreFound (universe system.given) system.given
  all_found order is =
      let v = universe system.given in
      let both = in_either (derivations_by v order) (actuals_by v) in
      record {
        only = λ f h. found_broken system.given system.root system.sound order is f (both.only f h);
        each = λ f b. both.each f (broken_found system.given system.root system.sound order is f b);
      }

  -- what was found are the faults of the phase
  pub found : AreFound u (given_in u)
  found = subst (λ given. AreFound u given) (sym same_given)
      (subst (λ v. AreFound v system.given) (sym system.is) all_found)

  -- where nothing was found there is none
  pub none_broken : (order : List ℕ) → IsOrder (graph_of u) order → derivations_by u order ++ actuals_by u ≡ [] →
      IsNone (DerivationsBroken (given_in u))
  none_broken order is none f broken =
      let found : In [] f = subst (λ xs. In xs f) none ((found order is).each f broken) in cc

  -- and each class gives each of its ancestors something
  pub all_defined : IsNone (DerivationsBroken (given_in u)) → Defined u
  all_defined none = subst Defined (sym system.is)
      (valid.defined system.given system.root system.sound
      (subst (λ given. IsNone (DerivationsBroken given)) same_given none))

use Rattle.std.proofs.Common.{◌≡◌, ◌++◌, ℕ, drop}
use Rattle.std.specs.List.{enumerate_from, flat_map}
use Rattle.eif_derivation_laws.specs.GivenDerivations.{actuals_by}
use Rattle.eif_feature_rules.specs.DerivationRules.{written_actual_faults}
use Rattle.eif_tree.specs.Tree.{ClassT}
use Rattle.eif_universe.specs.Universes.{classes_of}
use Rattle.eif_types.proofs.build.push_actual_faults.Given as goal

abbrev pub invariant-classes : goal.invariant-classes
invariant-classes l =
    let u = classes_of l.u in
    l.out ++ flat_map (λ (x : ℕ × ClassT). written_actual_faults u x.0 x.1) (enumerate_from l.number (drop l.number u))
    ≡ l.initial.out ++ actuals_by u

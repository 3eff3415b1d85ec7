-- Universes that break no rule of the universe.
use Rattle.std.specs.Prelude.{◌≡◌, List}
use Rattle.eif_base.specs.declared.root.Root.{Root}
use Rattle.eif_rules.specs.FaultForms.{IsNone}
use Rattle.eif_rules.specs.UniverseRules.{UniverseBroken}
use Rattle.eif_system.specs.Universe.{universe}
use Rattle.eif_tree.specs.Tree.{ClassT}

-- it is that of some given classes, which with some root break no such rule
pub record IsSystem (u : List ClassT) : Type 0 where
  pub given : List ClassT
  pub root : Root
  pub is : u ≡ universe given
  pub sound : IsNone (UniverseBroken given root)

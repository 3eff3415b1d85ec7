-- Systems of classes that break no rule of the language.
use Rattle.std.specs.Prelude.{List}
use Rattle.eif_base.specs.declared.root.Root.{Root}
use Rattle.eif_binding_laws.specs.WellFormed.{IsWellFormed}
use Rattle.eif_body_rules.specs.BodyRules.{GivenBodiesBroken}
use Rattle.eif_flow_rules.specs.CreationFaults.{CreationBroken}
use Rattle.eif_rules.specs.FaultForms.{IsNone}
use Rattle.eif_tree.specs.Tree.{ClassT}

-- the given classes and the root break no rule of the universe, of features, of derivations and of signatures, none of
-- bodies and none of creation
pub record IsValidSystem (given : List ClassT) (root : Root) : Type 0 where
  pub well_formed : IsWellFormed given root
  pub bodies : IsNone (GivenBodiesBroken given)
  pub creation : IsNone (CreationBroken given)

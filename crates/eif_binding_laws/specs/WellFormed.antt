-- Systems that break no rule of classes.
use Rattle.std.specs.Prelude.{List}
use Rattle.eif_base.specs.declared.root.Root.{Root}
use Rattle.eif_feature_rules.specs.FeaturePhases.{FeaturesBroken, DerivationsBroken, SignaturesBroken}
use Rattle.eif_rules.specs.FaultForms.{IsNone}
use Rattle.eif_rules.specs.UniverseRules.{UniverseBroken}
use Rattle.eif_tree.specs.Tree.{ClassT}

-- the given classes break no rule of the universe, of features and of derivations
pub record IsDerived (given : List ClassT) (root : Root) : Type 0 where
  pub universe : IsNone (UniverseBroken given root)
  pub features : IsNone (FeaturesBroken given)
  pub derivations : IsNone (DerivationsBroken given)

-- nor of signatures
pub record IsWellFormed (given : List ClassT) (root : Root) : Type 0 where
  pub derived : IsDerived given root
  pub signatures : IsNone (SignaturesBroken given root)

-- What runs ask of creation and of the root, in a system that breaks no rule up to those of signatures and none of
-- creation, and whose features and types are as runs ask.
use Rattle.std.specs.Prelude.{List}
use Rattle.eif_base.specs.declared.root.Root.{Root}
use Rattle.eif_binding_laws.specs.WellFormed.{IsWellFormed}
use Rattle.eif_flow_rules.specs.CreationFaults.{CreationBroken}
use Rattle.eif_rules.specs.FaultForms.{IsNone}
use Rattle.eif_run_sound.specs.Soundness.{IsRoot}
use Rattle.eif_run_sound.specs.UniverseLaws.{OpenTypeLaws, FeatureLaws, CreationLaws}
use Rattle.eif_system.specs.Universe.{universe}
use Rattle.eif_tree.specs.Tree.{ClassT}

-- the premises
pub record IsCreated (given : List ClassT) (root : Root) : Type 0 where
  pub well_formed : IsWellFormed given root
  pub creation : IsNone (CreationBroken given)
  pub types : OpenTypeLaws (universe given)
  pub features : FeatureLaws (universe given)

abbrev pub CreationIsLawful : Type 0
CreationIsLawful = (given : List ClassT) (root : Root) → IsCreated given root → CreationLaws (universe given)

abbrev pub RootIsLawful : Type 0
RootIsLawful = (given : List ClassT) (root : Root) → IsCreated given root
    → IsRoot (universe given) root.class_name root.procedure_name

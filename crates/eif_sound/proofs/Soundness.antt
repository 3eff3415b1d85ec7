-- The laws of runs hold in a system that breaks no rule, so no run of it goes wrong.
use Rattle.std.proofs.Common.{ℕ, List}
use Rattle.eif_base.specs.declared.root.Root.{Root}
use Rattle.eif_meaning.specs.Run.{run, IsWrong}
use Rattle.eif_meaning.specs.System.{system_of, system_over}
use Rattle.eif_run_bodies.proofs.LawfulBodies as bodies
use Rattle.eif_run_creation.proofs.Creation.{creation_is_lawful}
use Rattle.eif_run_creation.proofs.RootClass.{root_is_lawful}
use Rattle.eif_run_features.proofs.LawfulFeatures as features
use Rattle.eif_run_kernel.proofs.LawfulKernel.{type_laws}
use Rattle.eif_run_laws.specs.SystemLaws.{TypeLaws}
use Rattle.eif_run_sound.proofs.Runs.{run_ok}
use Rattle.eif_run_sound.specs.Soundness.{IsRoot}
use Rattle.eif_run_sound.specs.UniverseLaws.{OpenTypeLaws, UniverseLaws}
use Rattle.eif_spelled_trees.specs.SpelledTrees.{AreSpelled}
use Rattle.eif_system.specs.Universe.{universe}
use Rattle.eif_tree.specs.Tree.{ClassT}
use Rattle.eif_valid_systems.specs.ValidSystems.{IsValidSystem}
use Rattle.eif_run_creation.specs.LawfulCreation.{IsCreated}

module _ (given : List ClassT) (root : Root) (spelled : AreSpelled given) (valid : IsValidSystem given root) where
  abbrev u : List ClassT
  u = universe given

  types : TypeLaws (system_over u) × OpenTypeLaws u
  types = type_laws given root valid.well_formed.derived

  created : IsCreated given root
  created = record {
    well_formed = valid.well_formed;
    creation = valid.creation;
    types = types.1;
    features = features.laws given root spelled valid.well_formed types.1;
  }

  pub lawful : UniverseLaws u × IsRoot u root.class_name root.procedure_name
  lawful = (
    record {
      types = types.0;
      open_types = types.1;
      features = created.features;
      creation = creation_is_lawful given root created;
      bodies = bodies.laws given root spelled valid.well_formed.derived valid.bodies;
    },
    root_is_lawful given root created,
  )

  pub never_wrong : (n : ℕ) → IsWrong (run n (system_of given) root.class_name root.procedure_name) → ⊥
  never_wrong n = run_ok u lawful.0 root.class_name root.procedure_name lawful.1 n

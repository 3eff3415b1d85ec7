-- What runs ask of the classes and of the root of a system follows from the rules of the language.
use Rattle.std.specs.Prelude.{List}
use Rattle.eif_base.specs.declared.root.Root.{Root}
use Rattle.eif_run_sound.specs.Soundness.{IsRoot}
use Rattle.eif_run_sound.specs.UniverseLaws.{UniverseLaws}
use Rattle.eif_spelled_trees.specs.SpelledTrees.{AreSpelled}
use Rattle.eif_system.specs.Universe.{universe}
use Rattle.eif_tree.specs.Tree.{ClassT}
use Rattle.eif_valid_systems.specs.ValidSystems.{IsValidSystem}

-- the classes keep the laws of a universe, and the root is one from which it may run
abbrev pub ValidSystemsAreLawful : Type 0
ValidSystemsAreLawful =
    (given : List ClassT) (root : Root) → AreSpelled given → IsValidSystem given root
    → UniverseLaws (universe given) × IsRoot (universe given) root.class_name root.procedure_name

-- What runs ask of features, in a system of class texts that breaks no rule up to those of signatures, and whose types are
-- as runs ask.
use Rattle.std.specs.Prelude.{List}
use Rattle.eif_base.specs.declared.root.Root.{Root}
use Rattle.eif_binding_laws.specs.WellFormed.{IsWellFormed}
use Rattle.eif_run_sound.specs.UniverseLaws.{FeatureLaws, OpenTypeLaws}
use Rattle.eif_spelled_trees.specs.SpelledTrees.{AreSpelled}
use Rattle.eif_system.specs.Universe.{universe}
use Rattle.eif_tree.specs.Tree.{ClassT}

abbrev pub FeaturesAreLawful : Type 0
FeaturesAreLawful =
    (given : List ClassT) (root : Root) → AreSpelled given → IsWellFormed given root → OpenTypeLaws (universe given)
    → FeatureLaws (universe given)

-- No run of a system that breaks no rule goes wrong.
use Rattle.std.specs.Prelude.{ℕ, List}
use Rattle.eif_base.specs.declared.root.Root.{Root}
use Rattle.eif_meaning.specs.Run.{run, IsWrong}
use Rattle.eif_meaning.specs.System.{system_of}
use Rattle.eif_spelled_trees.specs.SpelledTrees.{AreSpelled}
use Rattle.eif_tree.specs.Tree.{ClassT}
use Rattle.eif_valid_systems.specs.ValidSystems.{IsValidSystem}

-- its classes have the form of class texts; whatever the bound on its levels of calls and turns of loops
abbrev pub Sound : Type 0
Sound =
    (given : List ClassT) (root : Root)
    → AreSpelled given
    → IsValidSystem given root
    → (n : ℕ)
    → IsWrong (run n (system_of given) root.class_name root.procedure_name)
    → ⊥

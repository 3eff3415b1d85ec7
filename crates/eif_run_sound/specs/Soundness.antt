-- No run of a system whose classes keep the laws of a universe goes wrong.
use Rattle.std.specs.Prelude.{◌≡◌, ℕ, true, List, [], Some}
use Rattle.eif_tree.specs.Tree.{ClassT}
use Rattle.eif_classes.specs.Types.{no_actuals}
use Rattle.eif_system.specs.Universe.{class_number}
use Rattle.eif_meaning.specs.Values.{ClassType}
use Rattle.eif_meaning.specs.System.{system_over}
use Rattle.eif_meaning.specs.Run.{level, run, IsWrong}
use Rattle.eif_run_laws.specs.ObjectTypes.{IsMade}
use Rattle.eif_run_sound.specs.Bodies.{RunsBodies}
use Rattle.eif_run_sound.specs.UniverseLaws.{IsCreator, UniverseLaws}

-- the type of the root object, which has no actuals
abbrev pub root_type : ℕ → ClassType
root_type d = record { class_number = d; actuals = no_actuals }

-- the root class may have instances, and the root procedure is a creator of it without arguments
pub record IsRoot (u : List ClassT) (class_name procedure : List ℕ) : Type 0 where
  pub number : ℕ
  pub named : class_number u class_name ≡ Some number
  pub creatable : (system_over u).is_creatable number ≡ true
  pub made : IsMade (system_over u) (root_type number)
  pub creator : IsCreator u (root_type number) procedure []

-- bodies with any bounds do not go wrong
abbrev pub BodiesRun : Type 0
BodiesRun = (u : List ClassT) → UniverseLaws u → (turns n : ℕ)
    → RunsBodies u (level (system_over u) turns n)

-- nor do runs
abbrev pub RunsAreSound : Type 0
RunsAreSound =
    (u : List ClassT) → UniverseLaws u → (class_name procedure : List ℕ)
    → IsRoot u class_name procedure
    → (n : ℕ) → IsWrong (run n (system_over u) class_name procedure) → ⊥

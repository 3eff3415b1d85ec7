-- What the run of instructions without faults keeps.
use Rattle.std.specs.Prelude.{ℕ, List}
use Rattle.eif_tree.specs.Tree.{Inss, ClassT}
use Rattle.eif_body_rules.specs.Facts.{Fact}
use Rattle.eif_body_rules.specs.KnownFacts.{known_after_all}
use Rattle.eif_body_rules.specs.LocalFlow.{set_after_all}
use Rattle.eif_flow_rules.specs.FieldSets.{FieldSet}
use Rattle.eif_flow_rules.specs.FlowSteps.{compound_flow}
use Rattle.eif_meaning.specs.Values.{State}
use Rattle.eif_meaning.specs.Execution.{execute_all}
use Rattle.eif_valid_bodies.specs.ValidInstructions.{ValidCompound}
use Rattle.eif_run_laws.specs.Holders.{Grow}
use Rattle.eif_run_laws.specs.Steps.{Safe, heap_of}
use Rattle.eif_run_sound.specs.Bodies.{Running, frame_of, setting_of, meanings_of}
use Rattle.eif_run_sound.specs.ExpressionRuns.{MetOn, behind_on, HidesNone, IsTypeOfText}
use Rattle.eif_run_sound.specs.Invariant.{Good}
use Rattle.eif_spelled_trees.specs.WrittenTexts.{CompoundIsWritten}

-- objects stayed, and the invariant holds with this known and set
pub record Done (u : List ClassT) (r : Running u) (k : List Fact) (set : List (List ℕ))
    (f : FieldSet) (s v : State)
    (o : Unit {0}) : Type 0 where
  pub grown : Grow (heap_of s) (heap_of v)
  pub good : Good u r k set f v

-- a compound ends with what is known and set behind it
abbrev pub CompoundsKeep : (u : List ClassT) → Running u → Type 0
CompoundsKeep u r =
    (k : List Fact) (set hidden : List (List ℕ)) (f : FieldSet) (is : Inss)
    → ValidCompound (setting_of u r) k set is → CompoundIsWritten (IsTypeOfText u r) is
    → HidesNone u r hidden
    → MetOn u r (compound_flow (meanings_of u r) hidden is) f
    → (s : State) → Good u r k set f s
    → Safe (execute_all (frame_of u r) is s)
    (Done u r (known_after_all (setting_of u r) k is) (set_after_all set is)
    (behind_on u r (compound_flow (meanings_of u r) hidden is) f) s)

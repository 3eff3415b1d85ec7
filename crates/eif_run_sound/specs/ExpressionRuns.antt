-- What the run of an expression without faults keeps and gives.
use Rattle.std.specs.Prelude.{◌≡◌, ℕ, Bool, true, List, map, Option, Some, None}
use Rattle.eif_base.specs.Numbering.{is_among}
use Rattle.eif_tree.specs.Tree.{TypeT, Ex, Exs, ClassT}
use Rattle.eif_classes.specs.Signatures.{signature}
use Rattle.eif_classes.specs.Types.{TyT}
use Rattle.eif_system.specs.Lineage.{line_of}
use Rattle.eif_body_rules.specs.Conditions as conditions
use Rattle.eif_body_rules.specs.CallRules.{Argument}
use Rattle.eif_body_rules.specs.ExpressionTypes.{judge, judge_all, facts}
use Rattle.eif_body_rules.specs.Facts.{Fact}
use Rattle.eif_body_rules.specs.TestRules.{test_names, test_names_in}
use Rattle.eif_flow_rules.specs.FieldSets.{FieldSet}
use Rattle.eif_flow_rules.specs.FlowSteps.{expression_flow, arguments_flow}
use Rattle.eif_flow_rules.specs.FlowTrees.{Flow}
use Rattle.eif_meaning.specs.Values.{Value, void, boolean, Seen, State}
use Rattle.eif_meaning.specs.Evaluation.{evaluate, evaluate_all}
use Rattle.eif_meaning.specs.Frames.{Entity, entity}
use Rattle.eif_meaning.specs.System.{system_over}
use Rattle.eif_valid_bodies.specs.SetReads.{SetReads, SetReadsIn}
use Rattle.eif_valid_bodies.specs.Valid.{Valid}
use Rattle.eif_run_laws.specs.Holders.{AllFit}
use Rattle.eif_run_laws.specs.Steps.{Safe, heap_of}
use Rattle.eif_run_sound.specs.Bodies.{Running, frame_of, setting_of, meanings_of, written, closed}
use Rattle.eif_run_sound.specs.Fields.{Met, behind}
use Rattle.eif_run_sound.specs.Invariant.{Gives, Held, held_in, Good, Later}
use Rattle.eif_run_sound.specs.UniverseLaws.{IsTypeIn}
use Rattle.eif_spelled_trees.specs.WrittenTexts.{IsWritten, AreWritten}

-- the name is that of an argument or a local
abbrev pub IsEntity : Option Entity → Type 0
IsEntity None = ⊥
IsEntity (Some e) = Unit {0}

-- what the value tells: the facts of the expression; what a name holds; that `Void` is Void
pub record Told (u : List ClassT) (r : Running u) (k : List Fact) (n : List (List ℕ)) (e : Ex)
    (o : Option Seen) (s : State)
    : Type 0 where
  pub held : (w : Seen) (b : Bool) → o ≡ Some w → w.value ≡ boolean b
      → Held u r (facts (setting_of u r) k n b e) s
  pub read : (w : Seen) (x : List ℕ) → o ≡ Some w → conditions.name_in e ≡ Some x
      → IsEntity (entity r.declaration.tree x) → held_in u r s x ≡ Some w.value
  pub void : (w : Seen) → o ≡ Some w → conditions.is_void e ≡ true → w.value ≡ void

-- the flow of the expression in the body
abbrev pub flow_of : (u : List ClassT) → Running u → List (List ℕ) → Ex → Flow
flow_of u r hidden e = expression_flow (meanings_of u r) hidden e

abbrev pub flow_of_all : (u : List ClassT) → Running u → List (List ℕ) → Exs → Flow
flow_of_all u r hidden es = arguments_flow (meanings_of u r) hidden es

-- on the object of the body: each node of the text finds what it needs, and what is set behind it
abbrev pub MetOn : (u : List ClassT) → Running u → Flow → FieldSet → Type 0
MetOn u r t f = Met u r.type.class_number t f

abbrev pub behind_on : (u : List ClassT) → Running u → Flow → FieldSet → FieldSet
behind_on u r t f = behind u r.type.class_number t f

-- the names that hide features are no features of the class
abbrev pub HidesNone : (u : List ClassT) → Running u → List (List ℕ) → Type 0
HidesNone u r hidden =
    (x : List ℕ) → is_among hidden x ≡ true → signature u
    (line_of u r.declaration.class_number) x ≡ None

-- at its end nothing has changed but test locals of the expression, the invariant holds, with what the expression sets,
-- and it gives a value of its type
pub record Evaluated (u : List ClassT) (r : Running u) (k : List Fact) (n set : List (List ℕ))
    (f : FieldSet) (e : Ex)
    (t : TyT) (s : State) (v : State) (o : Option Seen) : Type 0 where
  pub later : Later (test_names e) s v
  pub good : Good u r k set f v
  pub gives : Gives u r (heap_of v) (Some t) o
  pub told : Told u r k n e o v

-- the types of arguments
abbrev pub types_of : List Argument → List TyT
types_of args = map (λ a. a.type) args

pub record AllEvaluated (u : List ClassT) (r : Running u) (k : List Fact) (set : List (List ℕ))
    (f : FieldSet) (es : Exs)
    (given : List Argument) (s : State) (v : State) (vs : List Value) : Type 0 where
  pub later : Later (test_names_in es) s v
  pub good : Good u r k set f v
  pub fit : AllFit (system_over u) (heap_of v) (map (closed r) (types_of given)) vs

-- a type that the text writes is a type of the class
abbrev pub IsTypeOfText : (u : List ClassT) → Running u → TypeT → Type 0
IsTypeOfText u r t = IsTypeIn u r.declaration.class_number (written u r t)

-- ---- the law

pub record ExpressionsKeep (u : List ClassT) (r : Running u) : Type 0 where
  pub expression :
      (k : List Fact) (n set hidden : List (List ℕ)) (f : FieldSet) (e : Ex) (t : TyT)
      → Valid (judge (setting_of u r) k n e) t → SetReads (setting_of u r) k n set e
      → IsWritten (IsTypeOfText u r) e → HidesNone u r hidden → MetOn u r (flow_of u r hidden e) f
      → (s : State) → Good u r k set f s
      → Safe (evaluate (frame_of u r) e s)
      (Evaluated u r k n set (behind_on u r (flow_of u r hidden e) f) e t s)
  pub arguments :
      (k : List Fact) (n set hidden : List (List ℕ)) (f : FieldSet) (es : Exs)
      (given : List Argument)
      → Valid (judge_all (setting_of u r) k n es) given → SetReadsIn (setting_of u r) k n set es
      → AreWritten (IsTypeOfText u r) es → HidesNone u r hidden
      → MetOn u r (flow_of_all u r hidden es) f
      → (s : State) → Good u r k set f s
      → Safe (evaluate_all (frame_of u r) es s)
      (AllEvaluated u r k set (behind_on u r (flow_of_all u r hidden es) f) es given s)

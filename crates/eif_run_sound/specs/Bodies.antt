-- A body that runs, and what a runner of bodies promises.
use Rattle.std.specs.Prelude.{◌≡◌, ℕ, false, List, Option, Some, None, slice_get}
use Rattle.eif_tree.specs.Members.{result_name}
use Rattle.eif_tree.specs.Tree.{TypeT, ClassT}
use Rattle.eif_classes.specs.Entries.{Declaration}
use Rattle.eif_classes.specs.Features.{declaration_of, is_attribute}
use Rattle.eif_classes.specs.Resolution.{resolved}
use Rattle.eif_classes.specs.Signatures.{Signature, declared_signature, with_actuals}
use Rattle.eif_classes.specs.Types.{TyT, Actuals, put_in}
use Rattle.eif_feature_rules.specs.DeclarationRules.{is_deferred_kind}
use Rattle.eif_system.specs.Lineage.{line_of}
use Rattle.eif_body_rules.specs.BodyRules.{in_body}
use Rattle.eif_body_rules.specs.Settings.{Setting}
use Rattle.eif_flow_rules.specs.FieldSets.{FieldSet}
use Rattle.eif_flow_rules.specs.FlowSteps.{Meanings}
use Rattle.eif_flow_rules.specs.FlowTrees.{Flow}
use Rattle.eif_flow_rules.specs.VersionFlows.{meanings_in, version_flow}
use Rattle.eif_meaning.specs.Values.{Value, ClassType, Object, Store}
use Rattle.eif_meaning.specs.System.{system_over}
use Rattle.eif_meaning.specs.Objects.{object_of}
use Rattle.eif_meaning.specs.Frames.{Body, Runner, Frame, entity}
use Rattle.eif_meaning.specs.Run.{frame}
use Rattle.eif_valid_bodies.specs.ValidBodies.{ValidEntities}
use Rattle.eif_run_laws.specs.ObjectTypes.{IsMade, Over}
use Rattle.eif_run_laws.specs.Holders.{AllFit, Answers, IsHeap, Grow}
use Rattle.eif_run_laws.specs.Steps.{Safe}
use Rattle.eif_run_sound.specs.Fields.{Ready, Met, behind}

-- ---- declarations

-- the class text declares it, and it is a routine or a constant
pub record IsRoutine (u : List ClassT) (y : Declaration) : Type 0 where
  pub text : ClassT
  pub at : slice_get u y.class_number ≡ Some text
  pub declares : declaration_of text y.name ≡ Some y.tree
  pub no_field : is_attribute y.tree.kind ≡ false
  pub effective : is_deferred_kind y.tree.kind ≡ false

-- its signature, with the actuals that its class has on an object
abbrev pub signature_on : List ClassT → ClassT → Declaration → Actuals → Signature
signature_on u text y xs = with_actuals xs (declared_signature u text y.tree)

-- what it does to the fields of an object of class d
abbrev pub flow_on : List ClassT → ℕ → Declaration → Flow
flow_on u d y = version_flow u (line_of u d) y

-- ---- calls of bodies

-- a body may begin on a value: the heap is sound, its arguments fit, and what it needs is set
pub record Enters (u : List ClassT) (h : List Object) (v : Value) (y : Declaration) (xs : Actuals)
    (vs : List Value)
    (f : FieldSet) : Type 0 where
  pub routine : IsRoutine u y
  pub heap : IsHeap (system_over u) h
  pub object : Object
  pub there : object_of h v ≡ Some object
  pub over : Over (system_over u) object.made y.class_number xs
  pub ready : Ready u f object
  pub met : Met u object.made.class_number (flow_on u object.made.class_number y) f
  pub fit : AllFit (system_over u) h (signature_on u routine.text y xs).arguments vs

-- what it leaves: a sound heap in which objects stayed, its answer, and what it surely sets
pub record Leaves (u : List ClassT) (h : List Object) (v : Value) (y : Declaration) (xs : Actuals)
    (f : FieldSet)
    (text : ClassT) (t : Store) (a : Option Value) : Type 0 where
  pub heap : IsHeap (system_over u) t.heap
  pub grown : Grow h t.heap
  pub answers : Answers (system_over u) t.heap (signature_on u text y xs).result a
  pub ready : (o : Object) → object_of t.heap v ≡ Some o
      → Ready u (behind u o.made.class_number (flow_on u o.made.class_number y) f) o

abbrev pub body_of : Declaration → Actuals → Body
body_of y xs = record { declaration = y; actuals = xs }

-- bodies that may begin do not go wrong
abbrev pub RunsBodies : List ClassT → Runner → Type 0
RunsBodies u again =
    (v : Value) (y : Declaration) (xs : Actuals) (vs : List Value) (f : FieldSet) (s : Store)
    → (e : Enters u s.heap v y xs vs f)
    → Safe (again v (body_of y xs) vs s) (Leaves u s.heap v y xs f e.routine.text)

-- ---- a body that runs

-- of which class and on which object it runs
pub record Running (u : List ClassT) : Type 0 where
  pub turns : ℕ
  pub again : Runner
  pub runs : RunsBodies u again
  pub current : Value
  pub declaration : Declaration
  pub open declaration use *
  pub text : ClassT
  pub at : slice_get u declaration.class_number ≡ Some text
  pub declares : declaration_of text declaration.name ≡ Some declaration.tree
  pub actuals : Actuals
  pub given : List Value
  -- the type of the object, and the actuals of the class of the text on it
  pub type : ClassType
  pub made : IsMade (system_over u) type
  pub over : Over (system_over u) type declaration.class_number actuals

abbrev pub frame_of : (u : List ClassT) → Running u → Frame
frame_of u r = frame (system_over u) r.turns r.again r.current
    (body_of r.declaration r.actuals) r.given

-- where the text stands
abbrev pub setting_of : (u : List ClassT) → Running u → Setting
setting_of u r = in_body u r.declaration.class_number r.text r.declaration.tree

-- a type that the text writes, and one that it sees, closed by the actuals
abbrev pub written : (u : List ClassT) → Running u → TypeT → TyT
written u r t = resolved u r.text t

abbrev pub closed : {u : List ClassT} → Running u → TyT → TyT
closed r t = put_in r.actuals t

-- its text is that of a routine, called by the first name that it declares, with arguments and locals that are no
-- features, and none is called Result
pub record IsWrittenRoutine (u : List ClassT) (r : Running u) : Type 0 where
  pub no_field : is_attribute r.declaration.tree.kind ≡ false
  pub effective : is_deferred_kind r.declaration.tree.kind ≡ false
  pub entities : ValidEntities (setting_of u r)
  pub no_result : entity r.declaration.tree result_name ≡ None
  pub named : (setting_of u r).declared ≡ Some r.declaration.name

-- what its names do to the fields of the object
abbrev pub meanings_of : (u : List ClassT) → Running u → Meanings
meanings_of u r = meanings_in u (line_of u r.type.class_number) r.declaration

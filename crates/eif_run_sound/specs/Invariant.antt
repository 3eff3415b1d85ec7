-- What holds of the state of a body while it runs: k is what is known, set the locals that are surely set, and f the
-- fields of the object that are.
use Rattle.std.specs.Prelude.{◌≡◌, ℕ, true, false, List, Option, Some, None}
use Rattle.eif_base.specs.Numbering.{is_among}
use Rattle.eif_tree.specs.Members.{result_name}
use Rattle.eif_tree.specs.Tree.{TypeT, ClassT}
use Rattle.eif_classes.specs.Signatures.{signature}
use Rattle.eif_classes.specs.Types.{TyT, attached_form}
use Rattle.eif_system.specs.Lineage.{line_of}
use Rattle.eif_body_rules.specs.Facts.{Fact, Usable, is_known_attached, usable_test}
use Rattle.eif_flow_rules.specs.FieldSets.{FieldSet}
use Rattle.eif_meaning.specs.Values.{Value, Object, Seen, State}
use Rattle.eif_meaning.specs.System.{system_over}
use Rattle.eif_meaning.specs.Objects.{object_of}
use Rattle.eif_meaning.specs.Frames.{Entity, argument, local, entity}
use Rattle.eif_meaning.specs.Calls.{is_void}
use Rattle.eif_valid_bodies.specs.SetReads as reads
use Rattle.eif_run_laws.specs.Holders.{IsSet, Fits, IsHeap, Grow}
use Rattle.eif_run_laws.specs.Steps.{heap_of}
use Rattle.eif_run_sound.specs.Bodies.{Running, frame_of, written, closed}
use Rattle.eif_run_sound.specs.Fields.{Ready}

-- ---- values

-- a value fits a type that the text sees, and is seen under that type, but for the mark
pub record Shows (u : List ClassT) (r : Running u) (heap : List Object) (t : TyT)
    (w : Seen) : Type 0 where
  pub fits : Fits (system_over u) heap (closed r t) w.value
  pub seen : attached_form w.type ≡ attached_form t

-- an expression of a type gives such a value, and one without type gives none
abbrev pub Gives : (u : List ClassT) → Running u → List Object → Option TyT → Option Seen → Type 0
Gives u r heap None None = Unit {0}
Gives u r heap (Some t) (Some w) = Shows u r heap t w
Gives u r heap _ _ = ⊥

-- ---- names

-- what an argument or a local holds
abbrev pub held_by : (u : List ClassT) → Running u → State → List ℕ → Option Entity → Option Value
held_by u r s x None = None
held_by u r s x (Some (argument t)) = (frame_of u r).argument x
held_by u r s x (Some (local t)) = s.local x

abbrev pub held_in : (u : List ClassT) → Running u → State → List ℕ → Option Value
held_in u r s x = held_by u r s x (entity r.declaration.tree x)

-- the name is that of no argument, local or feature
pub record DenotesNothing (u : List ClassT) (r : Running u) (x : List ℕ) : Type 0 where
  pub entity_none : entity r.declaration.tree x ≡ None
  pub feature_none : signature u (line_of u r.declaration.class_number) x ≡ None

-- ---- facts

-- what is known is so: attached names hold something else than Void, usable tests are bound to what their type says
pub record Held (u : List ClassT) (r : Running u) (k : List Fact) (s : State) : Type 0 where
  pub attached : (x : List ℕ) → is_known_attached k x ≡ true → (v : Value)
      → held_in u r s x ≡ Some v → is_void v ≡ false
  pub usable : (x : List ℕ) (w : Usable) (t : TyT) → usable_test k x ≡ Some w → w.type ≡ Some t
      → (v : Seen) × (s.test x ≡ Some v) × Shows u r (heap_of s) t v

-- ---- the invariant

pub record Good (u : List ClassT) (r : Running u) (k : List Fact) (set : List (List ℕ))
    (f : FieldSet) (s : State)
    : Type 0 where
  pub heap : IsHeap (system_over u) (heap_of s)
  -- Current is an object of its type, whose fields in f are set
  pub object : Object
  pub there : object_of (heap_of s) r.current ≡ Some object
  pub made : object.made ≡ r.type
  pub ready : Ready u f object
  -- each argument has a value, which fits
  pub arguments : (x : List ℕ) (t : TypeT) → entity r.declaration.tree x ≡ Some (argument t)
      → (v : Value) × ((frame_of u r).argument x ≡ Some v)
      × Fits (system_over u) (heap_of s) (closed r (written u r t)) v
  -- what a local holds fits, and it holds a value where it has one from the start or is in set
  pub locals : (x : List ℕ) (t : TypeT) → entity r.declaration.tree x ≡ Some (local t)
      → (v : Value) → s.local x ≡ Some v → Fits (system_over u) (heap_of s) (closed r
      (written u r t)) v
  pub locals_set : (x : List ℕ) (t : TypeT) → entity r.declaration.tree x ≡ Some (local t)
      → reads.IsSet set x (written u r t) → IsSet (s.local x)
  -- and so of Result
  pub result : (t : TypeT) → r.declaration.tree.result_type ≡ Some t
      → (v : Value) → s.result ≡ Some v → Fits (system_over u) (heap_of s) (closed r
      (written u r t)) v
  pub result_set : (t : TypeT) → r.declaration.tree.result_type ≡ Some t
      → reads.IsSet set result_name (written u r t) → IsSet s.result
  -- each bound test local fits the type that it was bound with, and hides nothing
  pub tests : (x : List ℕ) (w : Seen) → s.test x ≡ Some w
      → Fits (system_over u) (heap_of s) (closed r w.type) w.value × DenotesNothing u r x
  -- what is known is so
  pub known : Held u r k s

-- ---- what an expression leaves as it is

-- a later state: objects stayed, and no local, Result or test local but those of the names has changed
pub record Later (names : List (List ℕ)) (s t : State) : Type 0 where
  pub grown : Grow (heap_of s) (heap_of t)
  pub local : (x : List ℕ) → t.local x ≡ s.local x
  pub result : t.result ≡ s.result
  pub test : (x : List ℕ) → is_among names x ≡ false → t.test x ≡ s.test x

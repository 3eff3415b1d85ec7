-- What a run works on: values, objects, the store, the state of a body, and how a step may end.
use Rattle.std.specs.Prelude.{ℕ, ℤ, Bool, List, Option, Some, None}
use Rattle.eif_classes.specs.Types.{TyT, Actuals}

-- a reference is the number of an object in the heap
pub data Value : Type 0 where
  void : Value
  integer : ℤ → Value
  boolean : Bool → Value
  character : ℕ → Value
  reference : ℕ → Value

-- a closed class type without its mark: a class by its number, and its actuals
pub record ClassType : Type 0 where
  pub class_number : ℕ
  pub actuals : Actuals

-- what an object holds beside its fields: the bytes of a STRING; the lowest index and the values of an ARRAY
pub record Content : Type 0 where
  pub bytes : List ℕ
  pub lowest : ℤ
  pub values : List Value

-- an object: the type that it was made of, and what its fields hold; a field that holds nothing is unset
pub record Object : Type 0 where
  pub made : ClassType
  pub field : List ℕ → Option Value
  pub content : Content

-- the objects, and the bytes printed so far
pub record Store : Type 0 where
  pub heap : List Object
  pub printed : List ℕ

-- a value with the type under which the text sees it, over the formals of the class of the text
pub record Seen : Type 0 where
  pub value : Value
  pub type : TyT

-- what the run of a body changes: the store, its locals, its result, and the locals of its tests that are bound
pub record State : Type 0 where
  pub store : Store
  pub local : List ℕ → Option Value
  pub result : Option Value
  pub test : List ℕ → Option Seen

-- how a run goes wrong
pub data Wrong : Type 0 where
  -- the target of a qualified call is Void
  void_target : Wrong
  -- a field, a local or `Result` is read while it is unset, or a function ends with its `Result` unset
  unset : Wrong
  -- a name, a binding or a class is missing; a binding is deferred; a class may not be created; a count of arguments
  -- differs; a call without result is used as a value; an operand, an argument of a built-in body or a target is of no
  -- kind that is taken
  no_feature : Wrong
  -- a condition or an exit gives no boolean
  not_boolean : Wrong

-- how a step ends: with a state and what it gives, stopped, cut off at the bound, or wrong; with the bytes printed
pub data Outcome (S A : Type 0) : Type 0 where
  done : S → A → Outcome S A
  stopped : List ℕ → Outcome S A
  cut_off : List ℕ → Outcome S A
  wrong : Wrong → List ℕ → Outcome S A

-- what comes after an outcome that is done
abbrev pub after : {S T A B : Type 0} → Outcome S A → (S → A → Outcome T B) → Outcome T B
after (done s a) f = f s a
after (stopped w) f = stopped w
after (cut_off w) f = cut_off w
after (wrong k w) f = wrong k w

-- a step of a body's run
abbrev pub Does : Type 0 → Type 0
Does A = State → Outcome State A

-- one step after another
infixl 10 ◌>>=◌
abbrev pub ◌>>=◌ : {A B : Type 0} → Does A → (A → Does B) → Does B
(m >>= f) s = after (m s) (λ s' a. f a s')

-- gives what is there
abbrev pub give : {A : Type 0} → A → Does A
give a s = done s a

-- goes wrong
abbrev pub fail : {A : Type 0} → Wrong → Does A
fail k s = wrong k s.store.printed

-- stops
abbrev pub stop : {A : Type 0} → Does A
stop s = stopped s.store.printed

-- goes on with what is there, or goes wrong
abbrev pub some_or : {A B : Type 0} → Wrong → Option A → (A → Does B) → Does B
some_or k None f = fail k
some_or k (Some a) f = f a

-- goes on with what is there, or stops
abbrev pub some_or_stop : {A B : Type 0} → Option A → (A → Does B) → Does B
some_or_stop None f = stop
some_or_stop (Some a) f = f a

-- a value is wanted: a call without result gives none
abbrev pub need : Option Seen → Does Seen
need o = some_or no_feature o give

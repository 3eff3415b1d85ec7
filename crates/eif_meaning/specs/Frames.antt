-- Where a text runs: its body, Current, and what its names stand for.
use Rattle.std.specs.Prelude.{ℕ, Bool, true, false, ◌&&◌, ◌==◌, List, [], ◌∷◌, length, flat_map, Option, Some, None, find}
use Rattle.std.specs.Option.{option_map, option_and_then}
use Rattle.eif_tree.specs.declared.tree.NameAt.{NameAt}
use Rattle.eif_tree.specs.Members.{has_name}
use Rattle.eif_tree.specs.Tree.{TypeT, GroupT, KindT, constant, routine, DeclT}
use Rattle.eif_classes.specs.Entries.{Declaration}
use Rattle.eif_classes.specs.Features.{local_groups}
use Rattle.eif_classes.specs.Types.{TyT, Actuals, put_in}
use Rattle.eif_meaning.specs.Values.{Value, Store, State, Outcome}
use Rattle.eif_meaning.specs.System.{System}
use Rattle.eif_meaning.specs.Objects.{set_at, start}

-- a body on an object: a declaration, and the closed actuals that its class has there
pub record Body : Type 0 where
  pub declaration : Declaration
  pub open declaration use *
  pub actuals : Actuals

-- the run of a body on a value, with arguments; it gives no value where the body is no function
abbrev pub Runner : Type 0
Runner = Value → Body → List Value → Store → Outcome Store (Option Value)

-- where a body runs
pub record Frame : Type 0 where
  pub system : System
  -- how many turns one execution of a loop may take
  pub turns : ℕ
  -- runs what is called
  pub again : Runner
  pub current : Value
  pub body : Body
  pub open body use *
  pub argument : List ℕ → Option Value

-- ---- types

-- a type that the text writes, over the formals of its class
abbrev pub written_type : Frame → TypeT → TyT
written_type c t = c.system.resolve c.class_number t

-- a type that the text sees, with the actuals of the frame in the place of formals
abbrev pub closed_type : Frame → TyT → TyT
closed_type c t = put_in c.actuals t

-- ---- entities

-- an argument or a local, with the type that is written
pub data Entity : Type 0 where
  argument : TypeT → Entity
  local : TypeT → Entity

-- the type of the first that has the name
abbrev pub type_in : List GroupT → List ℕ → Option TypeT
type_in groups x = option_map (λ g. g.type_tree) (find (λ g. has_name g.names x) groups)

-- an argument hides a local
abbrev pub entity_by : Option TypeT → Option TypeT → Option Entity
entity_by (Some t) o = Some (argument t)
entity_by None (Some t) = Some (local t)
entity_by None None = None

-- the entity of a name, if it has one
abbrev pub entity : DeclT → List ℕ → Option Entity
entity d x = entity_by (type_in d.arguments x) (type_in (local_groups d.kind) x)

-- ---- how a body begins

-- one for each argument
abbrev pub argument_names : DeclT → List NameAt
argument_names d = flat_map (λ g. g.names) d.arguments

-- a constant is a routine
abbrev pub is_routine : KindT → Bool
is_routine (constant x) = true
is_routine (routine groups body) = true
is_routine _ = false

-- the declaration is a routine with so many arguments
abbrev pub takes : DeclT → List Value → Bool
takes d vs = is_routine d.kind && (length (argument_names d) == length vs)

-- the values by the names of the arguments; of several of one name the first counts
abbrev pub arguments_by : List NameAt → List Value → List ℕ → Option Value
arguments_by [] vs = λ x. None
arguments_by (n ∷ ns) [] = λ x. None
arguments_by (n ∷ ns) (v ∷ vs) = set_at n.name (Some v) (arguments_by ns vs)

-- a local and `Result` begin by their types as the class of the body declares them; no test local is bound
abbrev pub first_state : System → Body → Store → State
first_state system b s = record {
  store = s;
  local = λ x. option_and_then (λ t. start (system.resolve b.class_number t)) (type_in (local_groups b.tree.kind) x);
  result = option_and_then (λ t. start (system.resolve b.class_number t)) b.tree.result_type;
  test = λ x. None;
}

-- What a parser may set out to read, by kind, and what it finds. A room is the height that is left.
use Rattle.std.specs.Prelude.{ℕ, List, Option}
use Rattle.eif_base.specs.declared.Place.{Place}
use Rattle.eif_tree.specs.declared.NameAt.{NameAt}
use Rattle.eif_tree.specs.declared.RenamePair.{RenamePair}
use Rattle.eif_tree.specs.declared.Literal.{Literal}
use Rattle.eif_tree.specs.Tree.{TypeT, Types, Ex, Exs, Ins, Inss, Branches, Otherwise, GroupT, FormalT, ClientsT, ExportT, ParentT, CreatorsT, KindT, DeclT, FeaturesT, ClassT}
use Rattle.eif_grammar.specs.declared.terminal.Terminal.{Terminal}
use Rattle.eif_grammar.specs.Tokens.{Token}

pub data TypeGoal : Type 0 where
  written : (room : ℕ) → TypeGoal
  -- a type without a mark
  unmarked : (room : ℕ) → TypeGoal
  -- actuals, if there are any, of a type with this room
  actuals : (room : ℕ) → TypeGoal
  -- the actuals after the first, each with this room
  more_types : (room : ℕ) → TypeGoal

abbrev pub TypeFound : TypeGoal → Type 0
TypeFound (written room) = TypeT
TypeFound (unmarked room) = TypeT
TypeFound (actuals room) = Types
TypeFound (more_types room) = Types

-- the creation procedure, if one is named, and its arguments
pub record Creator : Type 0 where
  pub name : Option NameAt
  pub arguments : Exs

pub data ExpressionGoal : Type 0 where
  -- an expression whose operators are of this level and above
  expression : (room least : ℕ) → ExpressionGoal
  -- what goes on after this operand
  climbing : (room least : ℕ) → (left : Ex) → ExpressionGoal
  -- an operand: a test, a chain of calls, or a sign or `not` with an operand
  operand : (room : ℕ) → ExpressionGoal
  -- `as` and a local, if they stand there
  test_local : ExpressionGoal
  chain : (room : ℕ) → ExpressionGoal
  -- the dots after this target
  dots : (room : ℕ) → (left : Ex) → ExpressionGoal
  -- the same, and at least one
  dotted : (room : ℕ) → (left : Ex) → ExpressionGoal
  primary : (room : ℕ) → ExpressionGoal
  -- what stands behind a `Precursor` at that place
  precursor_rest : (room : ℕ) → (place : Place) → ExpressionGoal
  -- what stands behind a created type or target
  creator : (room : ℕ) → ExpressionGoal
  -- arguments, if there are any, of a name with this room
  arguments : (room : ℕ) → ExpressionGoal
  -- one argument or more, each with this room
  listed : (room : ℕ) → ExpressionGoal
  -- the arguments after the first
  others : (room : ℕ) → ExpressionGoal

abbrev pub ExpressionFound : ExpressionGoal → Type 0
ExpressionFound (expression room least) = Ex
ExpressionFound (climbing room least left) = Ex
ExpressionFound (operand room) = Ex
ExpressionFound test_local = Option NameAt
ExpressionFound (chain room) = Ex
ExpressionFound (dots room left) = Ex
ExpressionFound (dotted room left) = Ex
ExpressionFound (primary room) = Ex
ExpressionFound (precursor_rest room place) = Ex
ExpressionFound (creator room) = Creator
ExpressionFound (arguments room) = Exs
ExpressionFound (listed room) = Exs
ExpressionFound (others room) = Exs

pub data InstructionGoal : Type 0 where
  -- all `;` that stand there
  semis : InstructionGoal
  -- assertions, each with this room, which may be 0
  assertions : (room : ℕ) → InstructionGoal
  -- one assertion
  assertion : (room : ℕ) → InstructionGoal
  -- `invariant` and assertions, if they stand there
  invariants : (room : ℕ) → InstructionGoal
  -- a loop's variant, if it stands there
  variant : (room : ℕ) → InstructionGoal
  -- instructions, each with this room, which may be 0
  compound : (room : ℕ) → InstructionGoal
  instruction : (room : ℕ) → InstructionGoal
  target : InstructionGoal
  -- the branches behind `elseif`
  elseifs : (room : ℕ) → InstructionGoal
  -- the branch of `else`, if it stands there
  otherwise : (room : ℕ) → InstructionGoal

abbrev pub InstructionFound : InstructionGoal → Type 0
InstructionFound semis = Unit {0}
InstructionFound (assertions room) = Exs
InstructionFound (assertion room) = Ex
InstructionFound (invariants room) = Exs
InstructionFound (variant room) = Option Ex
InstructionFound (compound room) = Inss
InstructionFound (instruction room) = Ins
InstructionFound target = NameAt
InstructionFound (elseifs room) = Branches
InstructionFound (otherwise room) = Otherwise

pub data ClassGoal : Type 0 where
  notes : ClassGoal
  note_entries : ClassGoal
  note_item : ClassGoal
  more_note_items : ClassGoal
  literal : ClassGoal
  obsolete : ClassGoal
  formals : ClassGoal
  formal : ClassGoal
  more_formals : ClassGoal
  -- one name or more
  names : ClassGoal
  -- the names after the first
  more_names : ClassGoal
  -- the names after the first, and the colon behind them
  colon_names : ClassGoal
  clients : ClassGoal
  rename : ClassGoal
  renames : ClassGoal
  more_renames : ClassGoal
  export : ClassGoal
  exports : ClassGoal
  more_exports : ClassGoal
  -- a clause that begins here and those after it, and the `end`, behind this much of a parent
  clauses : (parent : ParentT) → ClassGoal
  -- the clauses after one, and the `end`
  more_clauses : (parent : ParentT) → ClassGoal
  parent : ClassGoal
  parents : ClassGoal
  more_parents : ClassGoal
  creators : ClassGoal
  group : ClassGoal
  -- the groups of arguments after the first
  more_groups : ClassGoal
  -- the same behind a `;`, where there is at least one
  groups_behind : ClassGoal
  formal_arguments : ClassGoal
  local_groups : ClassGoal
  locals : ClassGoal
  result_type : ClassGoal
  -- assertions behind the first word, and perhaps the second, if they stand there
  conditions : (first second : Terminal) → ClassGoal
  body : ClassGoal
  -- a routine behind its name, arguments and type
  routine_rest : (name : NameAt) → (arguments : List GroupT) → (result_type : Option TypeT) → ClassGoal
  declaration : ClassGoal
  declarations : ClassGoal
  features : ClassGoal
  class_text : ClassGoal

abbrev pub ClassFound : ClassGoal → Type 0
ClassFound notes = Unit {0}
ClassFound note_entries = Unit {0}
ClassFound note_item = Unit {0}
ClassFound more_note_items = Unit {0}
ClassFound literal = Literal
ClassFound obsolete = Unit {0}
ClassFound formals = List FormalT
ClassFound formal = FormalT
ClassFound more_formals = List FormalT
ClassFound names = List NameAt
ClassFound more_names = List NameAt
ClassFound colon_names = List NameAt
ClassFound clients = ClientsT
ClassFound rename = RenamePair
ClassFound renames = List RenamePair
ClassFound more_renames = List RenamePair
ClassFound export = ExportT
ClassFound exports = List ExportT
ClassFound more_exports = List ExportT
ClassFound (clauses p) = ParentT
ClassFound (more_clauses p) = ParentT
ClassFound parent = ParentT
ClassFound parents = List ParentT
ClassFound more_parents = List ParentT
ClassFound creators = List CreatorsT
ClassFound group = GroupT
ClassFound more_groups = List GroupT
ClassFound groups_behind = List GroupT
ClassFound formal_arguments = List GroupT
ClassFound local_groups = List GroupT
ClassFound locals = List GroupT
ClassFound result_type = Option TypeT
ClassFound (conditions first second) = Exs
ClassFound body = KindT
ClassFound (routine_rest n args ty) = DeclT
ClassFound declaration = DeclT
ClassFound declarations = List DeclT
ClassFound features = List FeaturesT
ClassFound class_text = ClassT

pub data Goal : Type 0 where
  type_goal : TypeGoal → Goal
  expression_goal : ExpressionGoal → Goal
  instruction_goal : InstructionGoal → Goal
  class_goal : ClassGoal → Goal
  -- one token
  token : Terminal → Goal

abbrev pub Found : Goal → Type 0
Found (type_goal g) = TypeFound g
Found (expression_goal g) = ExpressionFound g
Found (instruction_goal g) = InstructionFound g
Found (class_goal g) = ClassFound g
Found (token x) = Token

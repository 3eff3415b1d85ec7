-- Before which tokens the goals' optional continuations quit, which goals take a token, and which need room.
use Rattle.std.proofs.Common.{◌≤◌, Bool, true, false, if◌then◌else◌}
use Rattle.eif_grammar.specs.declared.terminal.Terminal.{Terminal}
use Rattle.eif_grammar.specs.declared.terminal.Terminal.TheVariants as t
use Rattle.eif_grammar.specs.Is.{is}
use Rattle.eif_grammar.specs.Goals
use Rattle.eif_grammar.specs.Goals.{TypeGoal, ExpressionGoal, InstructionGoal, ClassGoal, Goal, type_goal, expression_goal, instruction_goal, class_goal, token}

-- ---- where a reading may end

-- what may stand behind a goal's reading so that it ends there
pub data Ending : Type 0 where
  -- anything: the reading ends with a token of its own
  anywhere : Ending
  -- a word or symbol that closes
  at_closing : Ending
  -- the same, but for `do` and `then`
  at_end : Ending
  -- a word or symbol that closes, and isn't one of the two
  at_other : Terminal → Terminal → Ending

-- words and symbols that close what stands before them
abbrev pub closes : Terminal → Bool
closes t.EndOfText = true
closes t.CloseParenthesis = true
closes t.CloseBracket = true
closes t.CloseBrace = true
closes t.Then = true
closes t.Until = true
closes t.Loop = true
closes t.End = true
closes t.Do = true
closes t.Class = true
closes _ = false

-- those behind which neither a routine nor an assertion goes on
abbrev pub ends : Terminal → Bool
ends t.EndOfText = true
ends t.End = true
ends t.Class = true
ends _ = false

abbrev pub stops_at : Ending → Terminal → Bool
stops_at anywhere y = true
stops_at at_closing y = closes y
stops_at at_end y = ends y
stops_at (at_other a b) y = if is a y then false else if is b y then false else closes y

abbrev pub instruction_ending : InstructionGoal → Ending
instruction_ending Goals.target = anywhere
instruction_ending _ = at_closing

abbrev pub class_ending : ClassGoal → Ending
class_ending Goals.note_item = anywhere
class_ending Goals.literal = anywhere
class_ending Goals.colon_names = anywhere
class_ending Goals.clients = anywhere
class_ending Goals.rename = anywhere
class_ending (Goals.clauses p) = anywhere
class_ending (Goals.more_clauses p) = anywhere
class_ending (Goals.conditions first second) = at_other first second
class_ending (Goals.routine_rest n args ty) = anywhere
class_ending Goals.declaration = at_end
class_ending Goals.declarations = at_end
class_ending Goals.features = at_end
class_ending Goals.class_text = anywhere
class_ending _ = at_closing

abbrev pub ending : Goal → Ending
ending (type_goal g) = at_closing
ending (expression_goal g) = at_closing
ending (instruction_goal g) = instruction_ending g
ending (class_goal g) = class_ending g
ending (token x) = anywhere

-- the goal's reading may end before that token
abbrev pub stops : Goal → Terminal → Bool
stops g y = stops_at (ending g) y

-- ---- which goals take a token, whatever they find

abbrev pub type_takes : TypeGoal → Bool
type_takes (Goals.written room) = true
type_takes (Goals.unmarked room) = true
type_takes _ = false

abbrev pub expression_takes : ExpressionGoal → Bool
expression_takes (Goals.expression room least) = true
expression_takes (Goals.operand room) = true
expression_takes (Goals.chain room) = true
expression_takes (Goals.dotted room left) = true
expression_takes (Goals.primary room) = true
expression_takes (Goals.listed room) = true
expression_takes _ = false

abbrev pub instruction_takes : InstructionGoal → Bool
instruction_takes (Goals.assertion room) = true
instruction_takes (Goals.instruction room) = true
instruction_takes Goals.target = true
instruction_takes _ = false

abbrev pub class_takes : ClassGoal → Bool
class_takes Goals.note_item = true
class_takes Goals.literal = true
class_takes Goals.formal = true
class_takes Goals.names = true
class_takes Goals.colon_names = true
class_takes Goals.clients = true
class_takes Goals.rename = true
class_takes Goals.renames = true
class_takes Goals.export = true
class_takes Goals.exports = true
class_takes (Goals.clauses p) = true
class_takes (Goals.more_clauses p) = true
class_takes Goals.parent = true
class_takes Goals.group = true
class_takes Goals.groups_behind = true
class_takes Goals.body = true
class_takes (Goals.routine_rest n args ty) = true
class_takes Goals.declaration = true
class_takes Goals.class_text = true
class_takes _ = false

abbrev pub taking : Goal → Bool
taking (type_goal g) = type_takes g
taking (expression_goal g) = expression_takes g
taking (instruction_goal g) = instruction_takes g
taking (class_goal g) = class_takes g
taking (token x) = true

-- ---- which goals need room

abbrev pub type_room : TypeGoal → Type 0
type_room (Goals.written room) = 1 ≤ room
type_room (Goals.unmarked room) = 1 ≤ room
type_room (Goals.actuals room) = 1 ≤ room
type_room (Goals.more_types room) = 1 ≤ room

abbrev pub expression_room : ExpressionGoal → Type 0
expression_room (Goals.expression room least) = 1 ≤ room
expression_room (Goals.climbing room least left) = 1 ≤ room
expression_room (Goals.operand room) = 1 ≤ room
expression_room Goals.test_local = Unit {0}
expression_room (Goals.chain room) = 1 ≤ room
expression_room (Goals.dots room left) = 1 ≤ room
expression_room (Goals.dotted room left) = 1 ≤ room
expression_room (Goals.primary room) = 1 ≤ room
expression_room (Goals.precursor_rest room place) = 1 ≤ room
expression_room (Goals.creator room) = 1 ≤ room
expression_room (Goals.arguments room) = 1 ≤ room
expression_room (Goals.listed room) = 1 ≤ room
expression_room (Goals.others room) = 1 ≤ room

-- a list of assertions or instructions may have a room of 0: it then refuses its first
abbrev pub instruction_room : InstructionGoal → Type 0
instruction_room (Goals.assertion room) = 1 ≤ room
instruction_room (Goals.variant room) = 1 ≤ room
instruction_room (Goals.instruction room) = 1 ≤ room
instruction_room (Goals.elseifs room) = 1 ≤ room
instruction_room _ = Unit {0}

abbrev pub HasRoom : Goal → Type 0
HasRoom (type_goal g) = type_room g
HasRoom (expression_goal g) = expression_room g
HasRoom (instruction_goal g) = instruction_room g
HasRoom (class_goal g) = Unit {0}
HasRoom (token x) = Unit {0}

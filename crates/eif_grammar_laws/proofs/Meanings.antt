-- What each goal finds, in terms of spellings, but for the parts of a class.
use Rattle.std.proofs.Common.{◌≡◌, ℕ, ◌+◌, ◌≤◌, max, true, ◌==◌, if◌then◌else◌, ◌⊎◌, Option, List}
use Rattle.eif_tree.specs.declared.NameAt.{NameAt}
use Rattle.eif_tree.specs.Tree.{Ex, Exs, no_exs, and_ex, precursor, qualified}
use Rattle.eif_tree.specs.Height.{type_height, types_height, height, heights, maybe_height, instr_height, compound_height, branches_height, otherwise_height}
use Rattle.eif_grammar.specs.declared.terminal.Terminal.TheVariants as t
use Rattle.eif_grammar.specs.Tokens.{Token}
use Rattle.eif_grammar.specs.Forms.{binds, target_level}
use Rattle.eif_grammar.specs.Spelling.{head, ◌⨟◌, nothing, semicolons}
use Rattle.eif_grammar.specs.SpelledTypes.{spells_type, spells_class_type, spells_actuals, spells_more_types}
use Rattle.eif_grammar.specs.SpelledExpressions.{full, undotted, spells, spells_arguments, spells_more, spells_parent_name, spells_test_local, spells_creator, spells_expression}
use Rattle.eif_grammar.specs.SpelledInstructions.{tag, spells_assertions, assertions_behind, spells_variant, spells_target, begins_calls, is_call, spells_instruction, spells_compound, spells_elseifs, spells_otherwise}
use Rattle.eif_grammar.specs.Goals

-- ---- types

abbrev pub TypeMeans : (g : Goals.TypeGoal) → Goals.TypeFound g → List Token → List Token → Type 0
TypeMeans (Goals.written room) ty ts rest = 1 ≤ room → spells_type ty ts rest × (type_height ty ≤ room)
TypeMeans (Goals.unmarked room) ty ts rest = 1 ≤ room → spells_class_type ty ts rest × (type_height ty ≤ room)
TypeMeans (Goals.actuals room) us ts rest = 1 ≤ room → spells_actuals us ts rest × (types_height us + 1 ≤ room)
TypeMeans (Goals.more_types room) us ts rest = 1 ≤ room → spells_more_types us ts rest × (types_height us ≤ room)

-- ---- expressions

-- the level that the operand before an operator with these levels must have: `^` associates to the right
abbrev pub level_before : ℕ → ℕ
level_before b = if b == 7 then 8 else b

-- a call of a name on a target
abbrev pub IsQualified : Ex → Type 0
IsQualified (qualified p e n args) = Unit {0}
IsQualified _ = ⊥

-- the dots behind a target keep what it begins with
pub record GoesOn (left e : Ex) (ts rest : List Token) : Type 0 where
  pub begins : begins_calls left ≡ true → begins_calls e ≡ true
  pub calls : is_call left ≡ true → is_call e ≡ true
  pub same_or_qualified : ((e ≡ left) × (ts ≡ rest)) ⊎ IsQualified e

-- one or more, with commas between
abbrev pub spells_listed : Exs → List Token → List Token → Type 0
spells_listed no_exs ts rest = ⊥
spells_listed (and_ex e es) ts rest = (full 1 (spells e 1) ⨟ spells_more es) ts rest

abbrev pub ExpressionMeans : (g : Goals.ExpressionGoal) → Goals.ExpressionFound g → List Token → List Token → Type 0
ExpressionMeans (Goals.expression room k) e ts rest = 1 ≤ room → 1 ≤ k → k ≤ 8 → full k (spells e k) ts rest × (height e ≤ room)
ExpressionMeans (Goals.climbing room k left) e ts rest =
    1 ≤ room → 1 ≤ k → k ≤ 8 → (front : List Token) → spells left (max k (level_before (binds (head ts)))) front ts → height left ≤ room
    → full k (spells e k) front rest × (height e ≤ room)
ExpressionMeans (Goals.operand room) e ts rest = 1 ≤ room → spells e 8 ts rest × (height e ≤ room)
ExpressionMeans Goals.test_local l ts rest = spells_test_local l ts rest
ExpressionMeans (Goals.chain room) e ts rest = 1 ≤ room → undotted (spells e target_level) ts rest × (height e ≤ room)
ExpressionMeans (Goals.dots room left) e ts rest =
    1 ≤ room → (front : List Token) → spells left target_level front ts → height left ≤ room
    → undotted (spells e target_level) front rest × (height e ≤ room) × GoesOn left e ts rest
ExpressionMeans (Goals.dotted room left) e ts rest =
    1 ≤ room → (front : List Token) → spells left target_level front ts → height left ≤ room
    → undotted (spells e target_level) front rest × (height e ≤ room) × (begins_calls left ≡ true → is_call e ≡ true) × IsQualified e
ExpressionMeans (Goals.primary room) e ts rest = 1 ≤ room → spells e target_level ts rest × (height e ≤ room)
ExpressionMeans (Goals.precursor_rest room p) e ts rest =
    1 ≤ room → (n : Option NameAt) × (args : Exs) × (e ≡ precursor p n args) × (spells_parent_name n ⨟ spells_arguments args) ts rest × (heights args + 1 ≤ room)
ExpressionMeans (Goals.creator room) c ts rest =
    1 ≤ room → spells_creator c.name c.arguments (spells_arguments c.arguments) ts rest × (heights c.arguments + 1 ≤ room)
ExpressionMeans (Goals.arguments room) es ts rest = 1 ≤ room → spells_arguments es ts rest × (heights es + 1 ≤ room)
ExpressionMeans (Goals.listed room) es ts rest = 1 ≤ room → spells_listed es ts rest × (heights es ≤ room)
ExpressionMeans (Goals.others room) es ts rest = 1 ≤ room → spells_more es ts rest × (heights es ≤ room)

-- ---- assertions and instructions

abbrev pub InstructionMeans : (g : Goals.InstructionGoal) → Goals.InstructionFound g → List Token → List Token → Type 0
InstructionMeans Goals.semis u ts rest = semicolons ts rest
InstructionMeans (Goals.assertions room) es ts rest = spells_assertions es ts rest × (heights es ≤ room)
InstructionMeans (Goals.assertion room) e ts rest = 1 ≤ room → (tag ⨟ spells_expression e) ts rest × (height e ≤ room)
InstructionMeans (Goals.invariants room) es ts rest = assertions_behind t.Invariant nothing es ts rest × (heights es ≤ room)
InstructionMeans (Goals.variant room) v ts rest = 1 ≤ room → spells_variant v ts rest × (maybe_height v ≤ room)
InstructionMeans (Goals.compound room) is ts rest = spells_compound is ts rest × (compound_height is ≤ room)
InstructionMeans (Goals.instruction room) i ts rest = 1 ≤ room → spells_instruction i ts rest × (instr_height i ≤ room)
InstructionMeans Goals.target n ts rest = spells_target n ts rest
InstructionMeans (Goals.elseifs room) bs ts rest = 1 ≤ room → spells_elseifs bs ts rest × (branches_height bs ≤ room)
InstructionMeans (Goals.otherwise room) o ts rest = spells_otherwise o ts rest × (otherwise_height o ≤ room)

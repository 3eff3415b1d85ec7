-- Which rules take a token wherever they end.
use Rattle.std.proofs.Common.{◌≡◌, ℕ, true, Some, None, refl, inl, inr}
use Rattle.eif_grammar.specs.Goals
use Rattle.eif_grammar.specs.Goals.{TypeGoal, ExpressionGoal, InstructionGoal, ClassGoal, type_goal, expression_goal, instruction_goal, class_goal, token}
use Rattle.eif_grammar.specs.TypeRules.{TypeStart, with_mark, with_name, no_type, type_start, written_by, type_rule}
use Rattle.eif_grammar.specs.ExpressionRules.{OperandStart, braced, attached, prefixed, chained, operand_start, operand_by, PrimaryStart, no_primary, primary_start, primary_by, expression_rule}
use Rattle.eif_grammar.specs.InstructionRules.{InstructionStart, no_instruction, instruction_start, instruction_by, instruction_rule}
use Rattle.eif_grammar.specs.ClassRules.{LiteralStart, no_literal, literal_start, literal_by, clause_start, clauses_by, class_rule}
use Rattle.eif_grammar.specs.SpelledClasses.{Clause}
use Rattle.eif_tree.specs.Tree.{ParentT}
use Rattle.std.specs.Prelude.{Option}
use Rattle.eif_grammar_laws.proofs.Endings.{type_takes, expression_takes, instruction_takes, class_takes}
use Rattle.eif_grammar_laws.proofs.Stable.{Takes, AllTake}

pub takes_type_start : (room : ℕ) (s : TypeStart) → Takes (written_by room s)
takes_type_start room (with_mark m) = tt
takes_type_start room with_name = tt
takes_type_start room no_type = tt

takes_type : (g : TypeGoal) → type_takes g ≡ true → Takes (type_rule g)
takes_type (Goals.written room) e = λ x. takes_type_start room (type_start x)
takes_type (Goals.unmarked room) e = inl refl
takes_type (Goals.actuals room) e = cc
takes_type (Goals.more_types room) e = cc

pub takes_operand : (room : ℕ) (s : OperandStart) → Takes (operand_by room s)
takes_operand room braced = tt
takes_operand room attached = tt
takes_operand room (prefixed o) = tt
takes_operand room chained = inl refl

pub takes_primary : (room : ℕ) (s : PrimaryStart) → Takes (primary_by room s)
takes_primary room no_primary = tt
takes_primary room _ = tt

takes_expression : (g : ExpressionGoal) → expression_takes g ≡ true → Takes (expression_rule g)
takes_expression (Goals.expression room least) e = inl refl
takes_expression (Goals.operand room) e = λ x. takes_operand room (operand_start x)
takes_expression (Goals.chain room) e = inl refl
takes_expression (Goals.dotted room left) e = inl refl
takes_expression (Goals.primary room) e = λ x. takes_primary room (primary_start x)
takes_expression (Goals.listed room) e = inl refl
takes_expression _ e = cc

pub takes_instruction_start : (room : ℕ) (s : InstructionStart) → Takes (instruction_by room s)
takes_instruction_start room no_instruction = tt
takes_instruction_start room _ = tt

takes_instruction : (g : InstructionGoal) → instruction_takes g ≡ true → Takes (instruction_rule g)
takes_instruction (Goals.assertion room) e = λ x. (λ e. tt, λ e. inl refl)
takes_instruction (Goals.instruction room) e = λ x. takes_instruction_start room (instruction_start x)
takes_instruction Goals.target e = λ x. (λ e. tt, λ e. inl refl)
takes_instruction _ e = cc

pub takes_literal : (s : LiteralStart) → Takes (literal_by s)
takes_literal no_literal = tt
takes_literal _ = tt

pub takes_clause : (p : ParentT) (c : Option Clause) → Takes (clauses_by p c)
takes_clause p None = tt
takes_clause p (Some c) = tt

takes_class : (g : ClassGoal) → class_takes g ≡ true → Takes (class_rule g)
takes_class Goals.note_item e = λ x. (λ e. tt, λ e. inl refl)
takes_class Goals.literal e = λ x. takes_literal (literal_start x)
takes_class Goals.formal e = inl refl
takes_class Goals.names e = inl refl
takes_class Goals.colon_names e = λ x. (λ e. tt, λ e. inl refl)
takes_class Goals.clients e = inl refl
takes_class Goals.rename e = inl refl
takes_class Goals.renames e = inl refl
takes_class Goals.export e = inl refl
takes_class Goals.exports e = inl refl
takes_class (Goals.clauses p) e = λ x. takes_clause p (clause_start x)
takes_class (Goals.more_clauses p) e = λ x. (λ e. inl refl, λ e. inl refl)
takes_class Goals.parent e = inl refl
takes_class Goals.group e = inl refl
takes_class Goals.groups_behind e = λ x. (λ e. tt, λ e. inl refl)
takes_class Goals.body e = λ x. (λ e. tt, λ e. inr (λ ls. inl refl))
takes_class (Goals.routine_rest n args ty) e = inr (λ a. inr (λ pre. inl refl))
takes_class Goals.declaration e = inl refl
takes_class Goals.class_text e = inr (λ a x. (λ e. tt, λ e. inl refl))
takes_class _ e = cc

pub all_take : AllTake
all_take (type_goal g) e = takes_type g e
all_take (expression_goal g) e = takes_expression g e
all_take (instruction_goal g) e = takes_instruction g e
all_take (class_goal g) e = takes_class g e
all_take (token x) e = λ y. tt

-- What was taken before a refusal can be completed, whatever the goal.
use Rattle.std.proofs.Common.{◌≡◌, true, false, Bool, List, Some, refl, ◌⊎◌}
use Rattle.eif_grammar.specs.declared.terminal.Terminal.TheVariants as t
use Rattle.eif_grammar.specs.Tokens.{Token}
use Rattle.eif_grammar.specs.Parts.{most_height}
use Rattle.eif_grammar.specs.Goals
use Rattle.eif_grammar.specs.Goals.{ClassGoal, Goal, type_goal, expression_goal, instruction_goal, class_goal, token}
use Rattle.eif_grammar.specs.ClassRules.{class_from, class_rule}
use Rattle.eif_grammar.specs.Outcomes.{rule, refused, Calls}
use Rattle.eif_grammar_laws.proofs.Endings.{HasRoom}
use Rattle.eif_grammar_laws.proofs.Takes.{all_take}
use Rattle.eif_grammar_laws.proofs.ClassStill.{all_steady}
use Rattle.eif_grammar_laws.proofs.Fronts
use Rattle.eif_grammar_laws.proofs.Fronts.{Alive, Completes}
use Rattle.eif_grammar_laws.proofs.Completions.{Sample, sample_of, ends_call, ends_other, Living, Live, living_next, living_look, living_guard, living_call, live_done, live_call, live_token, live_expect, live_other}
use Rattle.eif_grammar_laws.proofs.TypeViable.{living_type}
use Rattle.eif_grammar_laws.proofs.ExpressionViable.{living_expression}
use Rattle.eif_grammar_laws.proofs.InstructionViable.{no_invariants, living_instruction}
use Rattle.eif_grammar_laws.proofs.ClassWords.{no_notes, no_obsolete, no_formals, no_parents, no_creators, no_features}
use Rattle.eif_grammar_laws.proofs.HeadViable.{living_notes, living_entries, living_item, living_more_items, living_literal, living_obsolete, living_formals, living_formal, living_more_formals, living_names, living_more_names, living_colon_names, living_clients, living_rename, living_renames, living_more_renames, living_export, living_exports, living_more_exports, living_clauses, living_more_clauses, living_parent, living_parents, living_more_parents}
use Rattle.eif_grammar_laws.proofs.FeatureViable.{living_creators, living_group, living_more_groups, living_groups_behind, living_formal_arguments, living_local_groups, living_locals, living_result_type, living_conditions, living_body, living_routine_rest, living_declaration, living_declarations, living_features}

-- ---- the class

live_class_from : (is_deferred : Bool) → Live (class_goal Goals.class_text) (Some t.Class) (class_from is_deferred)
live_class_from is_deferred =
    live_expect (live_token (λ n.
    live_call no_formals tt (λ y st. refl) (λ fs.
    live_call no_obsolete tt (λ y st. refl) (λ u.
    live_call no_parents tt (λ y st. refl) (λ ps.
    live_call no_creators tt (λ y st. refl) (λ cs.
    live_call no_features tt (λ y st. refl) (λ ds.
    live_call (no_invariants most_height) tt (λ y st. refl) (λ is.
    live_call no_notes tt (λ y st. refl) (λ v.
    live_expect live_done)))))))))

living_class_text : Living (class_goal Goals.class_text) (class_rule Goals.class_text)
living_class_text = living_call tt (λ y st. refl) (λ u. live_other (λ y st. refl) (living_next (λ w. live_class_from true)) (live_class_from false))

-- `class a end`
pub a_class : Sample (class_goal Goals.class_text) (Some t.Class)
a_class = sample_of (ends_call no_notes (λ y st. refl) (ends_other (λ y st. refl) (live_class_from false).ends))

living_class : (g : ClassGoal) → Living (class_goal g) (class_rule g)
living_class Goals.notes = living_notes
living_class Goals.note_entries = living_entries
living_class Goals.note_item = living_item
living_class Goals.more_note_items = living_more_items
living_class Goals.literal = living_literal
living_class Goals.obsolete = living_obsolete
living_class Goals.formals = living_formals
living_class Goals.formal = living_formal
living_class Goals.more_formals = living_more_formals
living_class Goals.names = living_names
living_class Goals.more_names = living_more_names
living_class Goals.colon_names = living_colon_names
living_class Goals.clients = living_clients
living_class Goals.rename = living_rename
living_class Goals.renames = living_renames
living_class Goals.more_renames = living_more_renames
living_class Goals.export = living_export
living_class Goals.exports = living_exports
living_class Goals.more_exports = living_more_exports
living_class (Goals.clauses p) = living_clauses p
living_class (Goals.more_clauses p) = living_more_clauses p
living_class Goals.parent = living_parent
living_class Goals.parents = living_parents
living_class Goals.more_parents = living_more_parents
living_class Goals.creators = living_creators
living_class Goals.group = living_group
living_class Goals.more_groups = living_more_groups
living_class Goals.groups_behind = living_groups_behind
living_class Goals.formal_arguments = living_formal_arguments
living_class Goals.local_groups = living_local_groups
living_class Goals.locals = living_locals
living_class Goals.result_type = living_result_type
living_class (Goals.conditions a b) = living_conditions a b
living_class Goals.body = living_body
living_class (Goals.routine_rest n args ty) = living_routine_rest n args ty
living_class Goals.declaration = living_declaration
living_class Goals.declarations = living_declarations
living_class Goals.features = living_features
living_class Goals.class_text = living_class_text

-- ---- all goals

all_alive : (g : Goal) → HasRoom g → Alive g (rule g)
all_alive (type_goal g) ok = (living_type g ok).alive
all_alive (expression_goal g) ok = (living_expression g ok).alive
all_alive (instruction_goal g) ok = (living_instruction g ok).alive
all_alive (class_goal g) ok = (living_class g).alive
all_alive (token x) ok = living_token_rule.alive
  where
    living_token_rule : Living (token x) (rule (token x))
    living_token_rule = living_look (λ y. living_guard (λ e. living_next (λ n. live_done)))

-- a goal that is refused has taken nothing, or what it has taken can be completed
pub fronts : (g : Goal) (ts e : List Token) → HasRoom g → Calls g ts (refused e) → (e ≡ ts) ⊎ Completes g ts e
fronts g ts e ok c = Fronts.fronts all_steady all_take all_alive g ts e ok c

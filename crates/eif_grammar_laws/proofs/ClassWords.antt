-- Words that complete the parts of a class: none where none must stand, else the shortest.
use Rattle.std.proofs.Common.{List, Option, Some, None, refl}
use Rattle.eif_tree.specs.declared.NameAt.{NameAt}
use Rattle.eif_tree.specs.Tree.{TypeT, GroupT, ParentT}
use Rattle.eif_grammar.specs.declared.terminal.Terminal.{Terminal}
use Rattle.eif_grammar.specs.declared.terminal.Terminal.TheVariants as t
use Rattle.eif_grammar.specs.Parts.{most_height}
use Rattle.eif_grammar.specs.Goals
use Rattle.eif_grammar.specs.Goals.{class_goal}
use Rattle.eif_grammar_laws.proofs.Endings.{at_closing, at_end}
use Rattle.eif_grammar_laws.proofs.Closing.{not_here, closing_clause, other_first}
use Rattle.eif_grammar_laws.proofs.Completions.{Sample, sample_of, one_token, ends_done, ends_call, ends_next, ends_look, ends_found, ends_other}
use Rattle.eif_grammar_laws.proofs.TypeViable.{a_type, a_class_type}
use Rattle.eif_grammar_laws.proofs.InstructionViable.{no_semis, no_instructions}

-- ---- notes and literals

pub no_notes : Sample (class_goal Goals.notes) None
no_notes = sample_of (ends_other (not_here at_closing t.Note refl) ends_done)

pub no_entries : Sample (class_goal Goals.note_entries) None
no_entries = sample_of (ends_other (not_here at_closing t.Identifier refl) ends_done)

pub an_item : Sample (class_goal Goals.note_item) (Some t.Identifier)
an_item = sample_of (ends_found t.Identifier refl (ends_next t.Identifier ends_done))

pub no_more_items : Sample (class_goal Goals.more_note_items) None
no_more_items = sample_of (ends_other (not_here at_closing t.Comma refl) ends_done)

pub a_literal : Sample (class_goal Goals.literal) (Some t.Integer)
a_literal = sample_of (ends_look t.Integer (ends_next t.Integer ends_done))

pub no_obsolete : Sample (class_goal Goals.obsolete) None
no_obsolete = sample_of (ends_other (not_here at_closing t.Obsolete refl) ends_done)

-- ---- formals, names and clients

pub no_formals : Sample (class_goal Goals.formals) None
no_formals = sample_of (ends_other (not_here at_closing t.OpenBracket refl) ends_done)

pub a_formal : Sample (class_goal Goals.formal) (Some t.Identifier)
a_formal = sample_of (ends_call (one_token t.Identifier) (λ y st. refl) (ends_other (not_here at_closing t.Arrow refl) ends_done))

pub no_more_formals : Sample (class_goal Goals.more_formals) None
no_more_formals = sample_of (ends_other (not_here at_closing t.Comma refl) ends_done)

pub no_more_names : Sample (class_goal Goals.more_names) None
no_more_names = sample_of (ends_other (not_here at_closing t.Comma refl) ends_done)

pub a_name : Sample (class_goal Goals.names) (Some t.Identifier)
a_name = sample_of (ends_call (one_token t.Identifier) (λ y st. refl) (ends_call no_more_names (λ y st. st) ends_done))

pub a_colon : Sample (class_goal Goals.colon_names) (Some t.Colon)
a_colon = sample_of (ends_other (λ y st. refl) (ends_call (one_token t.Colon) (λ y st. refl) ends_done))

pub empty_clients : Sample (class_goal Goals.clients) (Some t.OpenBrace)
empty_clients = sample_of (ends_call (one_token t.OpenBrace) (λ y st. refl) (ends_found t.CloseBrace refl (ends_next t.CloseBrace ends_done)))

-- ---- parents

pub a_rename : Sample (class_goal Goals.rename) (Some t.Identifier)
a_rename = sample_of (ends_call (one_token t.Identifier) (λ y st. refl) (ends_call (one_token t.As) (λ y st. refl) (ends_call (one_token t.Identifier) (λ y st. refl) ends_done)))

pub no_more_renames : Sample (class_goal Goals.more_renames) None
no_more_renames = sample_of (ends_other (not_here at_closing t.Comma refl) ends_done)

pub one_rename : Sample (class_goal Goals.renames) (Some t.Identifier)
one_rename = sample_of (ends_call a_rename (λ y st. refl) (ends_call no_more_renames (λ y st. st) ends_done))

pub an_export : Sample (class_goal Goals.export) (Some t.OpenBrace)
an_export = sample_of (ends_call empty_clients (λ y st. refl) (ends_found t.All refl (ends_next t.All ends_done)))

pub no_more_exports : Sample (class_goal Goals.more_exports) None
no_more_exports = sample_of (ends_other (not_here at_closing t.OpenBrace refl) ends_done)

pub one_export : Sample (class_goal Goals.exports) (Some t.OpenBrace)
one_export = sample_of (ends_call an_export (λ y st. st) (ends_call no_semis (λ y st. st) (ends_call no_more_exports (λ y st. st) ends_done)))

pub no_more_clauses : (p : ParentT) → Sample (class_goal (Goals.more_clauses p)) (Some t.End)
no_more_clauses p = sample_of (ends_other (λ y st. refl) (ends_call (one_token t.End) (λ y st. refl) ends_done))

pub a_parent : Sample (class_goal Goals.parent) (Some t.Identifier)
a_parent = sample_of (ends_call (a_class_type most_height) (λ y st. st) (ends_other closing_clause ends_done))

pub no_parents : Sample (class_goal Goals.parents) None
no_parents = sample_of (ends_other (not_here at_closing t.Inherit refl) ends_done)

pub no_more_parents : Sample (class_goal Goals.more_parents) None
no_more_parents = sample_of (ends_other (not_here at_closing t.Identifier refl) ends_done)

-- ---- routines

pub no_creators : Sample (class_goal Goals.creators) None
no_creators = sample_of (ends_other (not_here at_closing t.Create refl) ends_done)

pub a_group : Sample (class_goal Goals.group) (Some t.Identifier)
a_group = sample_of (ends_call (one_token t.Identifier) (λ y st. refl) (ends_call a_colon (λ y st. refl) (ends_call (a_type most_height) (λ y st. st) ends_done)))

pub no_more_groups : Sample (class_goal Goals.more_groups) None
no_more_groups = sample_of (ends_other (not_here at_closing t.Semicolon refl) (ends_other (not_here at_closing t.Identifier refl) ends_done))

pub one_group_behind : Sample (class_goal Goals.groups_behind) (Some t.Identifier)
one_group_behind = sample_of (ends_other (λ y st. refl) (ends_call a_group (λ y st. st) (ends_call no_more_groups (λ y st. st) ends_done)))

pub no_formal_arguments : Sample (class_goal Goals.formal_arguments) None
no_formal_arguments = sample_of (ends_other (not_here at_closing t.OpenParenthesis refl) ends_done)

pub no_local_groups : Sample (class_goal Goals.local_groups) None
no_local_groups = sample_of (ends_other (not_here at_closing t.Identifier refl) ends_done)

pub no_locals : Sample (class_goal Goals.locals) None
no_locals = sample_of (ends_other (not_here at_closing t.Local refl) ends_done)

pub no_result_type : Sample (class_goal Goals.result_type) None
no_result_type = sample_of (ends_other (not_here at_closing t.Colon refl) ends_done)

pub no_conditions : (a b : Terminal) → Sample (class_goal (Goals.conditions a b)) None
no_conditions a b = sample_of (ends_other (other_first a b) ends_done)

pub empty_body : Sample (class_goal Goals.body) (Some t.Do)
empty_body = sample_of (ends_other (λ y st. refl)
    (ends_call no_locals (λ y st. refl) (ends_call (one_token t.Do) (λ y st. refl) (ends_call (no_instructions most_height) (λ y st. st) ends_done))))

-- `do end`
pub empty_routine : (n : NameAt) (args : List GroupT) (ty : Option TypeT) → Sample (class_goal (Goals.routine_rest n args ty)) (Some t.Do)
empty_routine n args ty = sample_of
    (ends_call no_obsolete (λ y st. refl)
    (ends_call (no_conditions t.Require t.Else) (λ y st. refl)
    (ends_call empty_body (λ y st. refl)
    (ends_call (no_conditions t.Ensure t.Then) (λ y st. refl)
    (ends_call (one_token t.End) (λ y st. refl) ends_done)))))

pub no_declarations : Sample (class_goal Goals.declarations) None
no_declarations = sample_of (ends_other (not_here at_end t.Identifier refl) ends_done)

pub no_features : Sample (class_goal Goals.features) None
no_features = sample_of (ends_other (not_here at_end t.Feature refl) ends_done)

-- What was taken of a class's head can be completed: notes, formals, clients and parents.
use Rattle.std.proofs.Common.{◌≤◌, Option, Some, None, refl, arith}
use Rattle.eif_tree.specs.Tree.{ParentT}
use Rattle.eif_grammar.specs.declared.terminal.Terminal.TheVariants as t
use Rattle.eif_grammar.specs.Parts.{most_height}
use Rattle.eif_grammar.specs.SpelledClasses.{Clause, rename_clause, export_clause, undefine_clause, redefine_clause, select_clause}
use Rattle.eif_grammar.specs.Goals
use Rattle.eif_grammar.specs.Goals.{class_goal}
use Rattle.eif_grammar.specs.Reader.{next}
use Rattle.eif_grammar.specs.ClassRules.{LiteralStart, plus, minus, no_literal, literal_start, literal_by, clause_start, go_on, clause_by, clauses_by, class_rule}
use Rattle.eif_grammar_laws.proofs.Endings.{at_closing}
use Rattle.eif_grammar_laws.proofs.Closing.{not_here, closing_clause}
use Rattle.eif_grammar_laws.proofs.Completions.{Living, Live, living_done, living_refuse, living_look, living_next, living_guard, living_test, living_call, living_token, living_expect, live_done, live_call, live_token, live_expect, live_found, live_other}
use Rattle.eif_grammar_laws.proofs.TypeViable.{a_type}
use Rattle.eif_grammar_laws.proofs.InstructionViable.{no_semis}
use Rattle.eif_grammar_laws.proofs.ClassWords.{no_entries, an_item, no_more_items, a_formal, no_more_formals, no_more_names, a_name, a_colon, no_more_renames, one_rename, no_more_exports, one_export, no_more_clauses, a_parent, no_more_parents}

pub some_height : 1 ≤ most_height
some_height = omega arith

-- ---- notes and literals

pub living_notes : Living (class_goal Goals.notes) (class_rule Goals.notes)
living_notes = living_test (living_next (λ w. live_call no_entries tt (λ y st. st) (λ u. live_done))) living_done

pub living_entries : Living (class_goal Goals.note_entries) (class_rule Goals.note_entries)
living_entries = living_test
    (living_next (λ w. live_expect (
    live_call an_item tt (λ y st. refl) (λ i.
    live_call no_more_items tt (λ y st. st) (λ u.
    live_call no_semis tt (λ y st. st) (λ v.
    live_call no_entries tt (λ y st. st) (λ r. live_done)))))))
    living_done

pub living_item : Living (class_goal Goals.note_item) (class_rule Goals.note_item)
living_item = living_test (living_next (λ w. live_done)) (living_call tt (λ y st. refl) (λ l. live_done))

pub living_more_items : Living (class_goal Goals.more_note_items) (class_rule Goals.more_note_items)
living_more_items = living_test (living_next (λ w. live_call an_item tt (λ y st. refl) (λ i. live_call no_more_items tt (λ y st. st) (λ u. live_done)))) living_done

living_literal_start : (s : LiteralStart) → Living (class_goal Goals.literal) (literal_by s)
living_literal_start plus = living_next (λ w. live_token (λ x. live_done))
living_literal_start minus = living_next (λ w. live_token (λ x. live_done))
living_literal_start no_literal = living_refuse
living_literal_start _ = living_next (λ x. live_done)

pub living_literal : Living (class_goal Goals.literal) (class_rule Goals.literal)
living_literal = living_look (λ x. living_literal_start (literal_start x))

-- a missing string is `""`
pub living_obsolete : Living (class_goal Goals.obsolete) (class_rule Goals.obsolete)
living_obsolete = living_test (living_next (λ w. live_expect live_done)) living_done

-- ---- formals, names and clients

pub living_formals : Living (class_goal Goals.formals) (class_rule Goals.formals)
living_formals = living_test
    (living_next (λ w. live_call a_formal tt (λ y st. refl) (λ f. live_call no_more_formals tt (λ y st. refl) (λ fs. live_expect live_done))))
    living_done

pub living_formal : Living (class_goal Goals.formal) (class_rule Goals.formal)
living_formal = living_token (λ n. live_other (not_here at_closing t.Arrow refl)
    (living_next (λ w. live_call (a_type most_height) some_height (λ y st. st) (λ ty. live_done)))
    live_done)

pub living_more_formals : Living (class_goal Goals.more_formals) (class_rule Goals.more_formals)
living_more_formals = living_test (living_next (λ w. live_call a_formal tt (λ y st. st) (λ f. live_call no_more_formals tt (λ y st. st) (λ fs. live_done)))) living_done

pub living_names : Living (class_goal Goals.names) (class_rule Goals.names)
living_names = living_token (λ n. live_call no_more_names tt (λ y st. st) (λ ns. live_done))

pub living_more_names : Living (class_goal Goals.more_names) (class_rule Goals.more_names)
living_more_names = living_test (living_next (λ w. live_call a_name tt (λ y st. st) (λ ns. live_done))) living_done

pub living_colon_names : Living (class_goal Goals.colon_names) (class_rule Goals.colon_names)
living_colon_names = living_test
    (living_next (λ w. live_token (λ n. live_call a_colon tt (λ y st. refl) (λ ns. live_done))))
    (living_expect live_done)

pub living_clients : Living (class_goal Goals.clients) (class_rule Goals.clients)
living_clients = living_expect (live_found t.CloseBrace refl (λ w. live_done) (living_call tt (λ y st. refl) (λ ns. live_expect live_done)))

-- ---- parents

pub living_rename : Living (class_goal Goals.rename) (class_rule Goals.rename)
living_rename = living_token (λ a. live_expect (live_token (λ b. live_done)))

pub living_renames : Living (class_goal Goals.renames) (class_rule Goals.renames)
living_renames = living_call tt (λ y st. refl) (λ r. live_call no_more_renames tt (λ y st. st) (λ rs. live_done))

pub living_more_renames : Living (class_goal Goals.more_renames) (class_rule Goals.more_renames)
living_more_renames = living_test (living_next (λ w. live_call one_rename tt (λ y st. st) (λ rs. live_done))) living_done

pub living_export : Living (class_goal Goals.export) (class_rule Goals.export)
living_export = living_call tt (λ y st. refl) (λ c. live_found t.All refl (λ w. live_done) (living_call tt (λ y st. st) (λ ns. live_done)))

pub living_exports : Living (class_goal Goals.exports) (class_rule Goals.exports)
living_exports = living_call tt (λ y st. st) (λ x. live_call no_semis tt (λ y st. st) (λ u. live_call no_more_exports tt (λ y st. st) (λ xs. live_done)))

pub living_more_exports : Living (class_goal Goals.more_exports) (class_rule Goals.more_exports)
living_more_exports = living_test (living_call tt (λ y st. st) (λ xs. live_done)) living_done

live_go_on : (q p : ParentT) → Live (class_goal (Goals.clauses q)) (Some t.End) (go_on p)
live_go_on q p = live_call (no_more_clauses p) tt (λ y st. refl) (λ a. live_done)

living_clause : (p : ParentT) (c : Clause) → Living (class_goal (Goals.clauses p)) (next (λ w. clause_by p c))
living_clause p rename_clause = living_next (λ w. live_call one_rename tt (λ y st. refl) (λ rs. live_go_on p _))
living_clause p export_clause = living_next (λ w. live_call one_export tt (λ y st. refl) (λ xs. live_go_on p _))
living_clause p undefine_clause = living_next (λ w. live_call a_name tt (λ y st. refl) (λ ns. live_go_on p _))
living_clause p redefine_clause = living_next (λ w. live_call a_name tt (λ y st. refl) (λ ns. live_go_on p _))
living_clause p select_clause = living_next (λ w. live_call a_name tt (λ y st. refl) (λ ns. live_go_on p _))

living_clause_start : (p : ParentT) (c : Option Clause) → Living (class_goal (Goals.clauses p)) (clauses_by p c)
living_clause_start p None = living_refuse
living_clause_start p (Some c) = living_guard (λ once. living_clause p c)

pub living_clauses : (p : ParentT) → Living (class_goal (Goals.clauses p)) (class_rule (Goals.clauses p))
living_clauses p = living_look (λ x. living_clause_start p (clause_start x))

pub living_more_clauses : (p : ParentT) → Living (class_goal (Goals.more_clauses p)) (class_rule (Goals.more_clauses p))
living_more_clauses p = living_test (living_call tt (λ y st. refl) (λ a. live_done)) (living_expect live_done)

pub living_parent : Living (class_goal Goals.parent) (class_rule Goals.parent)
living_parent = living_call some_height (λ y st. st) (λ ty. live_other closing_clause (living_call tt (λ y st. refl) (λ p. live_done)) live_done)

pub living_parents : Living (class_goal Goals.parents) (class_rule Goals.parents)
living_parents = living_test
    (living_next (λ w.
    live_call a_parent tt (λ y st. st) (λ p.
    live_call no_semis tt (λ y st. st) (λ u.
    live_call no_more_parents tt (λ y st. st) (λ ps. live_done)))))
    living_done

pub living_more_parents : Living (class_goal Goals.more_parents) (class_rule Goals.more_parents)
living_more_parents = living_test
    (living_call tt (λ y st. st) (λ p.
    live_call no_semis tt (λ y st. st) (λ u.
    live_call no_more_parents tt (λ y st. st) (λ ps. live_done))))
    living_done

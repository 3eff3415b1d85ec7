-- Parts of a class that end before a token end so wherever they may end.
use Rattle.std.proofs.Common.{true, false, Bool, List, Option, Some, None, refl, inl, inr}
use Rattle.eif_tree.specs.declared.NameAt.{NameAt}
use Rattle.eif_tree.specs.Tree.{TypeT, ParentT, ClientsT}
use Rattle.eif_grammar.specs.declared.terminal.Terminal.TheVariants as t
use Rattle.eif_grammar.specs.SpelledClasses.{Clause, rename_clause, export_clause, undefine_clause, redefine_clause, select_clause}
use Rattle.eif_grammar.specs.Goals
use Rattle.eif_grammar.specs.Goals.{ClassGoal, Goal, type_goal, expression_goal, instruction_goal, class_goal, token}
use Rattle.eif_grammar.specs.ClassRules.{LiteralStart, plus, minus, no_literal, literal_start, literal_by, clause_start, go_on, clause_by, clauses_by, parents_from, creators_of, features_of, groups_from, value_of, typed, several, routine_from, class_from, class_rule}
use Rattle.eif_grammar.specs.Outcomes.{rule}
use Rattle.eif_grammar_laws.proofs.Endings.{at_closing, at_end}
use Rattle.eif_grammar_laws.proofs.Closing.{not_here, closing_clause, ends_routine, ends_closes, other_first, other_second, other_closes}
use Rattle.eif_grammar_laws.proofs.Stable.{Steady}
use Rattle.eif_grammar_laws.proofs.Takes.{takes_literal, takes_clause}
use Rattle.eif_grammar_laws.proofs.Still.{Still, still_done, still_refuse, still_next, still_guard, still_fork, still_call, still_before, still_token, still_expect, still_taking, still_test}
use Rattle.eif_grammar_laws.proofs.ExpressionStill.{still_type, still_expression}
use Rattle.eif_grammar_laws.proofs.InstructionStill.{still_instruction}

still_literal : (s : LiteralStart) → Still (class_goal Goals.literal) (literal_by s)
still_literal plus = still_next (λ w. still_token (λ x. still_done))
still_literal minus = still_next (λ w. still_token (λ x. still_done))
still_literal no_literal = still_refuse
still_literal _ = still_next (λ x. still_done)

-- ---- parents

still_go_on : (q p : ParentT) → Still (class_goal (Goals.clauses q)) (go_on p)
still_go_on q p = still_call (λ y st. refl) (λ a. still_done)

still_clause : (p : ParentT) (c : Clause) → Still (class_goal (Goals.clauses p)) (clause_by p c)
still_clause p rename_clause = still_before (λ a. inl refl) (λ a. still_go_on p _)
still_clause p export_clause = still_before (λ a. inl refl) (λ a. still_go_on p _)
still_clause p undefine_clause = still_before (λ a. inl refl) (λ a. still_go_on p _)
still_clause p redefine_clause = still_before (λ a. inl refl) (λ a. still_go_on p _)
still_clause p select_clause = still_before (λ a. inl refl) (λ a. still_go_on p _)

still_clauses : (p : ParentT) (c : Option Clause) → Still (class_goal (Goals.clauses p)) (clauses_by p c)
still_clauses p None = still_refuse
still_clauses p (Some c) = still_guard (still_next (λ w. still_clause p c))

still_parents : Still (class_goal Goals.parents) parents_from
still_parents = still_call (λ y st. st) (λ p. still_call (λ y st. st) (λ u. still_call (λ y st. st) (λ ps. still_done)))

still_more_parents : Still (class_goal Goals.more_parents) parents_from
still_more_parents = still_call (λ y st. st) (λ p. still_call (λ y st. st) (λ u. still_call (λ y st. st) (λ ps. still_done)))

-- ---- features

still_creators : (c : ClientsT) → Still (class_goal Goals.creators) (creators_of c)
still_creators c = still_call (λ y st. st) (λ ns. still_call (λ y st. st) (λ cs. still_done))

still_features : (c : ClientsT) → Still (class_goal Goals.features) (features_of c)
still_features c = still_call (λ y st. st) (λ ds. still_call (λ y st. st) (λ fs. still_done))

still_groups : Still (class_goal Goals.more_groups) groups_from
still_groups = still_call (λ y st. st) (λ g. still_call (λ y st. st) (λ gs. still_done))

still_groups_behind : Still (class_goal Goals.groups_behind) groups_from
still_groups_behind = still_call (λ y st. st) (λ g. still_call (λ y st. st) (λ gs. still_done))

still_value : (ns : List NameAt) (ty : TypeT) → Still (class_goal Goals.declaration) (value_of ns ty)
still_value ns ty = still_test (not_here at_end t.Equal refl) tt (still_next (λ w. still_call (λ y st. refl) (λ x. still_done))) still_done

still_typed : (n : NameAt) → Still (class_goal Goals.declaration) (typed n)
still_typed n = still_call ends_closes (λ ty. still_test ends_routine (inl refl) (still_call (λ y st. refl) (λ d. still_done)) (still_value _ ty))

still_several : (n : NameAt) → Still (class_goal Goals.declaration) (several n)
still_several n = still_token (λ m. still_call (λ y st. refl) (λ ms. still_call ends_closes (λ ty. still_value _ ty)))

still_routine : (n : NameAt) → Still (class_goal Goals.declaration) (routine_from n)
still_routine n = still_call ends_closes (λ args. still_call ends_closes (λ ty. still_call (λ y st. refl) (λ d. still_done)))

-- ---- the class

still_class_from : (is_deferred : Bool) → Still (class_goal Goals.class_text) (class_from is_deferred)
still_class_from is_deferred =
    still_expect (still_token (λ n.
    still_before (λ fs. inr (λ u. inr (λ ps. inr (λ cs. inr (λ ds. inr (λ is. inr (λ v. inl refl))))))) (λ fs.
    still_before (λ u. inr (λ ps. inr (λ cs. inr (λ ds. inr (λ is. inr (λ v. inl refl)))))) (λ u.
    still_before (λ ps. inr (λ cs. inr (λ ds. inr (λ is. inr (λ v. inl refl))))) (λ ps.
    still_before (λ cs. inr (λ ds. inr (λ is. inr (λ v. inl refl)))) (λ cs.
    still_before (λ ds. inr (λ is. inr (λ v. inl refl))) (λ ds.
    still_before (λ is. inr (λ v. inl refl)) (λ is.
    still_before (λ v. inl refl) (λ v.
    still_expect still_done)))))))))

-- ---- all rules of a class

still_class : (g : ClassGoal) → Still (class_goal g) (class_rule g)
still_class Goals.notes = still_test (not_here at_closing t.Note refl) tt (still_next (λ w. still_call (λ y st. st) (λ u. still_done))) still_done
still_class Goals.note_entries = still_test (not_here at_closing t.Identifier refl) tt
    (still_next (λ w. still_expect (still_call (λ y st. refl) (λ i. still_call (λ y st. st) (λ u. still_call (λ y st. st) (λ v. still_call (λ y st. st) (λ r. still_done)))))))
    still_done
still_class Goals.note_item = still_taking (λ x. still_fork (still_next (λ w. still_done)) (still_call (λ y st. refl) (λ l. still_done))) (λ x. (λ e. tt, λ e. inl refl))
still_class Goals.more_note_items = still_test (not_here at_closing t.Comma refl) tt
    (still_next (λ w. still_call (λ y st. refl) (λ i. still_call (λ y st. st) (λ u. still_done))))
    still_done
still_class Goals.literal = still_taking (λ x. still_literal (literal_start x)) (λ x. takes_literal (literal_start x))
still_class Goals.obsolete = still_test (not_here at_closing t.Obsolete refl) tt (still_next (λ w. still_expect still_done)) still_done
still_class Goals.formals = still_test (not_here at_closing t.OpenBracket refl) tt
    (still_next (λ w. still_call (λ y st. st) (λ f. still_call (λ y st. st) (λ fs. still_expect still_done))))
    still_done
still_class Goals.formal =
    still_token (λ n. still_test (not_here at_closing t.Arrow refl) tt (still_next (λ w. still_call (λ y st. st) (λ ty. still_done))) still_done)
still_class Goals.more_formals = still_test (not_here at_closing t.Comma refl) tt
    (still_next (λ w. still_call (λ y st. st) (λ f. still_call (λ y st. st) (λ fs. still_done))))
    still_done
still_class Goals.names = still_token (λ n. still_call (λ y st. st) (λ ns. still_done))
still_class Goals.more_names = still_test (not_here at_closing t.Comma refl) tt (still_next (λ w. still_call (λ y st. st) (λ ns. still_done))) still_done
still_class Goals.colon_names = still_taking
    (λ x. still_fork (still_next (λ w. still_token (λ n. still_call (λ y st. refl) (λ ns. still_done)))) (still_expect still_done))
    (λ x. (λ e. tt, λ e. inl refl))
still_class Goals.clients = still_expect (still_taking
    (λ x. still_fork (still_next (λ w. still_done)) (still_before (λ ns. inl refl) (λ ns. still_expect still_done)))
    (λ x. (λ e. tt, λ e. inl refl)))
still_class Goals.rename = still_token (λ a. still_expect (still_token (λ b. still_done)))
still_class Goals.renames = still_call (λ y st. refl) (λ r. still_call (λ y st. st) (λ rs. still_done))
still_class Goals.more_renames = still_test (not_here at_closing t.Comma refl) tt (still_next (λ w. still_call (λ y st. st) (λ rs. still_done))) still_done
still_class Goals.export = still_call (λ y st. refl) (λ c. still_test (not_here at_closing t.All refl) tt (still_next (λ w. still_done)) (still_call (λ y st. st) (λ ns. still_done)))
still_class Goals.exports = still_call (λ y st. st) (λ x. still_call (λ y st. st) (λ u. still_call (λ y st. st) (λ xs. still_done)))
still_class Goals.more_exports = still_test (not_here at_closing t.OpenBrace refl) (inl refl) (still_call (λ y st. st) (λ xs. still_done)) still_done
still_class (Goals.clauses p) = still_taking (λ x. still_clauses p (clause_start x)) (λ x. takes_clause p (clause_start x))
still_class (Goals.more_clauses p) = still_taking
    (λ x. still_fork (still_call (λ y st. refl) (λ a. still_done)) (still_expect still_done))
    (λ x. (λ e. inl refl, λ e. inl refl))
still_class Goals.parent = still_call (λ y st. st) (λ ty. still_test closing_clause (inl refl) (still_call (λ y st. refl) (λ p. still_done)) still_done)
still_class Goals.parents = still_test (not_here at_closing t.Inherit refl) tt (still_next (λ w. still_parents)) still_done
still_class Goals.more_parents = still_test (not_here at_closing t.Identifier refl) (inl refl) still_more_parents still_done
still_class Goals.creators = still_test (not_here at_closing t.Create refl) tt
    (still_next (λ w. still_test (not_here at_closing t.OpenBrace refl) (inl refl) (still_call (λ y st. refl) (λ c. still_creators c)) (still_creators _)))
    still_done
still_class Goals.group = still_token (λ n. still_call (λ y st. refl) (λ ns. still_call (λ y st. st) (λ ty. still_done)))
still_class Goals.more_groups = still_test (not_here at_closing t.Semicolon refl) tt
    (still_next (λ w. still_call (λ y st. st) (λ gs. still_done)))
    (still_test (not_here at_closing t.Identifier refl) (inl refl) still_groups still_done)
still_class Goals.groups_behind = still_taking (λ x. still_fork (still_next (λ w. still_call (λ y st. st) (λ gs. still_done))) still_groups_behind) (λ x. (λ e. tt, λ e. inl refl))
still_class Goals.formal_arguments = still_test (not_here at_closing t.OpenParenthesis refl) tt
    (still_next (λ w. still_call (λ y st. st) (λ g. still_call (λ y st. st) (λ gs. still_expect still_done))))
    still_done
still_class Goals.local_groups = still_test (not_here at_closing t.Identifier refl) (inl refl)
    (still_call (λ y st. st) (λ g. still_call (λ y st. st) (λ u. still_call (λ y st. st) (λ gs. still_done))))
    still_done
still_class Goals.locals = still_test (not_here at_closing t.Local refl) tt (still_next (λ w. still_call (λ y st. st) (λ gs. still_done))) still_done
still_class Goals.result_type = still_test (not_here at_closing t.Colon refl) tt (still_next (λ w. still_call (λ y st. st) (λ ty. still_done))) still_done
still_class (Goals.conditions a b) = still_test (other_first a b) tt
    (still_next (λ w. still_test (other_second a b) tt
    (still_next (λ v. still_call (other_closes a b) (λ es. still_done)))
    (still_call (other_closes a b) (λ es. still_done))))
    still_done
still_class Goals.body = still_taking
    (λ x. still_fork (still_next (λ w. still_done)) (still_call (λ y st. st) (λ ls. still_expect (still_call (λ y st. st) (λ is. still_done)))))
    (λ x. (λ e. tt, λ e. inr (λ ls. inl refl)))
still_class (Goals.routine_rest n args ty) =
    still_before (λ u. inr (λ pre. inl refl)) (λ u.
    still_before (λ pre. inl refl) (λ pre.
    still_before (λ k. inr (λ post. inl refl)) (λ k.
    still_before (λ post. inl refl) (λ post.
    still_expect still_done))))
still_class Goals.declaration = still_token (λ n.
    still_test (not_here at_end t.Comma refl) tt (still_next (λ w. still_several _))
    (still_test (not_here at_end t.Colon refl) tt (still_next (λ w. still_typed _)) (still_routine _)))
still_class Goals.declarations = still_test (not_here at_end t.Identifier refl) (inl refl)
    (still_call (λ y st. st) (λ d. still_call ends_closes (λ u. still_call (λ y st. st) (λ ds. still_done))))
    still_done
still_class Goals.features = still_test (not_here at_end t.Feature refl) tt
    (still_next (λ w. still_test (not_here at_end t.OpenBrace refl) (inl refl) (still_call (λ y st. refl) (λ c. still_features c)) (still_features _)))
    still_done
still_class Goals.class_text = still_before (λ u x. (λ e. tt, λ e. inl refl)) (λ u.
    still_taking (λ x. still_fork (still_next (λ w. still_class_from true)) (still_class_from false)) (λ x. (λ e. tt, λ e. inl refl)))

-- ---- all rules

pub all_steady : (g : Goal) → Steady g (rule g)
all_steady (type_goal g) = (still_type g).steady
all_steady (expression_goal g) = (still_expression g).steady
all_steady (instruction_goal g) = (still_instruction g).steady
all_steady (class_goal g) = (still_class g).steady
all_steady (token x) = λ y. (λ n. tt, inl tt)

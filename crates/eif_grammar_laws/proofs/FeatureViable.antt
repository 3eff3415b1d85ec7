-- What was taken of a class's features can be completed: a missing body is `do end`, a missing literal `1`.
use Rattle.std.proofs.Common.{List, Option, Some, None, refl}
use Rattle.eif_tree.specs.declared.NameAt.{NameAt}
use Rattle.eif_tree.specs.Tree.{TypeT, GroupT, ClientsT, no_clients}
use Rattle.eif_grammar.specs.declared.terminal.Terminal.{Terminal}
use Rattle.eif_grammar.specs.declared.terminal.Terminal.TheVariants as t
use Rattle.eif_grammar.specs.Parts.{most_height}
use Rattle.eif_grammar.specs.Goals
use Rattle.eif_grammar.specs.Goals.{class_goal}
use Rattle.eif_grammar.specs.ClassRules.{creators_of, features_of, value_of, typed, several, routine_from, class_rule}
use Rattle.eif_grammar_laws.proofs.Endings.{at_end}
use Rattle.eif_grammar_laws.proofs.Closing.{not_here, ends_routine, ends_closes, other_second, other_closes}
use Rattle.eif_grammar_laws.proofs.Completions.{Living, Live, living_done, living_next, living_test, living_call, living_token, live_done, live_call, live_token, live_expect, live_other}
use Rattle.eif_grammar_laws.proofs.TypeViable.{a_type}
use Rattle.eif_grammar_laws.proofs.InstructionViable.{no_semis, no_assertions, no_instructions}
use Rattle.eif_grammar_laws.proofs.ClassWords.{a_literal, a_name, a_colon, no_creators, a_group, no_more_groups, one_group_behind, no_formal_arguments, no_local_groups, no_result_type, no_conditions, empty_body, empty_routine, no_declarations, no_features}
use Rattle.eif_grammar_laws.proofs.HeadViable.{some_height}

-- ---- creators, arguments and locals

live_creators : (c : ClientsT) → Live (class_goal Goals.creators) (Some t.Identifier) (creators_of c)
live_creators c = live_call a_name tt (λ y st. st) (λ ns. live_call no_creators tt (λ y st. st) (λ cs. live_done))

pub living_creators : Living (class_goal Goals.creators) (class_rule Goals.creators)
living_creators = living_test (living_next (λ w. live_other (λ y st. refl) (living_call tt (λ y st. refl) (λ c. live_creators c)) (live_creators no_clients))) living_done

pub living_group : Living (class_goal Goals.group) (class_rule Goals.group)
living_group = living_token (λ n. live_call a_colon tt (λ y st. refl) (λ ns. live_call (a_type most_height) some_height (λ y st. st) (λ ty. live_done)))

pub living_more_groups : Living (class_goal Goals.more_groups) (class_rule Goals.more_groups)
living_more_groups = living_test
    (living_next (λ w. live_call one_group_behind tt (λ y st. st) (λ gs. live_done)))
    (living_test (living_call tt (λ y st. st) (λ g. live_call no_more_groups tt (λ y st. st) (λ gs. live_done))) living_done)

pub living_groups_behind : Living (class_goal Goals.groups_behind) (class_rule Goals.groups_behind)
living_groups_behind = living_test
    (living_next (λ w. live_call one_group_behind tt (λ y st. st) (λ gs. live_done)))
    (living_call tt (λ y st. st) (λ g. live_call no_more_groups tt (λ y st. st) (λ gs. live_done)))

pub living_formal_arguments : Living (class_goal Goals.formal_arguments) (class_rule Goals.formal_arguments)
living_formal_arguments = living_test
    (living_next (λ w. live_call a_group tt (λ y st. refl) (λ g. live_call no_more_groups tt (λ y st. refl) (λ gs. live_expect live_done))))
    living_done

pub living_local_groups : Living (class_goal Goals.local_groups) (class_rule Goals.local_groups)
living_local_groups = living_test
    (living_call tt (λ y st. st) (λ g.
    live_call no_semis tt (λ y st. st) (λ u.
    live_call no_local_groups tt (λ y st. st) (λ gs. live_done))))
    living_done

pub living_locals : Living (class_goal Goals.locals) (class_rule Goals.locals)
living_locals = living_test (living_next (λ w. live_call no_local_groups tt (λ y st. st) (λ gs. live_done))) living_done

pub living_result_type : Living (class_goal Goals.result_type) (class_rule Goals.result_type)
living_result_type = living_test (living_next (λ w. live_call (a_type most_height) some_height (λ y st. st) (λ ty. live_done))) living_done

-- ---- routines

pub living_conditions : (a b : Terminal) → Living (class_goal (Goals.conditions a b)) (class_rule (Goals.conditions a b))
living_conditions a b = living_test
    (living_next (λ w. live_other (other_second a b)
    (living_next (λ v. live_call (no_assertions most_height) tt (other_closes a b) (λ es. live_done)))
    (live_call (no_assertions most_height) tt (other_closes a b) (λ es. live_done))))
    living_done

pub living_body : Living (class_goal Goals.body) (class_rule Goals.body)
living_body = living_test
    (living_next (λ w. live_done))
    (living_call tt (λ y st. refl) (λ ls. live_expect (live_call (no_instructions most_height) tt (λ y st. st) (λ is. live_done))))

pub living_routine_rest : (n : NameAt) (args : List GroupT) (ty : Option TypeT) → Living (class_goal (Goals.routine_rest n args ty)) (class_rule (Goals.routine_rest n args ty))
living_routine_rest n args ty =
    living_call tt (λ y st. refl) (λ u.
    live_call (no_conditions t.Require t.Else) tt (λ y st. refl) (λ pre.
    live_call empty_body tt (λ y st. refl) (λ k.
    live_call (no_conditions t.Ensure t.Then) tt (λ y st. refl) (λ post.
    live_expect live_done))))

-- ---- declarations

live_value : (ns : List NameAt) (ty : TypeT) → Live (class_goal Goals.declaration) None (value_of ns ty)
live_value ns ty = live_other (not_here at_end t.Equal refl) (living_next (λ w. live_call a_literal tt (λ y st. refl) (λ x. live_done))) live_done

live_typed : (n : NameAt) → Live (class_goal Goals.declaration) (Some t.Identifier) (typed n)
live_typed n = live_call (a_type most_height) some_height ends_closes (λ ty. live_other ends_routine (living_call tt (λ y st. refl) (λ d. live_done)) (live_value _ ty))

live_several : (n : NameAt) → Live (class_goal Goals.declaration) (Some t.Identifier) (several n)
live_several n = live_token (λ m. live_call a_colon tt (λ y st. refl) (λ ms. live_call (a_type most_height) some_height ends_closes (λ ty. live_value _ ty)))

live_routine : (n : NameAt) → Live (class_goal Goals.declaration) (Some t.Do) (routine_from n)
live_routine n =
    live_call no_formal_arguments tt (λ y st. refl) (λ args.
    live_call no_result_type tt (λ y st. refl) (λ ty.
    live_call (empty_routine n args ty) tt (λ y st. refl) (λ d. live_done)))

pub living_declaration : Living (class_goal Goals.declaration) (class_rule Goals.declaration)
living_declaration = living_token (λ n.
    live_other (λ y st. refl) (living_next (λ w. live_several _))
    (live_other (λ y st. refl) (living_next (λ w. live_typed _)) (live_routine _)))

pub living_declarations : Living (class_goal Goals.declarations) (class_rule Goals.declarations)
living_declarations = living_test
    (living_call tt (λ y st. st) (λ d.
    live_call no_semis tt ends_closes (λ u.
    live_call no_declarations tt (λ y st. st) (λ ds. live_done))))
    living_done

live_features : (c : ClientsT) → Live (class_goal Goals.features) None (features_of c)
live_features c = live_call no_declarations tt (λ y st. st) (λ ds. live_call no_features tt (λ y st. st) (λ fs. live_done))

pub living_features : Living (class_goal Goals.features) (class_rule Goals.features)
living_features = living_test
    (living_next (λ w. live_other (not_here at_end t.OpenBrace refl) (living_call tt (λ y st. refl) (λ c. live_features c)) (live_features no_clients)))
    living_done

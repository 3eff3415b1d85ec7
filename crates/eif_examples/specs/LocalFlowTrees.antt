-- The trees of the examples of what conditions and instructions tell, and of whole systems.
use Rattle.std.specs.Prelude.{List, [], ◌∷◌}
use Rattle.eif_tree.specs.Tree.{ClassT}
use Rattle.eif_body_rules_laws.specs.FactExamples as fact
use Rattle.eif_body_rules_laws.specs.FlowExamples as flow
use Rattle.eif_body_rules_laws.specs.KnownLocalExamples as known_local
use Rattle.eif_body_rules_laws.specs.PairExamples as pair
use Rattle.eif_body_rules_laws.specs.SystemExamples as system

-- with all of their places
abbrev pub local_flow_trees : List ClassT
local_flow_trees =
    fact.not_void_b
    ∷ fact.is_void_b
    ∷ fact.tested_b
    ∷ fact.negated_b
    ∷ fact.both_b
    ∷ fact.either_b
    ∷ fact.implied_b
    ∷ fact.apart_b
    ∷ fact.equal_names_b
    ∷ fact.not_a_name_b
    ∷ fact.and_then_b
    ∷ fact.strict_and_b
    ∷ fact.or_else_b
    ∷ fact.strict_or_b
    ∷ fact.implication_b
    ∷ fact.wrong_value_b
    ∷ fact.test_local_b
    ∷ fact.argument_b
    ∷ fact.later_conditions_b
    ∷ fact.after_if_b
    ∷ fact.loop_b
    ∷ fact.loop_assertions_b
    ∷ fact.next_assertion_b
    ∷ fact.nested_b
    ∷ fact.scope_of_test_local_b
    ∷ fact.earliest_b
    ∷ fact.feature_b
    ∷ flow.condition_b
    ∷ flow.exit_b
    ∷ flow.assertions_b
    ∷ flow.loop_invariant_b
    ∷ flow.untyped_b
    ∷ flow.conditions_b
    ∷ flow.no_integer_b
    ∷ flow.integer_b
    ∷ flow.unset_b
    ∷ flow.set_b
    ∷ flow.in_source_b
    ∷ flow.one_branch_b
    ∷ flow.each_branch_b
    ∷ flow.loop_body_b
    ∷ flow.loop_start_b
    ∷ flow.self_initialising_b
    ∷ flow.formal_type_b
    ∷ flow.untyped_call_b
    ∷ flow.instruction_b
    ∷ flow.in_assertion_b
    ∷ flow.hidden_b
    ∷ flow.in_loop_b
    ∷ flow.result_unset_b
    ∷ flow.result_at_end_b
    ∷ flow.result_set_b
    ∷ flow.result_always_b
    ∷ flow.result_self_initialising_b
    ∷ flow.result_no_body_b
    ∷ known_local.tested_app
    ∷ known_local.not_tested_app
    ∷ known_local.assigned_again_app
    ∷ known_local.loop_app
    ∷ known_local.loop_assigns_app
    ∷ known_local.loop_keeps_app
    ∷ known_local.created_app
    ∷ known_local.one_branch_assigns_app
    ∷ known_local.assigned_app
    ∷ known_local.assigned_from_itself_app
    ∷ known_local.in_own_source_app
    ∷ known_local.broken_assignment_app
    ∷ known_local.after_if_app
    ∷ known_local.before_if_app
    ∷ known_local.hidden_b
    ∷ known_local.generic_b
    ∷ known_local.loop_start_assigns_app
    ∷ known_local.each_branch_assigns_app
    ∷ known_local.after_loop_app
    ∷ pair.class_link
    ∷ pair.class_app
    ∷ pair.class_c0
    ∷ pair.class_c1
    ∷ system.class_a
    ∷ system.may_be_void_app
    ∷ system.tested_app
    ∷ system.strict_app
    ∷ system.short_app
    ∷ system.test_local_app
    ∷ system.other_spelling_app
    ∷ system.array_app
    ∷ system.class_k
    ∷ system.plain_formal_b
    ∷ system.constrained_formal_b
    ∷ system.hidden_features_app
    ∷ system.class_p
    ∷ system.redeclared_function_app
    ∷ []

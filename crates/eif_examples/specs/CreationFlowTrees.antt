-- The trees of the examples of what creators set.
use Rattle.std.specs.Prelude.{List, [], ◌∷◌}
use Rattle.eif_tree.specs.Tree.{ClassT}
use Rattle.eif_flow_rules_laws.specs.CreatorExamples as creator
use Rattle.eif_flow_rules_laws.specs.NameExamples as name
use Rattle.eif_flow_rules_laws.specs.SelfCallExamples as self_call

-- with some of their places
abbrev pub sparse_creation_flow_trees : List ClassT
sparse_creation_flow_trees =
    creator.without_creator
    ∷ creator.with_values
    ∷ creator.in_one_branch_app
    ∷ creator.in_both_app
    ∷ creator.in_two_of_three_app
    ∷ creator.in_none_app
    ∷ creator.class_a
    ∷ creator.before_app
    ∷ creator.behind_app
    ∷ creator.set_at_start_app
    ∷ creator.set_in_body_app
    ∷ creator.set_by_exit_app
    ∷ creator.two_creators
    ∷ creator.renamed_default
    ∷ creator.person
    ∷ creator.with_title
    ∷ creator.with_nick
    ∷ name.class_a
    ∷ name.class_k
    ∷ name.class_d
    ∷ name.class_p
    ∷ name.with_z
    ∷ name.with_local_z
    ∷ name.with_test_y
    ∷ self_call.both_made
    ∷ self_call.class_p
    ∷ self_call.redefines_set
    ∷ self_call.never_called_app
    ∷ self_call.precursor_sets_app
    ∷ self_call.no_precursor_app
    ∷ self_call.shows_function
    ∷ self_call.function_as_field
    ∷ self_call.filling_a
    ∷ self_call.filling_b
    ∷ self_call.of_the_first_app
    ∷ self_call.of_the_second_app
    ∷ self_call.with_help
    ∷ self_call.in_turns
    ∷ self_call.creator_app
    ∷ self_call.creator_needs_app
    ∷ self_call.calls_g
    ∷ self_call.by_precursor
    ∷ self_call.with_constant
    ∷ self_call.strict_app
    ∷ self_call.may_not_run_app
    ∷ self_call.set_inside_app
    ∷ self_call.needs_too_app
    ∷ self_call.or_else_app
    ∷ self_call.implied_app
    ∷ []

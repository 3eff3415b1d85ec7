-- The trees of the examples of the rules of the universe.
use Rattle.std.specs.Prelude.{List, [], ◌∷◌}
use Rattle.eif_tree.specs.Tree.{ClassT}
use Rattle.eif_rules_laws.specs.UniverseExamples as universe

-- with all of their places
abbrev pub universe_rules_trees : List ClassT
universe_rules_trees =
    universe.class_b
    ∷ universe.unknown_class_b
    ∷ universe.known_class_b
    ∷ universe.no_actual_b
    ∷ universe.one_actual_b
    ∷ universe.unknown_actual_b
    ∷ universe.marked_integer_b
    ∷ universe.marked_string_b
    ∷ universe.long_type_b
    ∷ universe.longest_type_b
    ∷ universe.two_names_b
    ∷ universe.in_body_b
    ∷ universe.in_invariant_b
    ∷ universe.names_class_b
    ∷ universe.names_none_b
    ∷ universe.repeated_b
    ∷ universe.distinct_b
    ∷ universe.formal_constraint_b
    ∷ universe.class_constraint_b
    ∷ universe.unknown_constraint_b
    ∷ universe.many_z
    ∷ universe.most_z
    ∷ universe.hidden_integer_b
    ∷ universe.class_d
    ∷ universe.class_d_below_b
    ∷ universe.own_parent_b
    ∷ universe.class_b_below_d
    ∷ universe.formal_parent_b
    ∷ universe.class_parent_b
    ∷ universe.kernel_parent_b
    ∷ universe.any_parent_b
    ∷ universe.hidden_class_b
    ∷ universe.hidden_generic_b
    ∷ universe.many_b
    ∷ universe.most_b
    ∷ universe.second_b
    ∷ universe.class_any
    ∷ universe.created_b
    ∷ universe.deferred_b
    ∷ universe.deferred_generic_b
    ∷ universe.class_string
    ∷ universe.is_generic_b
    ∷ []

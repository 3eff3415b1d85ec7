-- The trees of the examples of the rules of features and derivations.
use Rattle.std.specs.Prelude.{List, [], ◌∷◌}
use Rattle.eif_tree.specs.Tree.{ClassT}
use Rattle.eif_feature_rules_laws.specs.ClauseExamples as clause
use Rattle.eif_feature_rules_laws.specs.CreatorRuleExamples as creator_rule
use Rattle.eif_feature_rules_laws.specs.DeclarationExamples as declaration
use Rattle.eif_feature_rules_laws.specs.DerivationExamples as derivation

-- with all of their places
abbrev pub feature_rules_trees : List ClassT
feature_rules_trees =
    clause.class_a
    ∷ clause.class_b
    ∷ clause.unknown_rename_b
    ∷ clause.repeated_rename_b
    ∷ clause.two_renames_b
    ∷ clause.unknown_twice_b
    ∷ clause.unknown_export_b
    ∷ clause.renamed_export_b
    ∷ clause.repeated_export_b
    ∷ clause.two_exports_b
    ∷ clause.repeated_all_b
    ∷ clause.one_all_b
    ∷ clause.unknown_exports_b
    ∷ clause.unknown_undefine_b
    ∷ clause.repeated_undefine_b
    ∷ clause.attribute_undefine_b
    ∷ clause.deferred_undefine_b
    ∷ clause.two_undefines_b
    ∷ clause.constant_undefine_b
    ∷ clause.one_entry_b
    ∷ clause.attribute_twice_b
    ∷ clause.attribute_and_deferred_b
    ∷ clause.routine_and_deferred_b
    ∷ clause.unknown_redefine_b
    ∷ clause.repeated_redefine_b
    ∷ clause.one_redefine_b
    ∷ clause.unknown_select_b
    ∷ clause.repeated_select_b
    ∷ clause.one_select_b
    ∷ clause.unknown_redefines_b
    ∷ clause.unknown_selects_b
    ∷ creator_rule.class_p
    ∷ creator_rule.class_b
    ∷ creator_rule.deferred_creation_b
    ∷ creator_rule.deferred_without_creation_b
    ∷ creator_rule.creator_with_result_b
    ∷ creator_rule.repeated_creator_b
    ∷ creator_rule.inherited_creator_b
    ∷ creator_rule.right_creator_b
    ∷ creator_rule.unknown_creator_b
    ∷ creator_rule.each_rule_b
    ∷ creator_rule.no_creator_root
    ∷ creator_rule.creator_with_arguments_root
    ∷ creator_rule.right_root_root
    ∷ creator_rule.default_creator_root
    ∷ creator_rule.no_default_creator_root
    ∷ creator_rule.function_root
    ∷ declaration.class_a
    ∷ declaration.class_c
    ∷ declaration.class_d
    ∷ declaration.class_n
    ∷ declaration.class_b
    ∷ declaration.repeated_declaration_b
    ∷ declaration.two_declarations_b
    ∷ declaration.repeated_beside_entry_b
    ∷ declaration.declared_over_b
    ∷ declaration.redeclared_b
    ∷ declaration.undefined_and_declared_b
    ∷ declaration.made_effective_b
    ∷ declaration.undeclared_redefinition_b
    ∷ declaration.deferred_again_b
    ∷ declaration.deferred_redefinition_b
    ∷ declaration.undefined_and_deferred_b
    ∷ declaration.undeclared_twice_b
    ∷ declaration.wrong_constant_b
    ∷ declaration.detachable_constant_b
    ∷ declaration.each_constant_b
    ∷ declaration.repeated_constant_b
    ∷ declaration.right_constant_b
    ∷ declaration.attached_constant_b
    ∷ declaration.clashing_name_b
    ∷ declaration.one_undefined_b
    ∷ declaration.joined_with_deferred_b
    ∷ declaration.undefined_in_all_b
    ∷ declaration.deferred_class_marked_b
    ∷ declaration.shared_name_b
    ∷ declaration.deferred_name_b
    ∷ declaration.inherited_deferred_b
    ∷ declaration.ancestor_broken_b
    ∷ declaration.class_m
    ∷ declaration.clean_parent_b
    ∷ derivation.class_l
    ∷ derivation.class_m
    ∷ derivation.class_n
    ∷ derivation.class_x
    ∷ derivation.class_b
    ∷ derivation.class_e
    ∷ derivation.class_y
    ∷ derivation.class_d
    ∷ derivation.differing_d
    ∷ derivation.agreeing_d
    ∷ derivation.differing_above_d
    ∷ derivation.marks_differ_d
    ∷ derivation.undefined_above_d
    ∷ derivation.large_d
    ∷ derivation.largest_d
    ∷ derivation.small_and_large_d
    ∷ derivation.wrong_actual_d
    ∷ derivation.right_actual_d
    ∷ derivation.detachable_actual_d
    ∷ derivation.unconstrained_d
    ∷ derivation.formal_actual_d
    ∷ derivation.constrained_actual_d
    ∷ derivation.in_parent_d
    ∷ derivation.in_constraint_d
    ∷ derivation.nested_d
    ∷ derivation.beside_differing_d
    ∷ []

-- with some of their places
abbrev pub sparse_feature_rules_trees : List ClassT
sparse_feature_rules_trees =
    derivation.class_k
    ∷ []

-- The trees of the examples of the rules of signatures and versions, and of whole systems.
use Rattle.std.specs.Prelude.{List, [], ◌∷◌}
use Rattle.eif_tree.specs.Tree.{ClassT}
use Rattle.eif_feature_rules_laws.specs.RedeclarationExamples as redeclaration
use Rattle.eif_feature_rules_laws.specs.VersionExamples as version
use Rattle.eif_feature_rules_laws.specs.WorkedSystems as worked_systems
use Rattle.eif_feature_rules_laws.specs.WorkedVersions as worked_versions

-- with all of their places
abbrev pub signature_rules_trees : List ClassT
signature_rules_trees =
    redeclaration.class_app
    ∷ redeclaration.class_a
    ∷ redeclaration.class_c
    ∷ redeclaration.class_d
    ∷ redeclaration.class_e
    ∷ redeclaration.class_g
    ∷ redeclaration.class_b
    ∷ redeclaration.other_count_b
    ∷ redeclaration.other_argument_b
    ∷ redeclaration.function_for_procedure_b
    ∷ redeclaration.procedure_for_function_b
    ∷ redeclaration.other_result_b
    ∷ redeclaration.function_for_attribute_b
    ∷ redeclaration.other_attribute_b
    ∷ redeclaration.first_counts_b
    ∷ redeclaration.same_arguments_b
    ∷ redeclaration.stricter_result_b
    ∷ redeclaration.attribute_for_function_b
    ∷ redeclaration.same_attribute_b
    ∷ redeclaration.each_entry_b
    ∷ redeclaration.deferred_entry_b
    ∷ redeclaration.unfit_deferred_b
    ∷ redeclaration.fit_deferred_b
    ∷ redeclaration.unfit_undefined_b
    ∷ redeclaration.unfit_result_b
    ∷ redeclaration.unequal_join_b
    ∷ redeclaration.equal_join_b
    ∷ redeclaration.undefined_join_b
    ∷ redeclaration.large_b
    ∷ redeclaration.large_alone_b
    ∷ redeclaration.largest_b
    ∷ redeclaration.class_c_below_b
    ∷ version.class_z
    ∷ version.class_b
    ∷ version.class_c
    ∷ version.class_k
    ∷ version.class_r
    ∷ version.class_s
    ∷ version.class_t
    ∷ version.class_d
    ∷ version.undecided_d
    ∷ version.one_selected_d
    ∷ version.both_selected_d
    ∷ version.least_candidate_d
    ∷ version.needless_selection_d
    ∷ version.shared_selection_d
    ∷ version.repeated_selection_d
    ∷ version.class_p1
    ∷ version.beside_any_d
    ∷ version.two_split_d
    ∷ version.one_split_d
    ∷ version.redeclared_split_d
    ∷ version.in_assertion_d
    ∷ version.hidden_by_argument_d
    ∷ version.as_target_d
    ∷ worked_systems.class_p
    ∷ worked_systems.redeclaring_app
    ∷ worked_systems.fitting_app
    ∷ worked_systems.effective_a
    ∷ worked_systems.small_app
    ∷ worked_systems.generic_b
    ∷ worked_systems.calling_app
    ∷ worked_systems.class_a
    ∷ worked_systems.class_h
    ∷ worked_systems.class_k
    ∷ worked_systems.class_d
    ∷ worked_systems.smaller_d
    ∷ worked_versions.person
    ∷ worked_versions.renaming_app
    ∷ worked_versions.class_z
    ∷ worked_versions.class_b
    ∷ worked_versions.class_c
    ∷ worked_versions.undecided_app
    ∷ worked_versions.selecting_app
    ∷ worked_versions.needless_app
    ∷ worked_versions.replicating_app
    ∷ []

-- with some of their places
abbrev pub sparse_signature_rules_trees : List ClassT
sparse_signature_rules_trees =
    redeclaration.class_l
    ∷ []

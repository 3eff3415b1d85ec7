-- The trees of the examples of features, dynamic binding and signatures.
use Rattle.std.specs.Prelude.{List, [], ◌∷◌}
use Rattle.eif_tree.specs.Tree.{ClassT}
use Rattle.eif_classes_laws.specs.BindingExamples as binding
use Rattle.eif_classes_laws.specs.ClassTexts.{plain, maybe}
use Rattle.eif_classes_laws.specs.FeatureExamples as feature
use Rattle.eif_classes_laws.specs.SignatureExamples as signature

-- with none of their places
abbrev pub sparse_feature_example_trees : List ClassT
sparse_feature_example_trees =
    feature.person
    ∷ feature.renaming_app
    ∷ feature.class_p
    ∷ feature.class_q
    ∷ feature.class_r
    ∷ feature.class_s
    ∷ feature.class_d feature.deferred_alone_parents
    ∷ feature.class_d feature.effective_parents
    ∷ feature.class_d feature.undefined_parents
    ∷ feature.class_d feature.other_parents
    ∷ feature.class_d feature.clash_parents
    ∷ feature.class_d feature.apart_parents
    ∷ feature.class_d feature.shared_parents
    ∷ feature.class_d feature.undefined_attribute_parents
    ∷ feature.class_d feature.first_renaming_parents
    ∷ feature.redeclaring_d feature.redefined_features
    ∷ feature.redeclaring_d feature.made_deferred_features
    ∷ feature.declaring_d feature.first_features
    ∷ feature.declaring_d feature.first_field_features
    ∷ feature.declaring_d feature.constant_features
    ∷ feature.declaring_d feature.bytes_features
    ∷ binding.class_z
    ∷ binding.class_b
    ∷ binding.class_c
    ∷ binding.app binding.b_and_c
    ∷ binding.app binding.selected_b
    ∷ binding.app binding.selected_both
    ∷ binding.app binding.selected_alone
    ∷ binding.app binding.shared_parents
    ∷ binding.app binding.renamed_twice_parents
    ∷ binding.app binding.renamed_and_selected_parents
    ∷ binding.replicating_app
    ∷ signature.link
    ∷ signature.name_list
    ∷ signature.rows
    ∷ signature.table
    ∷ signature.box
    ∷ signature.boxed_d (plain "string")
    ∷ signature.boxed_d (maybe "string")
    ∷ signature.class_p
    ∷ signature.class_q
    ∷ signature.redeclaring_d
    ∷ signature.twice_redefined_d
    ∷ signature.class_d signature.effective_parents
    ∷ signature.class_d signature.first_parents
    ∷ signature.class_d signature.first_undefined_parents
    ∷ []

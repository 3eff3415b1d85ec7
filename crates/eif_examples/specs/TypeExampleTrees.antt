-- The trees of the examples of ancestors, types, conformance, clients and creators.
use Rattle.std.specs.Prelude.{List, [], ◌∷◌}
use Rattle.eif_tree.specs.Tree.{ClassT}
use Rattle.eif_classes_laws.specs.AncestryExamples as ancestry
use Rattle.eif_classes_laws.specs.ClientExamples as client
use Rattle.eif_classes_laws.specs.ConformanceExamples as conformance
use Rattle.eif_classes_laws.specs.TypeExamples as type_of

-- with none of their places
abbrev pub sparse_type_example_trees : List ClassT
sparse_type_example_trees =
    ancestry.link
    ∷ ancestry.name_list
    ∷ ancestry.pairs
    ∷ ancestry.class_d []
    ∷ ancestry.class_d ancestry.two_steps_parents
    ∷ ancestry.class_d ancestry.agreeing_parents
    ∷ ancestry.class_d ancestry.differing_parents
    ∷ ancestry.class_d ancestry.largest_parents
    ∷ ancestry.class_d ancestry.too_large_parents
    ∷ ancestry.class_e
    ∷ conformance.class_z
    ∷ conformance.class_b
    ∷ conformance.link
    ∷ conformance.name_list
    ∷ conformance.mixed
    ∷ conformance.box
    ∷ type_of.box
    ∷ type_of.tall
    ∷ client.class_a
    ∷ client.class_b
    ∷ client.class_bb
    ∷ client.class_d client.inherited_parents
    ∷ client.class_d client.narrowed
    ∷ client.class_d client.listed_twice
    ∷ client.class_d client.final_parents
    ∷ client.class_d client.both_parents
    ∷ client.redeclaring_d
    ∷ client.class_c client.first_part []
    ∷ client.class_c client.two_parts []
    ∷ client.class_c [] []
    ∷ client.class_c [] client.default_renamed_parents
    ∷ client.class_c [] client.default_selected_parents
    ∷ client.class_c [] client.default_unselected_parents
    ∷ []

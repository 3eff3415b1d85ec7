-- What the phases of features, of derivations and of signatures find in a whole system.
use Prim.Native.String.{String}
use Rattle.std.specs.Prelude.{List, [], ◌∷◌, codes}
use Rattle.eif_base.specs.declared.fault.Fault.{Fault}
use Rattle.eif_base.specs.declared.root.Root.{Root}
use Rattle.eif_tree.specs.Tree.{ClassT}
use Rattle.eif_feature_rules.specs.FeaturePhases.{feature_faults, class_derivation_faults, signature_faults, each_given}

-- the first list, or the second where it is empty
abbrev pub first_list : List Fault → List Fault → List Fault
first_list [] later = later
first_list (f ∷ fs) later = f ∷ fs

abbrev pub root : String → String → Root
root class_name procedure_name = record { class_name = codes class_name; procedure_name = codes procedure_name }

-- what the first of the three phases finds that finds anything
abbrev pub found : Root → List ClassT → List Fault
found r given =
    first_list (each_given feature_faults given)
    (first_list (each_given class_derivation_faults given) (each_given (λ u l. signature_faults u r l) given))

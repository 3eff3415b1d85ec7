-- The rules of creators, and of the root procedure.
use Rattle.std.specs.Prelude.{ℕ, ◌==◌, Bool, false, not, ◌||◌, if◌then◌else◌, List, [], ◌++◌, flat_map, length, take, is_some}
use Rattle.std.specs.List.{list_any}
use Rattle.std.specs.Option.{option_map_or}
use Rattle.std.specs.Str.{bytes_eq}
use Rattle.eif_base.specs.declared.code.Code.TheVariants as code
use Rattle.eif_base.specs.declared.fault.Fault.{Fault}
use Rattle.eif_base.specs.declared.root.Root.{Root}
use Rattle.eif_tree.specs.declared.tree.NameAt.{NameAt}
use Rattle.eif_tree.specs.Members.{has_name, creator_names}
use Rattle.eif_tree.specs.Tree.{ClassT}
use Rattle.eif_classes.specs.Creators.{creators}
use Rattle.eif_classes.specs.Features.{has_feature}
use Rattle.eif_system.specs.Lineage.{Line, line, cut}
use Rattle.eif_classes.specs.Signatures.{signature}
use Rattle.eif_system.specs.Universe.{class_number}
use Rattle.eif_rules.specs.FaultForms.{fault_at, fault_where}
use Rattle.eif_feature_rules.specs.RuleForms.{with_earlier}

-- ---- a name of the class's creators parts

-- VGCP.1: the class is deferred and has a creators part; the fault stands at the first creator
abbrev pub deferred_creation : ClassT → List Fault
deferred_creation c =
    flat_map (λ n. fault_where c.is_deferred (fault_at c code.Vgcp 1 n.place n.name)) (take 1 (creator_names c))

-- VGCP.2: a creator is no name of the class
abbrev pub unknown_creator : ClassT → Line → NameAt → List Fault
unknown_creator c l n = fault_where (not (has_feature l n.name)) (fault_at c code.Vgcp 2 n.place n.name)

-- the name has a result
abbrev pub has_result : List ClassT → Line → List ℕ → Bool
has_result u l n = option_map_or (λ s. is_some s.result) (signature u l n) false

-- VGCP.3: a creator has a result
abbrev pub creator_with_result : List ClassT → ClassT → Line → NameAt → List Fault
creator_with_result u c l n = fault_where (has_result u l n.name) (fault_at c code.Vgcp 3 n.place n.name)

-- VGCP.4: a creator stands before in the class's creators parts
abbrev pub repeated_creator : ClassT → List NameAt → NameAt → List Fault
repeated_creator c earlier n = fault_where (has_name earlier n.name) (fault_at c code.Vgcp 4 n.place n.name)

-- each rule that a creator breaks counts
abbrev pub creator_faults_by : List ClassT → ClassT → Line → List NameAt → NameAt → List Fault
creator_faults_by u c l earlier n =
    unknown_creator c l n ++ creator_with_result u c l n ++ repeated_creator c earlier n

-- of all names of the creators parts
abbrev pub creator_faults : List ClassT → ClassT → Line → List Fault
creator_faults u c l =
    deferred_creation c ++ flat_map (λ x. creator_faults_by u c l x.0 x.1) (with_earlier (creator_names c))

-- ---- the root procedure

-- the class creates by that name; what a creators part names is a creator, also where the class has no such name
abbrev pub is_creator : Line → List ℕ → Bool
is_creator l n = list_any (λ x. bytes_eq x.name n) (creators l)

-- the name has arguments
abbrev pub has_arguments : List ClassT → Line → List ℕ → Bool
has_arguments u l n = option_map_or (λ s. not (length s.arguments == 0)) (signature u l n) false

-- VSRP.1: the root procedure is no creator of the root class, or has arguments
abbrev pub wrong_root_procedure : List ClassT → ClassT → Line → List ℕ → List Fault
wrong_root_procedure u c l n =
    fault_where (not (is_creator l n) || has_arguments u l n) (fault_at c code.Vsrp 1 c.place n)

-- the class with that number is the root class
abbrev pub is_root : List ClassT → Root → ℕ → Bool
is_root u root d = option_map_or (λ k. k == d) (class_number u root.class_name) false

-- where the class c is the root class
abbrev pub root_procedure_faults : List ClassT → Root → ℕ → ClassT → Line → List Fault
root_procedure_faults u root d c l =
    if is_root u root d then wrong_root_procedure u c l root.procedure_name else []

-- ---- both

-- of the creators of a class, and of the root procedure in the root class
abbrev pub creation_faults : List ClassT → Root → Line → List Fault
creation_faults u root (line d c ups) =
    creator_faults u c (line d c ups) ++ root_procedure_faults u root d c (line d c ups)
creation_faults u root cut = []

-- The faults of the phases of features, of derivations and of signatures. The kernel's classes are not judged.
use Rattle.std.specs.Prelude.{ℕ, nat_lt, ◌+◌, ◌==◌, Bool, ◌||◌, if◌then◌else◌, List, [], ◌++◌, length, flat_map}
use Rattle.std.specs.List.{list_all, enumerate_from}
use Rattle.eif_base.specs.declared.fault.Fault.{Fault}
use Rattle.eif_base.specs.declared.root.Root.{Root}
use Rattle.eif_base.specs.Appends.{In}
use Rattle.eif_tree.specs.Tree.{ClassT}
use Rattle.eif_classes.specs.Descent.{above}
use Rattle.eif_classes.specs.Features.{entries, features}
use Rattle.eif_system.specs.Kernel.{kernel_count}
use Rattle.eif_system.specs.Lineage.{Line, line, cut, Ups, line_of}
use Rattle.eif_system.specs.Universe.{universe}
use Rattle.eif_feature_rules.specs.CreatorRules.{creation_faults}
use Rattle.eif_feature_rules.specs.DeclarationRules.{declaration_faults}
use Rattle.eif_feature_rules.specs.DerivationRules.{derivation_faults, written_actual_faults}
use Rattle.eif_feature_rules.specs.FeatureRules.{adaptation_faults, name_faults}
use Rattle.eif_feature_rules.specs.JoinRules.{join_faults}
use Rattle.eif_feature_rules.specs.ReplicationRules.{replication_faults}
use Rattle.eif_feature_rules.specs.RuleForms.{each_clause}
use Rattle.eif_feature_rules.specs.SelectionRules.{selection_faults}

-- ---- a class

-- of the class c with these clauses, this line and these proper ancestors
abbrev pub own_feature_faults_by : List ClassT → ClassT → Ups → Line → List ℕ → List Fault
own_feature_faults_by u c ups l ancestors =
    each_clause (adaptation_faults c) ups
    ++ declaration_faults u c (entries ups)
    ++ name_faults u c (features l) ancestors
    ++ selection_faults u c ups ancestors
    ++ replication_faults u c l ancestors

-- of its features, whatever its ancestors are
abbrev pub own_feature_faults : List ClassT → Line → List Fault
own_feature_faults u (line d c ups) = own_feature_faults_by u c ups (line d c ups) (above (line d c ups))
own_feature_faults u cut = []

-- the class is the kernel's or has no such fault
abbrev pub is_clean : List ClassT → ℕ → Bool
is_clean u k = nat_lt k kernel_count || length (own_feature_faults u (line_of u k)) == 0

-- of its features, where no proper ancestor has such a fault
abbrev pub feature_faults : List ClassT → Line → List Fault
feature_faults u l = if list_all (is_clean u) (above l) then own_feature_faults u l else []

-- of its derivations
abbrev pub class_derivation_faults : List ClassT → Line → List Fault
class_derivation_faults u (line d c ups) = derivation_faults u (line d c ups) ++ written_actual_faults u d c
class_derivation_faults u cut = []

-- of its signatures
abbrev pub signature_faults : List ClassT → Root → Line → List Fault
signature_faults u root l = join_faults u l ++ creation_faults u root l

-- ---- the given classes

-- of each given class, by its line
abbrev pub each_given : (List ClassT → Line → List Fault) → List ClassT → List Fault
each_given judge given =
    flat_map (λ x. judge (universe given) (line_of (universe given) (kernel_count + x.0))) (enumerate_from 0 given)

-- those of the phase of features
abbrev pub FeaturesBroken : List ClassT → Fault → Type 0
FeaturesBroken given = In (each_given feature_faults given)

-- those of the phase of derivations
abbrev pub DerivationsBroken : List ClassT → Fault → Type 0
DerivationsBroken given = In (each_given class_derivation_faults given)

-- those of the phase of signatures
abbrev pub SignaturesBroken : List ClassT → Root → Fault → Type 0
SignaturesBroken given root = In (each_given (λ u l. signature_faults u root l) given)

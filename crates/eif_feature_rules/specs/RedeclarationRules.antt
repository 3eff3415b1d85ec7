-- The rules of redeclaration: a declared name beside each entry of it. Of several rules that it breaks beside one entry
-- the first counts. VDRD.6, of a name that isn't declared, is in JoinRules.
use Rattle.std.specs.Prelude.{ℕ, Bool, not, ◌&&◌, List, ◌++◌, flat_map}
use Rattle.eif_base.specs.declared.code.Code.TheVariants as code
use Rattle.eif_base.specs.declared.fault.Fault.{Fault}
use Rattle.eif_tree.specs.Tree.{ClassT}
use Rattle.eif_classes.specs.Features.{is_attribute, is_field}
use Rattle.eif_classes.specs.Signatures.{Signature, SignedEntry, declared_signature}
use Rattle.eif_system.specs.WrittenTypes.{type_name}
use Rattle.eif_rules.specs.FaultForms.{fault_in, fault_where}
use Rattle.eif_feature_rules.specs.RuleForms.{first_broken, DeclaredName}
use Rattle.eif_feature_rules.specs.SignaturePairs.{have_equal_count, have_equal_arguments, are_of_one_form, has_conforming_result, have_equal_results}

-- a fault of the class c in the feature of a declared name, at that name and about the class of the entry's clause
abbrev pub fault_beside : ClassT → DeclaredName → SignedEntry → ℕ → Fault
fault_beside c x e case = fault_in c x.name.name code.Vdrd case x.name.place (type_name e.entry.clause.parent)

-- ---- a declared name with the signature s beside an entry

-- VDRD.1: they have different numbers of arguments
abbrev pub other_count : ClassT → DeclaredName → Signature → SignedEntry → List Fault
other_count c x s e = fault_where (not (have_equal_count s e.signature)) (fault_beside c x e 1)

-- VDRD.2: an argument's type isn't equal
abbrev pub other_argument : ClassT → DeclaredName → Signature → SignedEntry → List Fault
other_argument c x s e = fault_where (not (have_equal_arguments s e.signature)) (fault_beside c x e 2)

-- VDRD.3: one has a result and the other has none
abbrev pub other_form : ClassT → DeclaredName → Signature → SignedEntry → List Fault
other_form c x s e = fault_where (not (are_of_one_form s e.signature)) (fault_beside c x e 3)

-- VDRD.4: the result doesn't conform
abbrev pub other_result : List ClassT → ℕ → ClassT → DeclaredName → Signature → SignedEntry → List Fault
other_result u d c x s e = fault_where (not (has_conforming_result u d s e.signature)) (fault_beside c x e 4)

-- the declaration is an attribute of the entry's type
abbrev pub keeps_attribute : DeclaredName → Signature → SignedEntry → Bool
keeps_attribute x s e = is_attribute x.tree.kind && have_equal_results s e.signature

-- VDRD.5: the entry is an attribute and the declaration isn't an attribute of equal type
abbrev pub lost_attribute : ClassT → DeclaredName → Signature → SignedEntry → List Fault
lost_attribute c x s e =
    fault_where (is_field e.entry.feature.origin && not (keeps_attribute x s e))
    (fault_beside c x e 5)

-- the first of these rules that is broken
abbrev pub redeclaration_faults_by :
    List ClassT → ℕ → ClassT → DeclaredName → Signature → SignedEntry → List Fault
redeclaration_faults_by u d c x s e =
    first_broken (
    other_count c x s e
    ++ other_argument c x s e
    ++ other_form c x s e
    ++ other_result u d c x s e
    ++ lost_attribute c x s e)

-- ---- a declared name of the class c, which has the number d, beside these entries

-- each entry is judged by itself
abbrev pub redeclaration_faults : List ClassT → ℕ → ClassT → DeclaredName → List SignedEntry → List Fault
redeclaration_faults u d c x es = flat_map (redeclaration_faults_by u d c x (declared_signature u c x.tree)) es

-- The rules of one parent clause: what it renames, exports, undefines, redefines and selects. Each listed name is judged
-- by itself, and of several rules of one code that it breaks the first counts. VDRS.3 and VMSS.3, which ask for the whole
-- class, are in FeatureRules and SelectionRules, VDRS.4 in DeclarationRules.
use Rattle.std.specs.Prelude.{ℕ, not, ◌==◌, List, [], ◌++◌, map, flat_map, length, codes}
use Rattle.std.specs.List.{filter_map}
use Rattle.eif_base.specs.declared.code.Code.{Code}
use Rattle.eif_base.specs.declared.code.Code.TheVariants as code
use Rattle.eif_base.specs.declared.fault.Fault.{Fault}
use Rattle.eif_base.specs.declared.place.Place.{Place}
use Rattle.eif_base.specs.Numbering.{is_among}
use Rattle.eif_tree.specs.declared.tree.NameAt.{NameAt}
use Rattle.eif_tree.specs.Members.{has_name}
use Rattle.eif_tree.specs.Tree.{ParentT}
use Rattle.eif_rules.specs.FaultForms.{fault_where}
use Rattle.eif_feature_rules.specs.ParentFeatures.{ParentFeature, is_deferred_feature, is_attribute_feature, parent_names, final_names, has_entry}
use Rattle.eif_feature_rules.specs.RuleForms.{first_broken, with_earlier}

-- a fault of the class with that name, at a listed name and about it
abbrev pub fault_at_name : List ℕ → Code → ℕ → NameAt → Fault
fault_at_name class code case n =
    record { code = code; case = case; class = class; feature = []; place = n.place; about = n.name }

-- a listed name is none of these
abbrev pub unknown_name : List ℕ → Code → List (List ℕ) → NameAt → List Fault
unknown_name class code names n = fault_where (not (is_among names n.name)) (fault_at_name class code 1 n)

-- a listed name stands before in its list
abbrev pub repeated_name : List ℕ → Code → List NameAt → NameAt → List Fault
repeated_name class code earlier n = fault_where (has_name earlier n.name) (fault_at_name class code 2 n)

-- ---- a renamed name

-- VHRC.1: it is no name of the parent
abbrev pub unknown_rename : List ℕ → List ParentFeature → NameAt → List Fault
unknown_rename class fs n = unknown_name class code.Vhrc (parent_names fs) n

-- VHRC.2: it was renamed before in the clause
abbrev pub repeated_rename : List ℕ → List NameAt → NameAt → List Fault
repeated_rename class earlier n = repeated_name class code.Vhrc earlier n

-- the first of the two that is broken
abbrev pub rename_faults : List ℕ → List ParentFeature → List NameAt → NameAt → List Fault
rename_faults class fs earlier n = first_broken (unknown_rename class fs n ++ repeated_rename class earlier n)

-- ---- an exported name

-- VLEL.1: it is no final name of the clause
abbrev pub unknown_export : List ℕ → ParentT → List ParentFeature → NameAt → List Fault
unknown_export class p fs n = unknown_name class code.Vlel (final_names p fs) n

-- VLEL.2: it stands before in the clause's export items
abbrev pub repeated_export : List ℕ → List NameAt → NameAt → List Fault
repeated_export class earlier n = repeated_name class code.Vlel earlier n

-- the first of the two that is broken
abbrev pub export_faults : List ℕ → ParentT → List ParentFeature → List NameAt → NameAt → List Fault
export_faults class p fs earlier n = first_broken (unknown_export class p fs n ++ repeated_export class earlier n)

-- VLEL.3: `all` stands before in the clause's export items
abbrev pub repeated_all : List ℕ → List Place → Place → List Fault
repeated_all class earlier place =
    fault_where (not (length earlier == 0))
    (fault_at_name class code.Vlel 3 (record { place = place; name = codes "all" }))

-- ---- an undefined name

-- VDUS.1: it is no final name of the clause
abbrev pub unknown_undefine : List ℕ → ParentT → List ParentFeature → NameAt → List Fault
unknown_undefine class p fs n = unknown_name class code.Vdus (final_names p fs) n

-- VDUS.2: it stands before in that list
abbrev pub repeated_undefine : List ℕ → List NameAt → NameAt → List Fault
repeated_undefine class earlier n = repeated_name class code.Vdus earlier n

-- VDUS.3: an entry of that name in the clause is an attribute
abbrev pub attribute_undefine : List ℕ → ParentT → List ParentFeature → NameAt → List Fault
attribute_undefine class p fs n =
    fault_where (has_entry is_attribute_feature p fs n.name) (fault_at_name class code.Vdus 3 n)

-- VDUS.4: an entry of that name in the clause is deferred
abbrev pub deferred_undefine : List ℕ → ParentT → List ParentFeature → NameAt → List Fault
deferred_undefine class p fs n =
    fault_where (has_entry is_deferred_feature p fs n.name) (fault_at_name class code.Vdus 4 n)

-- the first of the four that is broken
abbrev pub undefine_faults : List ℕ → ParentT → List ParentFeature → List NameAt → NameAt → List Fault
undefine_faults class p fs earlier n =
    first_broken (
    unknown_undefine class p fs n
    ++ repeated_undefine class earlier n
    ++ attribute_undefine class p fs n
    ++ deferred_undefine class p fs n)

-- ---- a redefined name

-- VDRS.1: it is no final name of the clause
abbrev pub unknown_redefine : List ℕ → ParentT → List ParentFeature → NameAt → List Fault
unknown_redefine class p fs n = unknown_name class code.Vdrs (final_names p fs) n

-- VDRS.2: it stands before in that list
abbrev pub repeated_redefine : List ℕ → List NameAt → NameAt → List Fault
repeated_redefine class earlier n = repeated_name class code.Vdrs earlier n

-- the first of the two that is broken
abbrev pub redefine_faults : List ℕ → ParentT → List ParentFeature → List NameAt → NameAt → List Fault
redefine_faults class p fs earlier n =
    first_broken (unknown_redefine class p fs n ++ repeated_redefine class earlier n)

-- ---- a selected name

-- VMSS.1: it is no final name of the clause
abbrev pub unknown_select : List ℕ → ParentT → List ParentFeature → NameAt → List Fault
unknown_select class p fs n = unknown_name class code.Vmss (final_names p fs) n

-- VMSS.2: it stands before in that list
abbrev pub repeated_select : List ℕ → List NameAt → NameAt → List Fault
repeated_select class earlier n = repeated_name class code.Vmss earlier n

-- the first of the two that is broken
abbrev pub select_faults : List ℕ → ParentT → List ParentFeature → List NameAt → NameAt → List Fault
select_faults class p fs earlier n = first_broken (unknown_select class p fs n ++ repeated_select class earlier n)

-- ---- the clause

-- what is judged of each name of a list
abbrev pub each_listed : (List NameAt → NameAt → List Fault) → List NameAt → List Fault
each_listed judge ns = flat_map (λ x. judge x.0 x.1) (with_earlier ns)

-- the names that the clause renames, in the order of the text
abbrev pub renamed_names : ParentT → List NameAt
renamed_names p = map (λ r. r.old_name) p.renames

-- the names in its export items
abbrev pub exported_names : ParentT → List NameAt
exported_names p = flat_map (λ x. x.names) p.exports

-- where `all` stands
abbrev pub exported_alls : ParentT → List Place
exported_alls p = filter_map (λ x. x.all) p.exports

-- all of these rules, in a clause of the class with that name, whose parent has these features
abbrev pub clause_faults : List ℕ → ParentT → List ParentFeature → List Fault
clause_faults class p fs =
    each_listed (rename_faults class fs) (renamed_names p)
    ++ each_listed (export_faults class p fs) (exported_names p)
    ++ flat_map (λ x. repeated_all class x.0 x.1) (with_earlier (exported_alls p))
    ++ each_listed (undefine_faults class p fs) p.undefines
    ++ each_listed (redefine_faults class p fs) p.redefines
    ++ each_listed (select_faults class p fs) p.selects

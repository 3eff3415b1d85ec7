-- The rules of selection: which of several versions dynamic binding uses.
use Rattle.std.specs.Prelude.{ℕ, Bool, not, ◌&&◌, List, [], ◌++◌, map, flat_map, is_none, slice_index_or}
use Rattle.std.specs.List.{filter, list_any}
use Rattle.eif_base.specs.declared.code.Code.TheVariants as code
use Rattle.eif_base.specs.declared.fault.Fault.{Fault}
use Rattle.eif_base.specs.Numbering.{is_among}
use Rattle.eif_tree.specs.declared.tree.NameAt.{NameAt}
use Rattle.eif_tree.specs.Members.{has_name}
use Rattle.eif_tree.specs.Tree.{ParentT, ClassT}
use Rattle.eif_classes.specs.Binding.{candidates, is_selected_in}
use Rattle.eif_classes.specs.Features.{names}
use Rattle.eif_system.specs.Inheritance.{clauses}
use Rattle.eif_system.specs.Lineage.{Line, Ups, line_of}
use Rattle.eif_classes.specs.Names.{name_set, are_several, agreed}
use Rattle.eif_rules.specs.FaultForms.{fault_at, fault_where}
use Rattle.eif_feature_rules.specs.ClauseRules.{each_listed}
use Rattle.eif_feature_rules.specs.ParentFeatures.{parent_features, final_names}
use Rattle.eif_feature_rules.specs.RuleForms.{each_clause}

-- the candidates for each feature of each of these proper ancestors
abbrev pub choices : List ClassT → Ups → List ℕ → List (List (List ℕ))
choices u ups ancestors = flat_map (λ k. map (candidates ups k) (names (line_of u k))) ancestors

-- ---- a selected name

-- the name is one of several candidates
abbrev pub is_choice : List (List (List ℕ)) → List ℕ → Bool
is_choice choices n = list_any (λ ns. are_several ns && is_among ns n) choices

-- VMSS.3: a selected name is a final name of the clause and one of several candidates of no ancestor's feature; a name
-- that stands before in that list is judged there
abbrev pub needless_select : ClassT → List (List (List ℕ)) → List (List ℕ) → List NameAt → NameAt → List Fault
needless_select c choices finals earlier n =
    fault_where (is_among finals n.name && not (has_name earlier n.name) && not (is_choice choices n.name))
    (fault_at c code.Vmss 3 n.place n.name)

-- of one clause, whose class has this line
abbrev pub clause_selection_faults : ClassT → List (List (List ℕ)) → ParentT → Line → List Fault
clause_selection_faults c choices p l =
    each_listed (needless_select c choices (final_names p (parent_features l))) p.selects

-- ---- the candidates for one feature

-- there are several, and not exactly one of them is selected
abbrev pub is_undecided : List ParentT → List (List ℕ) → Bool
is_undecided ps ns = are_several ns && is_none (agreed (filter (is_selected_in ps) ns))

-- the least of some names
abbrev pub least : List (List ℕ) → List ℕ
least ns = slice_index_or (name_set ns) 0 []

-- VMRC.1: an ancestor's feature has several candidates and not exactly one is selected
abbrev pub undecided_version : ClassT → List (List ℕ) → List Fault
undecided_version c ns = fault_where (is_undecided (clauses c) ns) (fault_at c code.Vmrc 1 c.place (least ns))

-- ---- both

-- of the class c with these clauses and these choices
abbrev pub selection_faults_by : ClassT → Ups → List (List (List ℕ)) → List Fault
selection_faults_by c ups choices =
    each_clause (clause_selection_faults c choices) ups ++ flat_map (undecided_version c) choices

-- of the class c with these clauses and these proper ancestors
abbrev pub selection_faults : List ClassT → ClassT → Ups → List ℕ → List Fault
selection_faults u c ups ancestors = selection_faults_by c ups (choices u ups ancestors)

use Rattle.std.proofs.Common.{◌∙◌, List, ◌++◌, map, ap}
use Rattle.std.specs.Prelude.{flat_map}
use Rattle.std.specs.List.{filter_map}
use Rattle.eif_base.specs.declared.fault.Fault.{Fault}
use Rattle.eif_base.specs.declared.place.Place.{Place}
use Rattle.eif_tree.specs.declared.class.ExportItem.{ExportItem}
use Rattle.eif_tree.specs.declared.tree.NameAt.{NameAt}
use Rattle.eif_tree.specs.declared.tree.RenamePair.{RenamePair}
use Rattle.eif_tree.specs.Tree.{ExportT}
use Rattle.eif_tree.specs.View.{export_view, parent_view}
use Rattle.eif_feature_rules.specs.ClauseRules.{rename_faults, export_faults, repeated_all, undefine_faults, redefine_faults, select_faults, each_listed}
use Rattle.eif_feature_rules.specs.RuleForms.{with_earlier}
use Rattle.eif_adapt.specs.Adaptations.{feature_view}
use Rattle.eif_adapt.proofs.InTurn.{then}
use Rattle.eif_adapt.proofs.clause.Clause.push_faults.Goals as goal

pub returns : goal.returns
returns c =
    let clause = c.args.self.now in
    let class = clause.class_name.now in
    let p = parent_view clause.indexed.tree.now in
    let fs = map feature_view clause.features.now in
    let old = c.args.out.now in
    let of_renames : List RenamePair → List Fault = λ rs. each_listed (rename_faults class fs) (map (λ r. r.old_name) rs) in
    let of_exports : List ExportItem → List Fault = λ xs.
    each_listed (export_faults class p fs) (flat_map (λ (x : ExportT). x.names) (map export_view xs)) in
    let of_alls : List ExportItem → List Fault = λ xs.
    flat_map (λ (x : List Place × Place). repeated_all class x.0 x.1)
    (with_earlier (filter_map (λ (x : ExportT). x.all) (map export_view xs))) in
    let of_undefines : List NameAt → List Fault = each_listed (undefine_faults class p fs) in
    let of_redefines : List NameAt → List Fault = each_listed (redefine_faults class p fs) in
    let of_selects : List NameAt → List Fault = each_listed (select_faults class p fs) in
    let out = c.push_faults_of_renames.new.out in
    let out-2 = c.push_faults_of_exports.new.out in
    let out-3 = c.push_faults_of_alls.new.out in
    let out-4 = c.push_list_faults.new.out in
    let out-5 = c.push_list_faults-2.new.out in
    then old out-5 _ _ _
    (then old out-4 _ _ _
    (then old out-3 _ _ _
    (then old out-2 _ _ _
    (then old out _ _ _
    (c.in_ok-push_faults_of_renames.ensures ∙ ap (λ rs. old ++ of_renames rs) c.deref.ensures.value)
    (c.in_ok-push_faults_of_exports.ensures ∙ ap (λ xs. out ++ of_exports xs) c.deref-2.ensures.value))
    (c.in_ok-push_faults_of_alls.ensures ∙ ap (λ xs. out-2 ++ of_alls xs) c.deref-3.ensures.value))
    (c.in_ok-push_list_faults.ensures ∙ ap (λ ns. out-3 ++ of_undefines ns) c.deref-4.ensures.value))
    (c.in_ok-push_list_faults-2.ensures ∙ ap (λ ns. out-4 ++ of_redefines ns) c.deref-5.ensures.value))
    (c.in_ok-push_list_faults-3.ensures ∙ ap (λ ns. out-5 ++ of_selects ns) c.deref-6.ensures.value)

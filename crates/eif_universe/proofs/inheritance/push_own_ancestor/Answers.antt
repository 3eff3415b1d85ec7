use Rattle.std.proofs.Common.{◌∙◌, ◌++◌, ap, refl, sym}
use Rattle.eif_base.specs.declared.code.Code.TheVariants as code
use Rattle.eif_base.specs.declared.fault.Fault.{Fault}
use Rattle.eif_rules.specs.FaultForms.{fault_at, fault_where}
use Rattle.eif_rules.specs.UniverseRules.{IsOwnAncestor}
use Rattle.eif_system.specs.WrittenTypes.{type_name, type_name_place}
use Rattle.eif_tree.proofs.Views.{type_view-opened}
use Rattle.eif_tree.specs.View.{class_view, parent_view}
use Rattle.eif_universe.specs.ClassesView.{classes_view}
use Rattle.eif_universe.proofs.Told.{adds_where}
use Rattle.eif_universe.proofs.inheritance.push_own_ancestor.Goals as goal

pub returns : goal.returns
returns c =
    let u = classes_view c.args.classes.now in
    let judged = class_view c.args.class.now in
    let p = parent_view c.args.clause.now in
    let told : Fault = fault_at judged code.Vhpr 1 (type_name_place p.parent) (type_name p.parent) in
    let b = c.is_own_ancestor-is_broken.result in
    adds_where c.args.out.now c.push_where.new.out b told (IsOwnAncestor u c.args.d judged p)
    (c.in_ok-push_where.ensures ∙ ap (λ f. c.args.out.now ++ fault_where b f)
    (c.at-fault.ensures ∙ ap (λ t. fault_at judged code.Vhpr 1 (type_name_place t) (type_name t))
    (sym (type_view-opened c.args.clause.now.parent))))
    (λ t. let k = c.is_own_ancestor-is_broken.ensures.0 t in (k.0, k.1, k.2, refl))
    (λ f h. (c.is_own_ancestor-is_broken.ensures.1 (h.0, h.1, h.2), h.3))

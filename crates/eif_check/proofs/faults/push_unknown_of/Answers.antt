use Rattle.std.proofs.Common.{◌≡◌, List, ◌++◌, map, ap, subst, ◌∙◌}
use Rattle.std.specs.List.{flat_map}
use Rattle.eif_base.specs.declared.fault.Fault.{Fault}
use Rattle.eif_system_rules.specs.SystemRules.{unknown_names}
use Rattle.eif_tree.specs.declared.tree.NameAt.{NameAt}
use Rattle.eif_tree.specs.Members.{declarations, declared_names}
use Rattle.eif_tree.specs.Tree.{DeclT}
use Rattle.eif_tree.specs.View.{class_view, decl_view}
use Rattle.eif_check.specs.Mentions.{name_at, IsNameSet}
use Rattle.eif_check.specs.UnknownNames.{all_unknown_in}
use Rattle.eif_check.proofs.NameSets.{same_unknown}
use Rattle.eif_check.proofs.faults.push_unknown_of.Goals as goal

pub returns : goal.returns
returns c =
    let class = class_view c.args.class.now in
    let declared = c.in_ok-declared.declared in
    let first = ap (λ ds. map (λ d. decl_view d.now) ds) c.deref.ensures.value ∙ c.in_ok-decls.ensures in
    let last = ap (λ ds. map (λ d. decl_view d.now) ds) c.deref-3.ensures.value ∙ c.in_ok-decls.ensures in
    let names = ap (λ ns. map name_at ns) c.deref-2.ensures.value
    ∙ (c.in_ok-names.ensures ∙ ap (λ (ds : List DeclT). flat_map (λ d. d.names) ds) first) in
    let is : IsNameSet declared (declared_names class) =
    subst (λ (ns : List NameAt). IsNameSet declared ns) names c.in_ok-declared.ensures in
    c.in_ok-push_unknown_in_all.ensures
    ∙ ap (λ (ds : List DeclT). c.args.out.now ++ flat_map (all_unknown_in class declared) ds) last
    ∙ ap (λ (fs : List Fault). c.args.out.now ++ fs) (same_unknown class declared (declared_names class) is (declarations class))

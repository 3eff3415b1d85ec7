use Rattle.std.proofs.Common.{◌≡◌, ◌++◌, List, map, ap, ◌∙◌}
use Rattle.std.specs.Prelude.{flat_map}
use Rattle.eif_classes.specs.Features.{entries}
use Rattle.eif_feature_faults.proofs.Beside.{declared_views}
use Rattle.eif_feature_faults.proofs.InTurn.{then}
use Rattle.eif_feature_faults.proofs.declarations.push_declaration_faults.Goals as goal
use Rattle.eif_feature_faults.specs.DeclaredViews.{declared_view}
use Rattle.eif_feature_rules.specs.DeclarationRules.{declared_name_faults, wrong_constant}
use Rattle.eif_feature_rules.specs.RuleForms.{DeclaredName, declared_here, with_earlier}
use Rattle.eif_heirs.specs.Clauses.{ups_in}
use Rattle.eif_tree.specs.View.{class_view}
use Rattle.eif_universe.specs.Universes.{classes_of}

pub returns : goal.returns
returns c =
    let u = classes_of c.args.u.now in
    let h = c.args.heir.now in
    let class = class_view h.tree.now in
    let here = declared_here class in
    let first = c.push_faults_beside.new.out in
    let views = ap (map declared_view) c.deref.ensures.value
    ∙ declared_views class h.declared.items here c.requires.heir.declared_are in
    then c.args.out.now
    (flat_map (λ (x : List DeclaredName × DeclaredName). declared_name_faults class (entries (ups_in u class)) x.0 x.1)
    (with_earlier here))
    (flat_map (wrong_constant u class) here) first c.push_wrong_constants.new.out
    (c.in_ok-push_faults_beside.ensures u c.requires.heir)
    (c.in_ok-push_wrong_constants.ensures ∙ ap (λ xs. first ++ flat_map (wrong_constant u class) xs) views)

use Rattle.std.proofs.Common.{map, Some, ap, sym, ◌∙◌}
use Rattle.std.specs.Option.{option_map}
use Rattle.std.proofs.lemmas.Option.{slice_get-get_or, slice_get-map}
use Rattle.eif_feature_faults.proofs.InTurn.{added_more}
use Rattle.eif_feature_faults.proofs.constants.push_wrong_constants.Goals as goal
use Rattle.eif_feature_faults.specs.DeclaredViews.{declared_view}
use Rattle.eif_feature_rules.specs.DeclarationRules.{wrong_constant}
use Rattle.eif_tree.specs.View.{class_view}
use Rattle.eif_universe.specs.Universes.{classes_of}

pub declared-preserved : goal.declared-preserved
declared-preserved c =
    let declared = c.args.declared.now in
    let i = c.declared.x-index in
    let x = c.x-item.result in
    added_more (wrong_constant (classes_of c.args.u.now) (class_view c.args.class.now)) c.args.out.now
    (map declared_view declared) i (declared_view x) c.declared.out c.push_wrong_constant.new.out
    (slice_get-map declared_view declared i
    ∙ ap (option_map declared_view)
    (slice_get-get_or declared i x c.declared-test.true ∙ ap Some (sym c.x-item.is)))
    c.declared.invariant c.in_ok-push_wrong_constant.ensures

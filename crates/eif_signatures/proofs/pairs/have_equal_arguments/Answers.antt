use Rattle.std.proofs.Common.{map, ap₂, ◌∙◌}
use Rattle.std.proofs.lemmas.Bool.{eqb-true}
use Rattle.eif_classes.specs.Types.{same_actuals}
use Rattle.eif_signatures.proofs.SamePairs.{same_pairs}
use Rattle.eif_type_forms.specs.View.{actuals_view, ty_view}
use Rattle.eif_signatures.proofs.pairs.have_equal_arguments.Goals as goal

pub returns : goal.returns
returns c =
    let xs = c.args.one.now.arguments.items in
    let ys = c.args.two.now.arguments.items in
    c.same_types.ensures
    ∙ (ap₂ (λ xs ys. same_actuals (actuals_view xs) (actuals_view ys)) c.deref.ensures.value c.deref-2.ensures.value
    ∙ same_pairs (map ty_view xs) (map ty_view ys) (eqb-true _ _ c.requires))

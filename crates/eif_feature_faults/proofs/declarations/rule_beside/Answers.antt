use Rattle.std.proofs.Common.{◌≡◌, true, false, ap, sym, ◌∙◌}
use Rattle.eif_base.specs.Numbering.{is_among}
use Rattle.eif_classes.specs.Features.{names}
use Rattle.eif_feature_faults.proofs.Beside.{is_name}
use Rattle.eif_feature_faults.proofs.declarations.rule_beside.Goals as goal
use Rattle.eif_feature_faults.specs.DeclaredViews.{declared_view}
use Rattle.eif_heirs.specs.Clauses.{ups_in}
use Rattle.eif_tree.specs.View.{class_view}

pub returns-in-None : goal.returns-in-None
returns-in-None c = λ u heir at.
    let h = c.args.heir.now in
    let class = class_view h.tree.now in
    let x = declared_view c.args.x.now in
    let yes = ap (λ l. is_among (names l) x.name.name) heir.line_is
    ∙ is_name h.class_id.0 class (ups_in u class) c.args.i x at in
    let both : true ≡ false = sym yes ∙ c.in-None.ensures.none u heir in
    absurd (cc)

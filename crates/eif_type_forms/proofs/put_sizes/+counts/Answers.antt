use Rattle.std.proofs.Common.{sym, ap, ◌∙◌, suc, min}
use Rattle.eif_base.specs.declared.limits.TheConstants.{MOST_TYPE_NAMES}
use Rattle.eif_classes.specs.Types.{name_count, put_in}
use Rattle.eif_type_forms.specs.View.{actuals_view}
use Rattle.eif_type_forms.proofs.Marking.{count_marked}
use Rattle.eif_type_forms.proofs.Views.{view_formal}
use Rattle.eif_type_forms.proofs.put_sizes.+counts.Goals as goal

pub count_put-returns-in-Some : goal.count_put-returns-in-Some
count_put-returns-in-Some t c =
    let f = view_formal c.args.t.now c.in-Formal.index c.in-Formal.mark c.in-Formal.is in
    let put = ap (λ t. name_count (put_in (actuals_view c.args.actuals.now) t)) f in
    let count = put ∙ (count_marked c.in-Formal.mark _ ∙ ap name_count c.in-Some.ensures.some) in
    c.count_names.ensures ∙ ap (min (suc MOST_TYPE_NAMES)) (sym count)

pub count_put-returns-in-None : goal.count_put-returns-in-None
count_put-returns-in-None t c =
    let f = view_formal c.args.t.now c.in-Formal.index c.in-Formal.mark c.in-Formal.is in
    let put = ap (λ t. name_count (put_in (actuals_view c.args.actuals.now) t)) f in
    let count = put ∙ (count_marked c.in-Formal.mark _ ∙ ap name_count c.in-None.ensures.none) in
    ap (min (suc MOST_TYPE_NAMES)) (sym count)

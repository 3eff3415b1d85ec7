use Rattle.std.proofs.Common.{sym, ap, ◌∙◌}
use Rattle.eif_classes.specs.Types.{same_type, put_in, marked}
use Rattle.eif_type_forms.specs.View.{ty_view, actuals_view}
use Rattle.eif_type_forms.proofs.Marking.{marked_none}
use Rattle.eif_type_forms.proofs.Views.{view_formal, same_length_put}
use Rattle.eif_type_forms.proofs.put_compare.+same.Goals as goal

pub same_puts-returns-then-ts-others : goal.same_puts-returns-then-ts-others
same_puts-returns-then-ts-others t c =
    sym (same_length_put (actuals_view c.args.actuals.now) c.args.ts.now c.args.others.now c.if-ts-others.true)

pub same_put-returns-in-Some : goal.same_put-returns-in-Some
same_put-returns-in-Some t c =
    let f = view_formal c.args.t.now c.in-Formal.index c.in-Formal.mark c.in-Formal.is in
    let put = ap (put_in (actuals_view c.args.actuals.now)) f ∙ ap (marked c.in-Formal.mark) c.in-Some.ensures.some in
    c.same_marked.ensures ∙ sym (ap (λ t. same_type t (ty_view c.args.other.now)) put)

pub same_put-returns-in-None : goal.same_put-returns-in-None
same_put-returns-in-None t c =
    let f = view_formal c.args.t.now c.in-Formal.index c.in-Formal.mark c.in-Formal.is in
    let none = ap (marked c.in-Formal.mark) c.in-None.ensures.none ∙ marked_none c.in-Formal.mark in
    let put = ap (put_in (actuals_view c.args.actuals.now)) f ∙ none in
    c.is_nothing.ensures ∙ sym (ap (λ t. same_type t (ty_view c.args.other.now)) put)

use Rattle.std.proofs.Common.{◌≡◌, sym, ap, ◌∙◌, IfOk, subst}
use Rattle.eif_classes.specs.Types.{TyT, put_in, marked}
use Rattle.eif_type_forms.specs.declared.ty.Ty.{Ty}
use Rattle.eif_type_forms.specs.View.{ty_view, actuals_view}
use Rattle.eif_type_forms.proofs.Marking.{marked_none}
use Rattle.eif_type_forms.proofs.Views.{view_formal, view_nothing, all_put}
use Rattle.eif_type_forms.proofs.put.+put.Goals as goal

pub put_type-returns-in-Some : goal.put_type-returns-in-Some
put_type-returns-in-Some t c =
    let f = view_formal c.args.t.now c.in-Formal.index c.in-Formal.mark c.in-Formal.is in
    let put = ap (put_in (actuals_view c.args.actuals.now)) (sym f) in
    let e = ap (marked c.in-Formal.mark) (sym c.in-Some.ensures.some) ∙ put in
    subst (λ (s : TyT). IfOk c.copy_marked.result (λ (copy : Ty). ty_view copy ≡ s)) e c.copy_marked.ensures

pub put_type-returns-in-None : goal.put_type-returns-in-None
put_type-returns-in-None t c =
    let f = view_formal c.args.t.now c.in-Formal.index c.in-Formal.mark c.in-Formal.is in
    let none = ap (marked c.in-Formal.mark) c.in-None.ensures.none ∙ marked_none c.in-Formal.mark in
    view_nothing ∙ sym (ap (put_in (actuals_view c.args.actuals.now)) f ∙ none)

pub put_types-returns : goal.put_types-returns
put_types-returns t c =
    all_put (actuals_view c.args.actuals.now) c.args.ts.now c.types.puts.items c.types.t-index c.types-test.false
    c.types.invariant

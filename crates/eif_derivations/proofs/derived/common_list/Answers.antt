use Rattle.std.proofs.Common.{Some, ap, sym, ◌∙◌}
use Rattle.std.specs.Option.{option_map}
use Rattle.eif_derivations.specs.WayViews.{way_view, ways_view}
use Rattle.eif_type_forms.specs.View.{actuals_view}
use Rattle.eif_derivations.proofs.WayLaws.{differing_common, differing_faults, differing_from, differing_is, given_common}
use Rattle.eif_derivations.proofs.derived.common_list.Goals as goal

pub returns-in-Some-differing_place-clause-actuals : goal.returns-in-Some-differing_place-clause-actuals
returns-in-Some-differing_place-clause-actuals c = λ defined small.
    let gives = sym c.in_ok-list.ensures ∙ (ap (option_map (λ v. actuals_view v.items)) c.in-Some-2.is
    ∙ ap (λ ts. Some (actuals_view ts)) (sym c.deref.ensures.value)) in
    differing_common (ways_view c.args.ways.now) (way_view c.in-Some.first.now) (ways_view c.in-Some.others.now)
    (ap ways_view c.in-Some.ensures.cases.0) (actuals_view c.deref.result.now) gives c.in-Some-differing_place.place
    c.in-Some-differing_place.ensures

pub returns-in-Some-differing_place-clause-faults : goal.returns-in-Some-differing_place-clause-faults
returns-in-Some-differing_place-clause-faults c = λ k name defined small.
    let gives = sym c.in_ok-list.ensures ∙ (ap (option_map (λ v. actuals_view v.items)) c.in-Some-2.is
    ∙ ap (λ ts. Some (actuals_view ts)) (sym c.deref.ensures.value)) in
    let all = ways_view c.args.ways.now in
    let first = way_view c.in-Some.first.now in
    let others = ways_view c.in-Some.others.now in
    let whole = ap ways_view c.in-Some.ensures.cases.0 in
    let xs = actuals_view c.deref.result.now in
    differing_faults k name all (differing_from all first others whole xs gives) c.in-Some-differing_place.place defined
    small (differing_is all first others whole xs gives) c.in-Some-differing_place.ensures

pub returns-in-None-clause-actuals : goal.returns-in-None-clause-actuals
returns-in-None-clause-actuals c = λ defined small.
    let gives = sym c.in_ok-list.ensures ∙ (ap (option_map (λ v. actuals_view v.items)) c.in-Some-2.is
    ∙ ap (λ ts. Some (actuals_view ts)) (sym c.deref.ensures.value)) in
    ap (λ ts. Some (actuals_view ts)) (sym c.deref.ensures.value)
    ∙ given_common (ways_view c.args.ways.now) (way_view c.in-Some.first.now) (ways_view c.in-Some.others.now)
    (ap ways_view c.in-Some.ensures.cases.0) (actuals_view c.deref.result.now) gives small c.in-None.ensures

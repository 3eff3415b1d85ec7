use Rattle.std.proofs.Common.{length, map, ap, ap₂, ◌∙◌, arith}
use Rattle.std.proofs.lemmas.List.{length-map}
use Rattle.eif_choices.specs.Picked.{picked_feature}
use Rattle.eif_choices.proofs.Ancestors.{choice_is}
use Rattle.eif_choices.proofs.ancestor.ancestor_choices.Goals as goal

pub returns : goal.returns
returns c = λ u s is row_is other.
    let read = c.deref.ensures.value in
    let count = ap length row_is.names_are in
    let long = ap length c.in_ok-bound.ensures in
    let same = ap length read in
    let each = length-map c.deref.result.now (λ fs. picked_feature c.args.selected.now fs.items) in
    choice_is u c.args.heir.now c.args.k.0 s is other _
    (omega (arith, c.in_ok-candidates.ensures.count, c.len.ensures, c.args.row.now.names.ok.0, count))
    c.in_ok-candidates.ensures.each (ap (λ k. k.0) c.in_ok-row.ensures.class)
    (c.in_ok-row.ensures.bound
    ∙ (c.in_ok-bound.ensures ∙ ap₂ (λ flags xs. map (λ fs. picked_feature flags fs.items) xs) c.requires read))
    (λ i h. c.in_ok-row.ensures.reached i (omega arith))

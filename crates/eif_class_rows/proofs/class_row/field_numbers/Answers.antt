use Rattle.std.proofs.Common.{◌≡◌, ◌+◌, ◌≤◌, length, Some, Vec, Global, sym, ap, subst, ◌∙◌, arith}
use Rattle.std.proofs.lemmas.List.{take_all}
use Rattle.std.proofs.lemmas.Option.{slice_get-get_or}
use Rattle.std.specs.Prelude.{slice_get}
use Rattle.eif_base.specs.declared.feat_id.FeatId.{FeatId}
use Rattle.eif_class_rows.proofs.Fields.{AreFields, field_more, field_names, no_field_more}
use Rattle.eif_classes.specs.Entries.{Feature}
use Rattle.eif_rows.proofs.Matches.{length-Match}
use Rattle.eif_rows.specs.Versions.{IsVersion}
use Rattle.eif_rows.specs.declared.feature.FeatureRow.{FeatureRow}
use Rattle.eif_class_rows.proofs.class_row.field_numbers.Goals.{then-is_attribute+in_ok-push, else-is_attribute}
use Rattle.eif_class_rows.proofs.class_row.field_numbers.Goals as goal

pub features-preserved : goal.features-preserved
features-preserved c = λ u fs match.
    let rows = c.args.features.now in
    let i = c.features.i in
    let r = c.index-features-i.result in
    let ids = c.features.fields.items in
    let at : slice_get rows i ≡ Some r =
    slice_get-get_or rows i r c.features-test.true ∙ ap Some (sym c.index-features-i.is) in
    elim c.if-is_attribute.branch [
      | then-is_attribute+in_ok-push w ↦ subst (AreFields fs (i + 1))
          (sym (ap (λ (v : Vec FeatId Global). v.items) w.fields-is ∙ w.in_ok-push.ensures.items))
          (field_more u rows fs match i r at ids (c.features.invariant u fs match)
          (sym c.is_attribute.ensures ∙ w.if-is_attribute.true))
      | else-is_attribute w ↦ subst (AreFields fs (i + 1))
          (sym (ap (λ (v : Vec FeatId Global). v.items) w.fields-is))
          (no_field_more u rows fs match i r at ids (c.features.invariant u fs match)
          (sym c.is_attribute.ensures ∙ w.if-is_attribute.false))
    ]

pub returns : goal.returns
returns c = λ u fs match.
    let long =
    length-Match (λ (r : FeatureRow) (f : Feature). IsVersion u r.version f.origin) c.args.features.now fs match in
    let past : length fs ≤ c.features.i = omega arith in
    c.features.invariant u fs match ∙ ap field_names (take_all c.features.i fs past)

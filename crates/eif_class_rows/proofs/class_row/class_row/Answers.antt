use Rattle.std.proofs.Common.{sym, ap, subst, refl, length, arith}
use Rattle.std.proofs.lemmas.List.{length-map}
use Rattle.eif_class_rows.proofs.Kept.{row_judged}
use Rattle.eif_class_rows.specs.ClassRows.{feature_row}
use Rattle.eif_rows.specs.Matched.{Match}
use Rattle.eif_rows.specs.Versions.{IsVersion}
use Rattle.eif_class_rows.proofs.class_row.class_row.Goals as goal

pub field_numbers-requires : goal.field_numbers-requires
field_numbers-requires c =
    let lent = ap length c.deref.ensures.value in
    let kept = ap length c.in_ok-features.ensures in
    let count = length-map c.args.judged.drafts.items feature_row in
    omega (arith, c.requires.drafts)

pub returns : goal.returns
returns c = λ u d is none. row_judged u d c.args.judged is none _ (record {
  names_are = refl;
  features_are = c.in_ok-features.ensures;
  fields_are = λ u fs rows. c.in_ok-fields.ensures u fs
      (subst (λ xs. Match (λ x f. IsVersion u x.version f.origin) xs fs) (sym c.deref.ensures.value) rows);
  ancestors_are = refl;
})

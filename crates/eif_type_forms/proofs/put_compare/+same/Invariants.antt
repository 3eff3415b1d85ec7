use Rattle.std.proofs.Common.{◌≡◌, drop, length}
use Rattle.eif_classes.specs.Types.{same_actuals, put_in_all}
use Rattle.eif_type_forms.specs.View.{actuals_view}
use Rattle.eif_type_forms.proofs.put_compare.+same.Given as goal

abbrev pub invariant-same_puts-types : goal.invariant-same_puts-types
invariant-same_puts-types l = record {
  rest : same_actuals (put_in_all (actuals_view l.actuals) (actuals_view l.ts)) (actuals_view l.others)
      ≡ same_actuals (put_in_all (actuals_view l.actuals) (actuals_view (drop l.i l.ts)))
      (actuals_view (drop l.i l.others));
  long : length l.ts ≡ length l.others;
}

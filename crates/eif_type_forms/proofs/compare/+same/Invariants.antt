use Rattle.std.proofs.Common.{◌≡◌, drop, length}
use Rattle.eif_classes.specs.Types.{same_actuals}
use Rattle.eif_type_forms.specs.View.{actuals_view}
use Rattle.eif_type_forms.proofs.compare.+same.Given as goal

abbrev pub invariant-same_types-types : goal.invariant-same_types-types
invariant-same_types-types l = record {
  rest : same_actuals (actuals_view l.ones) (actuals_view l.twos)
      ≡ same_actuals (actuals_view (drop l.i l.ones)) (actuals_view (drop l.i l.twos));
  long : length l.ones ≡ length l.twos;
}

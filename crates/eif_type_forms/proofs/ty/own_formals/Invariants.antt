use Rattle.std.proofs.Common.{◌≡◌}
use Rattle.eif_classes.specs.Types.{formals_from}
use Rattle.eif_type_forms.specs.View.{actuals_view}
use Rattle.eif_type_forms.proofs.ty.own_formals.Given as goal

abbrev pub invariant-formals : goal.invariant-formals
invariant-formals l = actuals_view l.formals.items ≡ formals_from 0 l.index

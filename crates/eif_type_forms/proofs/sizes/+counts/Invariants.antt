use Rattle.std.proofs.Common.{◌≡◌, ◌≤◌, ◌+◌, suc, min, drop}
use Rattle.eif_base.specs.declared.limits.TheConstants.{MOST_TYPE_NAMES}
use Rattle.eif_classes.specs.Types.{name_count_in}
use Rattle.eif_type_forms.specs.View.{actuals_view}
use Rattle.eif_type_forms.proofs.sizes.+counts.Given as goal

abbrev pub invariant-count_all_names-types : goal.invariant-count_all_names-types
invariant-count_all_names-types l = record {
  rest : min (suc MOST_TYPE_NAMES) (l.total + name_count_in (actuals_view (drop l.t-index l.ts)))
      ≡ min (suc MOST_TYPE_NAMES) (name_count_in (actuals_view l.ts));
  capped : l.total ≤ suc MOST_TYPE_NAMES;
}

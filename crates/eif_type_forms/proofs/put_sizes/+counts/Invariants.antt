use Rattle.std.proofs.Common.{◌≡◌, ◌≤◌, ◌+◌, suc, min, drop}
use Rattle.eif_base.specs.declared.limits.TheConstants.{MOST_TYPE_NAMES}
use Rattle.eif_classes.specs.Types.{name_count_in, put_in_all}
use Rattle.eif_type_forms.specs.View.{actuals_view}
use Rattle.eif_type_forms.proofs.put_sizes.+counts.Given as goal

abbrev pub invariant-count_puts-types : goal.invariant-count_puts-types
invariant-count_puts-types l = record {
  rest : min (suc MOST_TYPE_NAMES)
      (l.total + name_count_in (put_in_all (actuals_view l.actuals) (actuals_view (drop l.t-index l.ts))))
      ≡ min (suc MOST_TYPE_NAMES) (name_count_in (put_in_all (actuals_view l.actuals) (actuals_view l.ts)));
  capped : l.total ≤ suc MOST_TYPE_NAMES;
}

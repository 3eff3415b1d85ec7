use Rattle.std.proofs.Common.{◌≡◌, ◌++◌, map, drop}
use Rattle.eif_classes.specs.Types.{put_in}
use Rattle.eif_type_forms.specs.View.{ty_view, actuals_view}
use Rattle.eif_type_forms.proofs.put.+put.Given as goal

abbrev pub invariant-put_types-types : goal.invariant-put_types-types
invariant-put_types-types l =
    map ty_view l.puts.items ++ map (put_in (actuals_view l.actuals)) (map ty_view (drop l.t-index l.ts))
    ≡ map (put_in (actuals_view l.actuals)) (map ty_view l.ts)

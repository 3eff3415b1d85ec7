use Rattle.std.proofs.Common.{◌≡◌, ◌++◌, map, drop}
use Rattle.eif_classes.specs.Types.{put_in}
use Rattle.eif_type_forms.specs.View.{actuals_view, ty_view}
use Rattle.eif_signatures.proofs.signature.put_each.Given as goal

abbrev pub invariant-types : goal.invariant-types
invariant-types l =
    map ty_view l.puts.items ++ map (put_in (actuals_view l.actuals)) (map ty_view (drop l.t-index l.types))
    ≡ map (put_in (actuals_view l.actuals)) (map ty_view l.types)

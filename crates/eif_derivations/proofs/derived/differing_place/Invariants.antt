use Rattle.std.proofs.Common.{◌≡◌, drop, Some}
use Rattle.std.specs.List.{find}
use Rattle.std.specs.Prelude.{not}
use Rattle.eif_classes.specs.Ancestry.{are_alike}
use Rattle.eif_derivations.specs.WayViews.{ways_view}
use Rattle.eif_type_forms.specs.View.{actuals_view}
use Rattle.eif_derivations.proofs.derived.differing_place.Given as goal

abbrev pub invariant-ways : goal.invariant-ways
invariant-ways l =
    find (λ w. not (are_alike (Some (actuals_view l.list)) w.actuals)) (ways_view l.ways)
    ≡ find (λ w. not (are_alike (Some (actuals_view l.list)) w.actuals)) (ways_view (drop l.way-index l.ways))

use Rattle.std.proofs.Common.{◌≡◌, drop}
use Rattle.std.specs.List.{find}
use Rattle.eif_derivations.specs.WayViews.{ways_view}
use Rattle.eif_feature_rules.specs.DerivationRules.{is_large}
use Rattle.eif_derivations.proofs.derived.large_place.Given as goal

abbrev pub invariant-ways : goal.invariant-ways
invariant-ways l = find is_large (ways_view l.ways) ≡ find is_large (ways_view (drop l.way-index l.ways))

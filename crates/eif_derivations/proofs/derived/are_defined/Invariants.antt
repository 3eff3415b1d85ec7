use Rattle.std.proofs.Common.{◌≡◌, drop}
use Rattle.eif_derivations.specs.WayViews.{ways_view}
use Rattle.eif_feature_rules.specs.DerivationRules.{are_defined}
use Rattle.eif_derivations.proofs.derived.are_defined.Given as goal

abbrev pub invariant-ways : goal.invariant-ways
invariant-ways l = are_defined (ways_view l.ways) ≡ are_defined (ways_view (drop l.way-index l.ways))

use Rattle.std.proofs.Common.{◌≡◌, ◌++◌, drop, map}
use Rattle.eif_tree.specs.View.{parent_view}
use Rattle.eif_adapt.specs.Adaptations.{adapted, entry_view, feature_view}
use Rattle.eif_adapt.proofs.clause.Clause.entries.Given as goal

abbrev pub invariant-features : goal.invariant-features
invariant-features l =
    let p = parent_view l.self.indexed.tree.now in
    map entry_view l.entries.items ++ map (adapted p) (map feature_view (drop l.feature-index l.self.features.now))
    ≡ map (adapted p) (map feature_view l.self.features.now)

use Rattle.std.proofs.Common.{◌≡◌, drop, map}
use Rattle.std.specs.List.{find}
use Rattle.eif_tree.specs.View.{export_view}
use Rattle.eif_adapt.specs.NamedItems.{names_all}
use Rattle.eif_adapt.proofs.indexed_clause.first_all.Given as goal

abbrev pub invariant-exports : goal.invariant-exports
invariant-exports l =
    find names_all (map export_view (drop l.item-index l.exports)) ≡ find names_all (map export_view l.exports)

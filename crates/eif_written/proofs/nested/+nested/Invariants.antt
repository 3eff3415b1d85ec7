use Rattle.std.proofs.Common.{◌≡◌, ◌++◌, map, drop}
use Rattle.eif_system.specs.WrittenTypes.{nested_in}
use Rattle.eif_tree.specs.View.{type_view, types_from}
use Rattle.eif_written.specs.LentTypes.{lent_type}
use Rattle.eif_written.proofs.nested.+nested.Given as goal

abbrev pub invariant-push_nested_in-types : goal.invariant-push_nested_in-types
invariant-push_nested_in-types l =
    map lent_type l.out.items ++ nested_in (types_from (map type_view (drop l.type_tree-index l.types)))
    ≡ map lent_type l.initial.out.items ++ nested_in (types_from (map type_view l.types))

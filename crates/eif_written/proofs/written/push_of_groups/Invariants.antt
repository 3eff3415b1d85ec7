use Rattle.std.proofs.Common.{◌≡◌, ◌++◌, map, drop}
use Rattle.eif_system.specs.WrittenTypes.{types_of_groups}
use Rattle.eif_tree.specs.View.{group_view}
use Rattle.eif_written.specs.LentTypes.{lent_type}
use Rattle.eif_written.proofs.written.push_of_groups.Given as goal

abbrev pub invariant-groups : goal.invariant-groups
invariant-groups l =
    map lent_type l.out.items ++ types_of_groups (map group_view (drop l.group-index l.groups))
    ≡ map lent_type l.initial.out.items ++ types_of_groups (map group_view l.groups)

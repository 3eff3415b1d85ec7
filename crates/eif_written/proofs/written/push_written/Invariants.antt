use Rattle.std.proofs.Common.{◌≡◌, ◌++◌, map, drop}
use Rattle.eif_system.specs.WrittenTypes.{written}
use Rattle.eif_written.specs.LentTypes.{lent_type, owner_name, written_view}
use Rattle.eif_written.proofs.written.push_written.Given as goal

abbrev pub invariant-types : goal.invariant-types
invariant-types l =
    map written_view l.out.items ++ map (written (owner_name l.owner)) (map lent_type (drop l.type_tree-index l.types))
    ≡ map written_view l.initial.out.items ++ map (written (owner_name l.owner)) (map lent_type l.types)

use Rattle.std.proofs.Common.{◌≡◌, ◌++◌, map, drop}
use Rattle.std.specs.Prelude.{flat_map}
use Rattle.eif_system.specs.WrittenTypes.{written_in}
use Rattle.eif_tree.specs.View.{decl_view}
use Rattle.eif_written.specs.LentTypes.{written_view}
use Rattle.eif_written.proofs.written.push_written_in_all.Given as goal

abbrev pub invariant-decls : goal.invariant-decls
invariant-decls l =
    map written_view l.out.items ++ flat_map written_in (map decl_view (drop l.decl-index l.decls))
    ≡ map written_view l.initial.out.items ++ flat_map written_in (map decl_view l.decls)

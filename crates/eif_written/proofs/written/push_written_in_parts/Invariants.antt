use Rattle.std.proofs.Common.{◌≡◌, ◌++◌, map, drop}
use Rattle.std.specs.Prelude.{flat_map}
use Rattle.eif_system.specs.WrittenTypes.{written_in}
use Rattle.eif_tree.specs.View.{features_view}
use Rattle.eif_written.specs.LentTypes.{written_view}
use Rattle.eif_written.proofs.written.push_written_in_parts.Given as goal

abbrev pub invariant-parts : goal.invariant-parts
invariant-parts l =
    map written_view l.out.items
    ++ flat_map written_in (flat_map (λ part. part.decls) (map features_view (drop l.part-index l.parts)))
    ≡ map written_view l.initial.out.items
    ++ flat_map written_in (flat_map (λ part. part.decls) (map features_view l.parts))

use Rattle.std.proofs.Common.{◌≡◌, ◌++◌, map, drop}
use Rattle.std.specs.Prelude.{flat_map}
use Rattle.eif_system.specs.WrittenTypes.{present}
use Rattle.eif_tree.specs.View.{formal_view}
use Rattle.eif_written.specs.LentTypes.{lent_type}
use Rattle.eif_written.proofs.written.push_of_constraints.Given as goal

abbrev pub invariant-formals : goal.invariant-formals
invariant-formals l =
    map lent_type l.out.items ++ flat_map (λ f. present f.constraint) (map formal_view (drop l.formal-index l.formals))
    ≡ map lent_type l.initial.out.items ++ flat_map (λ f. present f.constraint) (map formal_view l.formals)

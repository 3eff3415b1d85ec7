use Rattle.std.proofs.Common.{◌≡◌, ◌++◌, map, drop}
use Rattle.eif_tree.specs.View.{parent_view}
use Rattle.eif_written.specs.LentTypes.{lent_type}
use Rattle.eif_written.proofs.written.push_of_parents.Given as goal

abbrev pub invariant-parents : goal.invariant-parents
invariant-parents l =
    map lent_type l.out.items ++ map (λ p. p.parent) (map parent_view (drop l.clause-index l.parents))
    ≡ map lent_type l.initial.out.items ++ map (λ p. p.parent) (map parent_view l.parents)

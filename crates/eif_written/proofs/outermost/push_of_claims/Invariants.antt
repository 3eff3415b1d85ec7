use Rattle.std.proofs.Common.{◌≡◌, ◌++◌, map, drop}
use Rattle.eif_system.specs.WrittenTypes.{types_of_expressions}
use Rattle.eif_tree.specs.View.{assertion_view, exs_from}
use Rattle.eif_written.specs.LentTypes.{lent_type}
use Rattle.eif_written.proofs.outermost.push_of_claims.Given as goal

abbrev pub invariant-claims : goal.invariant-claims
invariant-claims l =
    map lent_type l.out.items ++ types_of_expressions (exs_from (map assertion_view (drop l.claim-index l.claims)))
    ≡ map lent_type l.initial.out.items ++ types_of_expressions (exs_from (map assertion_view l.claims))

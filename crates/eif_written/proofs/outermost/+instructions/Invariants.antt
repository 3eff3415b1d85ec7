use Rattle.std.proofs.Common.{◌≡◌, ◌++◌, map, drop}
use Rattle.eif_system.specs.WrittenTypes.{types_of_compound, types_of_branches}
use Rattle.eif_tree.specs.View.{instr_view, inss_from, branch_view, branches_from}
use Rattle.eif_written.specs.LentTypes.{lent_type}
use Rattle.eif_written.proofs.outermost.+instructions.Given as goal

abbrev pub invariant-push_of_compound-compound : goal.invariant-push_of_compound-compound
invariant-push_of_compound-compound l =
    map lent_type l.out.items ++ types_of_compound (inss_from (map instr_view (drop l.instr-index l.compound)))
    ≡ map lent_type l.initial.out.items ++ types_of_compound (inss_from (map instr_view l.compound))

abbrev pub invariant-push_of_branches-branches : goal.invariant-push_of_branches-branches
invariant-push_of_branches-branches l =
    map lent_type l.out.items ++ types_of_branches (branches_from (map branch_view (drop l.branch-index l.branches)))
    ≡ map lent_type l.initial.out.items ++ types_of_branches (branches_from (map branch_view l.branches))

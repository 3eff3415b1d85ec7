use Rattle.std.proofs.Common.{◌≡◌, ◌++◌, map, drop}
use Rattle.eif_feature_rules.specs.NamesUsed.{names_in_compound, names_in_branches}
use Rattle.eif_tree.specs.View.{instr_view, inss_from, branch_view, branches_from}
use Rattle.eif_used_names.specs.LentNames.{lent_name}
use Rattle.eif_used_names.proofs.used.+instructions.Given as goal

abbrev pub invariant-push_of_compound-compound : goal.invariant-push_of_compound-compound
invariant-push_of_compound-compound l =
    map lent_name l.out.items ++ names_in_compound (inss_from (map instr_view (drop l.instr-index l.compound)))
    ≡ map lent_name l.initial.out.items ++ names_in_compound (inss_from (map instr_view l.compound))

abbrev pub invariant-push_of_branches-branches : goal.invariant-push_of_branches-branches
invariant-push_of_branches-branches l =
    map lent_name l.out.items ++ names_in_branches (branches_from (map branch_view (drop l.branch-index l.branches)))
    ≡ map lent_name l.initial.out.items ++ names_in_branches (branches_from (map branch_view l.branches))

use Rattle.std.proofs.Common.{◌≡◌, map, max, drop}
use Rattle.eif_tree.specs.View.{instr_view, inss_from, branch_view, branches_from}
use Rattle.eif_tree.specs.Height as tall
use Rattle.eif_tree.proofs.heights.+instrs.Given as goal

abbrev pub invariant-compound_height-loop-instr : goal.invariant-compound_height-loop-instr
invariant-compound_height-loop-instr l =
    max l.most (tall.compound_height (inss_from (map instr_view (drop l.instr-index l.compound)))) ≡ tall.compound_height (inss_from (map instr_view l.compound))

abbrev pub invariant-branches_height-loop-branch : goal.invariant-branches_height-loop-branch
invariant-branches_height-loop-branch l =
    max l.most (tall.branches_height (branches_from (map branch_view (drop l.branch-index l.branches)))) ≡ tall.branches_height (branches_from (map branch_view l.branches))

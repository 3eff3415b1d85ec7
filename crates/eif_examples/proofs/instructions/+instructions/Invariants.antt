use Rattle.std.proofs.Common.{◌≡◌, drop, map}
use Rattle.eif_tree.specs.View.{branch_view, branches_from, instr_view, inss_from}
use Rattle.eif_examples.specs.Digest.{after, reads_of}
use Rattle.eif_examples.specs.Numbers.{branches_numbers, inss_numbers}
use Rattle.eif_examples.proofs.instructions.+instructions.Given as goal

abbrev pub invariant-compound-instrs : goal.invariant-compound-instrs
invariant-compound-instrs l =
    after l.so_far (inss_numbers (reads_of l.places) (inss_from (map instr_view (drop l.instr-index l.instrs))))
    ≡ after l.initial.so_far (inss_numbers (reads_of l.places) (inss_from (map instr_view l.instrs)))

abbrev pub invariant-branches-tested : goal.invariant-branches-tested
invariant-branches-tested l =
    after l.so_far (branches_numbers (reads_of l.places) (branches_from (map branch_view (drop l.branch-index l.tested))))
    ≡ after l.initial.so_far (branches_numbers (reads_of l.places) (branches_from (map branch_view l.tested)))

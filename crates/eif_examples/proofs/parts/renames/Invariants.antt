use Rattle.std.proofs.Common.{◌≡◌, drop}
use Rattle.eif_examples.specs.Digest.{after, reads_of}
use Rattle.eif_examples.specs.Numbers.{list_numbers, rename_numbers}
use Rattle.eif_examples.proofs.parts.renames.Given as goal

abbrev pub invariant-pairs : goal.invariant-pairs
invariant-pairs l =
    after l.so_far (list_numbers (rename_numbers (reads_of l.places)) (drop l.pair-index l.pairs))
    ≡ after l.initial.so_far (list_numbers (rename_numbers (reads_of l.places)) l.pairs)

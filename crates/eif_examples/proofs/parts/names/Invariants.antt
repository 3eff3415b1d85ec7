use Rattle.std.proofs.Common.{◌≡◌, drop}
use Rattle.eif_examples.specs.Digest.{after, reads_of}
use Rattle.eif_examples.specs.Numbers.{names_numbers}
use Rattle.eif_examples.proofs.parts.names.Given as goal

abbrev pub invariant-names : goal.invariant-names
invariant-names l =
    after l.so_far (names_numbers (reads_of l.places) (drop l.one-index l.names))
    ≡ after l.initial.so_far (names_numbers (reads_of l.places) l.names)

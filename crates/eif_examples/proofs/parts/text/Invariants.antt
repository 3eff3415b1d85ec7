use Rattle.std.proofs.Common.{◌≡◌, drop}
use Rattle.eif_examples.specs.Digest.{after}
use Rattle.eif_examples.proofs.parts.text.Given as goal

abbrev pub invariant-text : goal.invariant-text
invariant-text l =
    after l.so_far (drop l.byte-index l.text)
    ≡ after l.initial.so_far (l.text)

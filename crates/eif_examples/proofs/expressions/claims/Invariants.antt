use Rattle.std.proofs.Common.{◌≡◌, drop, map}
use Rattle.eif_tree.specs.View.{assertion_view, exs_from}
use Rattle.eif_examples.specs.Digest.{after, reads_of}
use Rattle.eif_examples.specs.Numbers.{exs_numbers}
use Rattle.eif_examples.proofs.expressions.claims.Given as goal

abbrev pub invariant-claims : goal.invariant-claims
invariant-claims l =
    after l.so_far (exs_numbers (reads_of l.places) (exs_from (map assertion_view (drop l.claim-index l.claims))))
    ≡ after l.initial.so_far (exs_numbers (reads_of l.places) (exs_from (map assertion_view l.claims)))

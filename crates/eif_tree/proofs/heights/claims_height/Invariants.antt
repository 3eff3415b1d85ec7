use Rattle.std.proofs.Common.{◌≡◌, map, max, drop}
use Rattle.eif_tree.specs.View.{assertion_view, exs_from}
use Rattle.eif_tree.specs.Height as tall
use Rattle.eif_tree.proofs.heights.claims_height.Given as goal

-- the heights so far and those to come are those of all
abbrev pub invariant-loop-claim : goal.invariant-loop-claim
invariant-loop-claim l =
    max l.most (tall.heights (exs_from (map assertion_view (drop l.claim-index l.claims)))) ≡ tall.heights (exs_from (map assertion_view l.claims))

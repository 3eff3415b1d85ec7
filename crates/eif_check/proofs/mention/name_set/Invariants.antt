use Rattle.std.proofs.Common.{◌≡◌, ℕ, List, map, drop}
use Rattle.std.specs.Prelude.{◌||◌}
use Rattle.eif_base.specs.Numbering.{is_among}
use Rattle.eif_tree.specs.Members.{has_name}
use Rattle.eif_check.specs.Mentions.{name_at}
use Rattle.eif_check.proofs.mention.name_set.Given as goal

abbrev pub invariant-names : goal.invariant-names
invariant-names l =
    (n : List ℕ) → (is_among l.set n || has_name (map name_at (drop l.mention-index l.names)) n)
    ≡ has_name (map name_at l.names) n

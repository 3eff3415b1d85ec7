use Rattle.std.proofs.Common.{◌≡◌, ℕ, List, map, drop}
use Rattle.std.specs.Prelude.{◌||◌}
use Rattle.eif_base.specs.Numbering.{is_among}
use Rattle.eif_feature_faults.proofs.selection.add_all.Given as goal

abbrev pub invariant-names : goal.invariant-names
invariant-names l = (n : List ℕ)
    → (is_among (map (λ n. n.now) (drop l.name-index l.names)) n || is_among l.set n)
    ≡ (is_among (map (λ n. n.now) l.names) n || is_among l.initial.set n)

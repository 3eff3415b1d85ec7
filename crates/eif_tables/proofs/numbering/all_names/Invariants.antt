use Rattle.std.proofs.Common.{◌≡◌, ℕ, List, drop, map, flat_map}
use Rattle.std.specs.Prelude.{◌||◌}
use Rattle.eif_base.specs.Numbering.{is_among}
use Rattle.eif_tables.proofs.numbering.all_names.Given as goal

abbrev pub invariant-rows : goal.invariant-rows
invariant-rows l =
    record {
      same : l.seen ≡ map (λ n. n.now) l.names.items;
      names : (n : List ℕ) → (is_among (flat_map (λ r. r.names.items) (drop l.row-index l.rows)) n || is_among l.seen n)
          ≡ is_among (flat_map (λ r. r.names.items) l.rows) n;
    }

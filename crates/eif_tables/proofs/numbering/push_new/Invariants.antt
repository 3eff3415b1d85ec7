use Rattle.std.proofs.Common.{◌≡◌, ℕ, List, drop, map}
use Rattle.std.specs.Prelude.{◌||◌}
use Rattle.eif_base.specs.Numbering.{is_among}
use Rattle.eif_tables.proofs.numbering.push_new.Given as goal

abbrev pub invariant-names : goal.invariant-names
invariant-names l =
    record {
      same : l.seen ≡ map (λ n. n.now) l.out.items;
      names : (n : List ℕ) → (is_among (drop l.name-index l.names) n || is_among l.seen n)
          ≡ (is_among l.names n || is_among l.initial.seen n);
    }

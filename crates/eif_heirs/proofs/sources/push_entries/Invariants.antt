use Rattle.std.proofs.Common.{◌≡◌, ℕ, ◌++◌, drop}
use Rattle.eif_heirs.specs.Numbered.{collected, declared_under, ids_under}
use Rattle.eif_heirs.proofs.sources.push_entries.Given as goal

abbrev pub invariant-clauses : goal.invariant-clauses
invariant-clauses l =
    record {
      declared : declared_under l.sources ≡ declared_under l.initial.sources;
      entries : (k : ℕ) → collected l.sources k ++ ids_under k l.i (drop l.i l.finals)
          ≡ collected l.initial.sources k ++ ids_under k 0 l.finals;
    }

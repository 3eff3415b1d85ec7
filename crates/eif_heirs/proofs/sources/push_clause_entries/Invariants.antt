use Rattle.std.proofs.Common.{◌≡◌, ℕ, ◌++◌, drop}
use Rattle.eif_heirs.specs.Numbered.{collected, declared_under, ids_from}
use Rattle.eif_heirs.proofs.sources.push_clause_entries.Given as goal

abbrev pub invariant-entries : goal.invariant-entries
invariant-entries l =
    record {
      declared : declared_under l.sources ≡ declared_under l.initial.sources;
      entries : (k : ℕ) → collected l.sources k ++ ids_from k l.clause l.i (drop l.i l.names)
          ≡ collected l.initial.sources k ++ ids_from k l.clause 0 l.names;
    }

use Rattle.std.proofs.Common.{◌≡◌, ℕ, [], take}
use Rattle.eif_heirs.specs.Numbered.{collected, declared_under}
use Rattle.eif_heirs.proofs.sources.sources_without_entries.Given as goal

abbrev pub invariant-names : goal.invariant-names
invariant-names l =
    record {
      declared : declared_under l.sources.items ≡ take l.place-index l.places;
      none : (k : ℕ) → collected l.sources.items k ≡ [];
    }

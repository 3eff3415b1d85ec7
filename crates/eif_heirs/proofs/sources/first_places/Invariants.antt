use Rattle.std.proofs.Common.{◌≡◌, ℕ, ◌<◌, Some, length, take}
use Rattle.std.specs.Prelude.{◌==◌, slice_get}
use Rattle.std.specs.List.{position_from}
use Rattle.eif_heirs.proofs.sources.first_places.Given as goal

abbrev pub invariant-names : goal.invariant-names
invariant-names l =
    record {
      count : length l.places.items ≡ l.count;
      places : (k : ℕ) → k < l.count
          → slice_get l.places.items k ≡ Some (position_from (λ f. f.0 == k) 0 (take l.i l.names));
    }

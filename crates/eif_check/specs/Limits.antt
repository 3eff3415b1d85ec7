-- Texts within their limit.
use Rattle.std.specs.Prelude.{ℕ, ◌≤◌, List, length}
use Rattle.std.specs.List.{All}
use Rattle.eif_base.specs.declared.limits.TheConstants.{MOST_BYTES}

abbrev pub AreShort : List (List ℕ) → Type 0
AreShort texts = All (λ text. length text ≤ MOST_BYTES) texts

-- The writes of a sink.
use Rattle.std.specs.Prelude.{◌≡◌, ℕ, ◌≤◌, List, ◌++◌, take, length, Option}
use Rattle.std.specs.Option.{option_map}
use Rattle.std.specs.Io.KnownBytes.{Appends}

-- the bytes were appended to what was written, where that is told
abbrev pub Writes : Option (List ℕ) → Option (List ℕ) → List ℕ → Type 0
Writes old new bytes = new ≡ option_map (λ written. written ++ bytes) old

-- a part of the bytes from their front on was appended
abbrev pub WritesFront : Option (List ℕ) → Option (List ℕ) → List ℕ → Type 0
WritesFront old new bytes = (n : ℕ) × (n ≤ length bytes) × Writes old new (take n bytes)

-- a writer took a part of the bytes from their front on
abbrev pub AppendsFront : Option (List ℕ) → Option (List ℕ) → List ℕ → Type 0
AppendsFront old new bytes = (n : ℕ) × (n ≤ length bytes) × Appends old new (take n bytes)

-- Lines and columns, by the bytes before an offset.
use Rattle.std.specs.Prelude.{ℕ, ◌+◌, ◌==◌, if◌then◌else◌, List, take, fold}
use Rattle.eif_base.specs.declared.Place.{Place}

-- the line and the column behind one more byte
abbrev pub step : ℕ × ℕ → ℕ → ℕ × ℕ
step p b = if b == 10 then (p.0 + 1, 1) else (p.0, p.1 + 1)

-- the line and the column behind these bytes
abbrev pub behind : List ℕ → ℕ × ℕ
behind bytes = fold step (1, 1) bytes

-- the place of an offset of a text
abbrev pub place_at : ℕ → List ℕ → ℕ → Place
place_at file text at = let p = behind (take at text) in record { file = file; offset = at; line = p.0; column = p.1 }

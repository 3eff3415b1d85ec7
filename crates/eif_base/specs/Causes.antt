-- When a count of faults says that a fault came.
use Rattle.std.specs.Prelude.{◌≡◌, ℕ, ◌+◌, ◌<◌, min, ◌⊎◌}

-- the last value of a count, at which it stands still
abbrev pub last_count : ℕ
last_count = 18446744073709551615

-- one fault more, up to the last value
abbrev pub next_count : ℕ → ℕ
next_count count = min (count + 1) last_count

-- a count of faults rose, or stands at its last value
abbrev pub HasRisen : ℕ → ℕ → Type 0
HasRisen old new = (old < new) ⊎ (new ≡ last_count)

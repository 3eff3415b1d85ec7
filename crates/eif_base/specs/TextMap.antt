-- What a map of texts holds.
use Rattle.std.specs.Prelude.{ℕ, List, Option, String, Vec}
use Rattle.std.specs.Option.{option_map}
use Rattle.std.specs.BTreeMap.{BTreeMap, get_by_text}

-- the bytes of the name
abbrev pub held : {Y Z : Type 0} → BTreeMap (String Y) (Vec ℕ Z) → List ℕ → Option (List ℕ)
held texts name = option_map (λ text. text.items) (get_by_text texts name)

-- Classes and features by their numbers.
use Rattle.std.specs.Prelude.{ℕ, List, map, Option, slice_get}
use Rattle.eif_base.specs.declared.class_id.ClassId.{ClassId}
use Rattle.eif_base.specs.declared.feat_id.FeatId.{FeatId}

-- the numbers of classes
abbrev pub class_numbers : List ClassId → List ℕ
class_numbers ids = map (λ c. c.0) ids

-- the numbers of features
abbrev pub feature_numbers : List FeatId → List ℕ
feature_numbers ids = map (λ f. f.0) ids

-- the name with that number
abbrev pub name_of : List (List ℕ) → FeatId → Option (List ℕ)
name_of names f = slice_get names f.0

-- the names with these numbers
abbrev pub names_of : List (List ℕ) → List FeatId → List (Option (List ℕ))
names_of names ids = map (name_of names) ids

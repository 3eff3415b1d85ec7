-- Candidates by the numbers of their names.
use Rattle.std.specs.Prelude.{◌≡◌, ℕ, ◌==◌, Bool, true, List, [], ◌∷◌, map, Some}
use Rattle.std.specs.List.{list_all}
use Rattle.eif_base.specs.declared.feat_id.FeatId.{FeatId}
use Rattle.eif_rows.specs.Numbers.{names_of}

-- the features have these names
abbrev pub AreNamed : List (List ℕ) → List FeatId → List (List ℕ) → Type 0
AreNamed names fs ns = names_of names fs ≡ map Some ns

-- all of them are one
abbrev pub are_one : List FeatId → Bool
are_one [] = true
are_one (f ∷ fs) = list_all (λ g. f.0 == g.0) fs

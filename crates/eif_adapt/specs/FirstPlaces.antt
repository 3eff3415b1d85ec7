-- Where names stand first.
use Rattle.std.specs.Prelude.{◌≡◌, ℕ, suc, Bool, if◌then◌else◌, List, [], ◌∷◌, Option, Some, None}
use Rattle.std.specs.Option.{option_map}
use Rattle.std.specs.Str.{bytes_eq}
use Rattle.indexmap.specs.IndexMap.{get_by}
use Rattle.eif_adapt.specs.declared.first_places.FirstPlaces.{FirstPlaces}

-- the place that is kept for a name
abbrev pub place_of : FirstPlaces → List ℕ → Option ℕ
place_of m n = get_by (λ k. bytes_eq n k.items) m.places

-- the place, and where there is none, this one on that condition
abbrev pub or_place : Option ℕ → Bool → ℕ → Option ℕ
or_place (Some i) b place = Some i
or_place None b place = if b then Some place else None

-- the place of the first item that passes
abbrev pub first_place : {A : Type 0} → (A → Bool) → List A → Option ℕ
first_place passes [] = None
first_place passes (x ∷ xs) = if passes x then Some 0 else option_map suc (first_place passes xs)

-- of each name that of the first item that is of this name
abbrev pub AreFirstPlaces : {A : Type 0} → (List ℕ → A → Bool) → List A → FirstPlaces → Type 0
AreFirstPlaces is_of xs m = (n : List ℕ) → place_of m n ≡ first_place (is_of n) xs

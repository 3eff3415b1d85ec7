-- Lists of actuals by their numbers.
use Rattle.std.specs.Prelude.{◌≡◌, ℕ, List, map, Option, Some, None, slice_get}
use Rattle.eif_classes.specs.Types.{Actuals}
use Rattle.eif_derivations.specs.declared.lists.ActualLists.{ActualLists}
use Rattle.eif_derivations.specs.declared.lists.ListId.{ListId}
use Rattle.eif_type_forms.specs.View.{actuals_view}

-- as plain data
abbrev pub lists_of : ActualLists → List Actuals
lists_of x = map (λ list. actuals_view list.items) x.lists.items

-- each list keeps its number
abbrev pub Keeps : List Actuals → List Actuals → Type 0
Keeps old new = (i : ℕ) (xs : Actuals) → slice_get old i ≡ Some xs → slice_get new i ≡ Some xs

-- the number is that of the list, or there is neither
abbrev pub Holds : List Actuals → Option ListId → Option Actuals → Type 0
Holds lists None None = Unit {0}
Holds lists (Some id) (Some xs) = slice_get lists id.0 ≡ Some xs
Holds lists None (Some xs) = ⊥
Holds lists (Some id) None = ⊥

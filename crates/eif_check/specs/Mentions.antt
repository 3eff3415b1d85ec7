-- Names where they stand, as the code lends them.
use Rattle.std.specs.Prelude.{◌≡◌, ℕ, List}
use Rattle.eif_base.specs.Numbering.{is_among}
use Rattle.eif_tree.specs.declared.NameAt.{NameAt}
use Rattle.eif_tree.specs.Members.{has_name}
use Rattle.eif_check.specs.declared.mention.Mention.{Mention}

abbrev pub name_at : Mention → NameAt
name_at m = record { place = m.place; name = m.name.now }

-- the set has exactly the names of the list
abbrev pub IsNameSet : List (List ℕ) → List NameAt → Type 0
IsNameSet set names = (n : List ℕ) → is_among set n ≡ has_name names n

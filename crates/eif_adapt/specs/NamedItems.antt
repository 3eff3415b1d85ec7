-- What the items of a clause name.
use Rattle.std.specs.Prelude.{◌≡◌, ℕ, Bool, List, is_some}
use Rattle.std.specs.Str.{bytes_eq}
use Rattle.eif_base.specs.Numbering.{is_among}
use Rattle.eif_tree.specs.declared.tree.NameAt.{NameAt}
use Rattle.eif_tree.specs.declared.tree.RenamePair.{RenamePair}
use Rattle.eif_tree.specs.Members.{has_name}
use Rattle.eif_tree.specs.Tree.{ExportT}

-- the renaming is one of that name
abbrev pub has_old_name : List ℕ → RenamePair → Bool
has_old_name n r = bytes_eq r.old_name.name n

-- the export item lists the name
abbrev pub names_item : List ℕ → ExportT → Bool
names_item n x = has_name x.names n

-- the export item has `all`
abbrev pub names_all : ExportT → Bool
names_all x = is_some x.all

-- the set has exactly the names of the list
abbrev pub IsNameSet : List (List ℕ) → List NameAt → Type 0
IsNameSet set names = (n : List ℕ) → is_among set n ≡ has_name names n

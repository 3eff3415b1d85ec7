-- Names and sets of names, and what a parent clause says of a name.
use Rattle.std.specs.Prelude.{ℕ, Bool, false, not, if◌then◌else◌, List, [], ◌∷◌, Option, Some, None}
use Rattle.std.specs.declared.cmp.Ordering.{Ordering}
use Rattle.std.specs.Cmp.Lexicographic.{slice_cmp}
use Rattle.std.specs.List.{list_all}
use Rattle.std.specs.Ordering.{nat_cmp}
use Rattle.std.specs.Str.{bytes_eq}
use Rattle.eif_tree.specs.declared.tree.RenamePair.{RenamePair}
use Rattle.eif_tree.specs.Members.{has_name}
use Rattle.eif_tree.specs.Tree.{ParentT}
use Rattle.eif_classes.specs.RisingLists.{in_order}

-- names go in the order of their bytes
abbrev pub name_cmp : List ℕ → List ℕ → Ordering
name_cmp = slice_cmp nat_cmp

-- the set of these names: in order, each once
abbrev pub name_set : List (List ℕ) → List (List ℕ)
name_set ns = in_order name_cmp ns

-- two of them differ
abbrev pub are_several : List (List ℕ) → Bool
are_several [] = false
are_several (n ∷ ns) = not (list_all (bytes_eq n) ns)

-- the one name that all of them are
abbrev pub agreed : List (List ℕ) → Option (List ℕ)
agreed [] = None
agreed (n ∷ ns) = if list_all (bytes_eq n) ns then Some n else None

-- ---- a parent clause

-- the new name by the first renaming of the name, else the name
abbrev pub renamed : List RenamePair → List ℕ → List ℕ
renamed [] n = n
renamed (r ∷ rs) n = if bytes_eq r.old_name.name n then r.new_name.name else renamed rs n

-- the name that a feature of the parent has in the heir
abbrev pub final_name : ParentT → List ℕ → List ℕ
final_name p n = renamed p.renames n

-- the clause lists a final name as undefined, also where that is a breach
abbrev pub is_undefined : ParentT → List ℕ → Bool
is_undefined p n = has_name p.undefines n

-- the clause lists a final name as redefined, also where that is a breach
abbrev pub is_redefined : ParentT → List ℕ → Bool
is_redefined p n = has_name p.redefines n

-- the clause lists a final name as selected, also where that is a breach
abbrev pub is_selected : ParentT → List ℕ → Bool
is_selected p n = has_name p.selects n

-- Parent clauses, and the graph that they make of a universe.
use Rattle.std.specs.Prelude.{ℕ, if◌then◌else◌, List, [], ◌∷◌, map, Option}
use Rattle.std.specs.List.{filter_map}
use Rattle.std.specs.Str.{bytes_eq}
use Rattle.eif_tree.specs.Tree.{ParentT, ClassT}
use Rattle.eif_system.specs.Kernel.{any_name}
use Rattle.eif_system.specs.TreeForms.{nowhere, unmarked, parent_clause}
use Rattle.eif_system.specs.Universe.{class_denoted}
use Rattle.eif_system.specs.WrittenTypes.{type_name}

abbrev pub any_clause : ParentT
any_clause = parent_clause (unmarked nowhere any_name)

abbrev clauses_by : List ℕ → List ParentT → List ParentT
clauses_by n [] = if bytes_eq n any_name then [] else any_clause ∷ []
clauses_by n (p ∷ ps) = p ∷ ps

-- the parent clauses as written, or the one clause ANY where none is written and the class isn't ANY
abbrev pub clauses : ClassT → List ParentT
clauses c = clauses_by c.name c.parents

-- the class of a parent clause of c
abbrev pub parent_number : List ClassT → ClassT → ParentT → Option ℕ
parent_number u c p = class_denoted u c (type_name p.parent)

-- the classes of its parent clauses, in their order, as often as clauses name them
abbrev pub parent_numbers : List ClassT → ClassT → List ℕ
parent_numbers u c = filter_map (parent_number u c) (clauses c)

abbrev pub graph_of : List ClassT → List (List ℕ)
graph_of u = map (parent_numbers u) u

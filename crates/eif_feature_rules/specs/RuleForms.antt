-- How rules are judged: item by item of a list, clause by clause, and the first of several.
use Rattle.std.specs.Prelude.{List, [], ◌++◌, map, flat_map, take}
use Rattle.std.specs.List.{enumerate_from}
use Rattle.eif_base.specs.declared.fault.Fault.{Fault}
use Rattle.eif_tree.specs.declared.tree.NameAt.{NameAt}
use Rattle.eif_tree.specs.Members.{declarations}
use Rattle.eif_tree.specs.Tree.{ParentT, DeclT, ClassT}
use Rattle.eif_system.specs.Lineage.{Line, Ups, up, top}

-- of several rules in their order, the first that is broken counts
abbrev pub first_broken : List Fault → List Fault
first_broken faults = take 1 faults

-- each item of a list, behind those that stand before it
abbrev pub with_earlier : {A : Type 0} → List A → List (List A × A)
with_earlier xs = map (λ x. (take x.0 xs, x.1)) (enumerate_from 0 xs)

-- what is judged of each parent clause and of the line of its class
abbrev pub each_clause : (ParentT → Line → List Fault) → Ups → List Fault
each_clause judge top = []
each_clause judge (up p l rest) = judge p l ++ each_clause judge rest

-- a name that a class declares, with its declaration
pub record DeclaredName : Type 0 where
  pub name : NameAt
  pub tree : DeclT

-- the names of one declaration
abbrev pub names_of_declaration : DeclT → List DeclaredName
names_of_declaration x = map (λ n. record { name = n; tree = x }) x.names

-- in the order of the text
abbrev pub declared_here : ClassT → List DeclaredName
declared_here c = flat_map names_of_declaration (declarations c)

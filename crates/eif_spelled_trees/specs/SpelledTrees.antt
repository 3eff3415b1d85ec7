-- What the trees of class texts have by the grammar alone: no name is `Result`, routines have one name, and fields have
-- types and no arguments.
use Rattle.std.specs.Prelude.{◌≡◌, ℕ, true, false, List, [], length, is_some, slice_get}
use Rattle.std.specs.Option.{ForSome}
use Rattle.std.specs.Str.{bytes_eq}
use Rattle.eif_tree.specs.declared.tree.NameAt.{NameAt}
use Rattle.eif_tree.specs.Members.{declarations, result_name}
use Rattle.eif_tree.specs.Tree.{KindT, attribute, constant, deferred_body, routine, GroupT, ParentT, DeclT, ClassT}
use Rattle.eif_spelled_trees.specs.WrittenTexts.{CompoundIsWritten}

-- P of each item
abbrev pub Each : {A : Type 0} → (A → Type 0) → List A → Type 0
Each P xs = (i : ℕ) → ForSome (slice_get xs i) P

abbrev pub IsName : NameAt → Type 0
IsName n = bytes_eq n.name result_name ≡ false

-- groups of arguments or locals
abbrev pub AreGroups : List GroupT → Type 0
AreGroups gs = Each (λ g. Each IsName g.names) gs

-- what is no routine has a type and no argument
abbrev pub IsTyped : DeclT → Type 0
IsTyped x = (x.arguments ≡ []) × (is_some x.result_type ≡ true)

-- a routine has one name
abbrev pub IsAlone : DeclT → Type 0
IsAlone x = length x.names ≡ 1

-- by the kind of the declaration
abbrev pub HasForm : DeclT → KindT → Type 0
HasForm x attribute = IsTyped x
HasForm x (constant v) = IsTyped x
HasForm x deferred_body = IsAlone x
HasForm x (routine locals body) = IsAlone x × AreGroups locals × CompoundIsWritten (λ t. Unit {0}) body

pub record IsSpelledDeclaration (x : DeclT) : Type 0 where
  pub names : Each IsName x.names
  pub arguments : AreGroups x.arguments
  pub form : HasForm x x.kind

pub record IsSpelledClass (c : ClassT) : Type 0 where
  pub declared : Each IsSpelledDeclaration (declarations c)
  pub renamed : Each (λ (p : ParentT). Each (λ r. IsName r.new_name) p.renames) c.parents

abbrev pub AreSpelled : List ClassT → Type 0
AreSpelled cs = Each IsSpelledClass cs

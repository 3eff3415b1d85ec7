-- The classes that are there before any is given. Their routines are built in.
use Rattle.std.specs.Prelude.{ℕ, List, [], ◌∷◌, Option, Some, None, codes}
use Rattle.eif_tree.specs.declared.tree.NameAt.{NameAt}
use Rattle.eif_tree.specs.Tree.{TypeT, no_inss, routine, GroupT, DeclT, ClassT}
use Rattle.eif_system.specs.TreeForms.{nowhere, named, unmarked, detachable, bare_class, created_by, with_features, declared, argument}

abbrev pub any_name : List ℕ
any_name = codes "any"

-- a name and a type that stand in no file
abbrev name : List ℕ → NameAt
name n = named nowhere n

abbrev of_class : List ℕ → TypeT
of_class n = unmarked nowhere n

-- a routine that is built in
abbrev built_in : List ℕ → List GroupT → Option TypeT → DeclT
built_in n arguments result = declared (name n) arguments result (routine [] no_inss)

abbrev integer : TypeT
integer = of_class (codes "integer")

abbrev string : TypeT
string = of_class (codes "string")

abbrev index : GroupT
index = argument (name (codes "i")) integer

abbrev value : GroupT
value = argument (name (codes "v")) (of_class (codes "g"))

abbrev pub any_class : ClassT
any_class = record (bare_class nowhere any_name) {
  creators = created_by (name (codes "default_create") ∷ []);
  features = with_features (
      built_in (codes "default_create") [] None
      ∷ built_in (codes "out") [] (Some string)
      ∷ built_in (codes "print") (argument (name (codes "o")) (detachable nowhere nowhere any_name) ∷ []) None
      ∷ []);
}

abbrev pub character_class : ClassT
character_class = record (bare_class nowhere (codes "character")) { features = with_features (built_in (codes "code") [] (Some integer) ∷ []) }

abbrev pub string_class : ClassT
string_class = record (bare_class nowhere (codes "string")) {
  creators = created_by (name (codes "default_create") ∷ name (codes "make_empty") ∷ []);
  features = with_features (
      built_in (codes "make_empty") [] None
      ∷ built_in (codes "count") [] (Some integer)
      ∷ built_in (codes "is_empty") [] (Some (of_class (codes "boolean")))
      ∷ built_in (codes "item") (index ∷ []) (Some (of_class (codes "character")))
      ∷ built_in (codes "append") (argument (name (codes "s")) string ∷ []) None
      ∷ []);
}

abbrev pub array_class : ClassT
array_class = record (bare_class nowhere (codes "array")) {
  formals = record { place = nowhere; name = codes "g"; constraint = None } ∷ [];
  creators = created_by (name (codes "make_filled") ∷ []);
  features = with_features (
      built_in (codes "make_filled") (value ∷ record { names = name (codes "lo") ∷ name (codes "up") ∷ []; type_tree = integer } ∷ []) None
      ∷ built_in (codes "item") (index ∷ []) (Some (of_class (codes "g")))
      ∷ built_in (codes "put") (value ∷ index ∷ []) None
      ∷ built_in (codes "count") [] (Some integer)
      ∷ built_in (codes "lower") [] (Some integer)
      ∷ built_in (codes "upper") [] (Some integer)
      ∷ []);
}

unfoldable pub kernel : List ClassT
kernel =
    any_class ∷ bare_class nowhere (codes "integer") ∷ bare_class nowhere (codes "boolean") ∷ character_class ∷ string_class
    ∷ array_class ∷ []

-- how many there are; the first is ANY
abbrev pub kernel_count : ℕ
kernel_count = 6

-- the classes whose values are no references
abbrev pub basic_names : List (List ℕ)
basic_names = codes "integer" ∷ codes "boolean" ∷ codes "character" ∷ []

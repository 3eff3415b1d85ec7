-- Which fields of generic classes and of their heirs a creator must set. Above each class stands its text, in one line.
use Prim.Native.String.{String}
use Rattle.std.specs.Prelude.{◌≡◌, ℕ, [], ◌∷◌, None, codes}
use Rattle.eif_tree.specs.declared.tree.Mark.TheVariants.{Plain}
use Rattle.eif_tree.specs.Tree.{TypeT, type_at, ClassT}
use Rattle.eif_tree.specs.View.{types_from}
use Rattle.eif_system.specs.TreeForms.{nowhere, attribute_of, parent_clause}
use Rattle.eif_flow_rules_laws.specs.CreationTexts.{at, name, plain, maybe, routine_of, class, creating, inherits, faults_of, faults_alone, leaves}

-- class CELL [G] create make feature item: T make do end end
abbrev pub cell_with : TypeT → ClassT
cell_with t =
    record (creating (at 23) (class (at 7) "cell" (attribute_of (name "item") t ∷ routine_of "make" [] ∷ [])))
    { formals = record { place = nowhere; name = codes "g"; constraint = None } ∷ [] }

-- class CELL [G] create make feature item: G make do end end
abbrev pub cell : ClassT
cell = cell_with (plain "g")

-- inherit CELL [T] create make feature
abbrev pub heir_of : String → ℕ → TypeT → ClassT
heir_of s column t =
    creating (at column)
    (inherits (parent_clause (type_at nowhere nowhere Plain (codes "cell") (types_from (t ∷ []))) ∷ [])
    (class (at 7) s []))

-- class NUMBERS inherit CELL [INTEGER] create make feature end
abbrev pub numbers : ClassT
numbers = heir_of "numbers" 45 (plain "integer")

-- class STRINGS inherit CELL [STRING] create make feature end
abbrev pub strings : ClassT
strings = heir_of "strings" 44 (plain "string")

pub record GenericExamples : Type 0 where
  -- of type G, whatever its actual
  pub of_a_formal : faults_alone cell ≡ leaves cell (at 23) "item" ∷ []
  -- of type `detachable G`
  pub of_a_detachable_formal : faults_alone (cell_with (maybe "g")) ≡ []
  -- in an heir by the actual that it gives to G
  pub of_an_integer : faults_of (numbers ∷ cell ∷ []) 0 ≡ []
  pub of_a_string : faults_of (strings ∷ cell ∷ []) 0 ≡ leaves strings (at 44) "item" ∷ []

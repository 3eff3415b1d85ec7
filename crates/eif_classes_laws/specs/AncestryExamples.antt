-- What classes give the formals of their ancestors, worked out. Above each stands its class text.
use Rattle.std.specs.Prelude.{◌≡◌, ℕ, zero, suc, List, [], ◌∷◌, ◌++◌, Option, Some, None, is_some, true, false}
use Rattle.eif_tree.specs.declared.tree.Mark.TheVariants.{Plain}
use Rattle.eif_tree.specs.Tree.{TypeT, ParentT, ClassT}
use Rattle.eif_classes.specs.Ancestry.{ancestor}
use Rattle.eif_classes.specs.Descent.{above, descends}
use Rattle.eif_system.specs.TreeForms.{parent_clause}
use Rattle.eif_classes.specs.Types.{Actuals, no_actuals}
use Rattle.eif_system.specs.Universe.{universe}
use Rattle.eif_classes_laws.specs.ClassTexts.{plain, maybe, written, of, parent, class, formal, generic, inherits, class_at}
use Rattle.eif_classes_laws.specs.TypesInWords.{actuals, plain_formal, detachable_formal, string, string_or_void}

-- LINK [T] as a parent
abbrev pub link_of : TypeT → ParentT
link_of t = parent_clause (of "link" t)

-- class LINK [G] end
abbrev pub link : ClassT
link = generic (formal "g" ∷ []) (class "link")

-- class NAMES inherit LINK [STRING] end
abbrev pub name_list : ClassT
name_list = inherits (link_of (plain "string") ∷ []) (class "names")

-- class PAIRS [G, H] inherit LINK [detachable H] end
abbrev pub pairs : ClassT
pairs = generic (formal "g" ∷ formal "h" ∷ []) (inherits (link_of (maybe "h") ∷ []) (class "pairs"))

-- class D inherit .. end
abbrev pub class_d : List ParentT → ClassT
class_d parents = inherits parents (class "d")

-- LINK has the number 6, NAMES 7, PAIRS 8, and the class D with these parents 9
abbrev pub with_d : List ParentT → List ClassT
with_d parents = link ∷ name_list ∷ pairs ∷ class_d parents ∷ []

-- what D gives the class k
abbrev pub given_by_d : List ParentT → ℕ → Option Actuals
given_by_d parents k = ancestor (universe (with_d parents)) 9 k

-- PAIRS [INTEGER, STRING]
abbrev pub pair_clause : ParentT
pair_clause = parent_clause (written Plain "pairs" (plain "integer" ∷ plain "string" ∷ []))

-- ARRAY [ARRAY [.. ANY ..]], with so many arrays
abbrev pub arrays : ℕ → TypeT
arrays zero = plain "any"
arrays (suc n) = of "array" (arrays n)

-- class D inherit PAIRS [INTEGER, STRING] end
abbrev pub two_steps_parents : List ParentT
two_steps_parents = pair_clause ∷ []

-- class D inherit NAMES LINK [STRING] end
abbrev pub agreeing_parents : List ParentT
agreeing_parents = parent "names" ∷ link_of (plain "string") ∷ []

-- class D inherit NAMES LINK [detachable STRING] end
abbrev pub differing_parents : List ParentT
differing_parents = parent "names" ∷ link_of (maybe "string") ∷ []

-- class D inherit LINK [ARRAY [.. ANY ..]] end, with 98 arrays
abbrev pub largest_parents : List ParentT
largest_parents = link_of (arrays 98) ∷ []

-- class D inherit LINK [ARRAY [.. ANY ..]] end, with 99 arrays
abbrev pub too_large_parents : List ParentT
too_large_parents = link_of (arrays 99) ∷ []

pub record AncestryExamples : Type 0 where
  -- the class itself
  pub own : ancestor (universe (with_d [])) 8 8 ≡ Some (actuals (plain_formal 0 ∷ plain_formal 1 ∷ []))
  pub by_formal : ancestor (universe (with_d [])) 8 6 ≡ Some (actuals (detachable_formal 1 ∷ []))
  pub by_class : ancestor (universe (with_d [])) 7 6 ≡ Some (actuals (string ∷ []))
  pub of_any : ancestor (universe (with_d [])) 7 0 ≡ Some no_actuals
  pub no_ancestor : ancestor (universe (with_d [])) 6 7 ≡ None
  pub two_steps : given_by_d two_steps_parents 6 ≡ Some (actuals (string_or_void ∷ []))
  pub agreeing : given_by_d agreeing_parents 6 ≡ Some (actuals (string ∷ []))
  pub differing : given_by_d differing_parents 6 ≡ None
  pub differing_any : given_by_d differing_parents 0 ≡ Some no_actuals
  -- where the parent has 100 names
  pub largest : is_some (given_by_d largest_parents 6) ≡ true
  -- where it has 101
  pub too_large : given_by_d too_large_parents 6 ≡ None

-- class E inherit D end
abbrev pub class_e : ClassT
class_e = inherits (parent "d" ∷ []) (class "e")

-- E has the number 10
abbrev pub below_d : List ParentT → List ClassT
below_d parents = with_d parents ++ class_e ∷ []

pub record DescentExamples : Type 0 where
  -- class D inherit NAMES LINK [STRING] end
  pub proper : above (class_at (below_d agreeing_parents) 10) ≡ 0 ∷ 6 ∷ 7 ∷ 9 ∷ []
  pub of_any : above (class_at [] 0) ≡ []
  pub itself : descends (class_at (below_d []) 10) 10 ≡ true
  pub heir : descends (class_at (below_d []) 10) 9 ≡ true
  pub of_heir : descends (class_at (below_d []) 9) 10 ≡ false
  -- where the parent's are not defined: class D inherit NAMES LINK [detachable STRING] end
  pub undefined : ancestor (universe (below_d differing_parents)) 10 6 ≡ None

-- What calls on the same object need and set. Above each class stands its text, which is one line of file 0; a second
-- text is file 1.
use Prim.Native.String.{String}
use Rattle.std.specs.Prelude.{◌≡◌, ℕ, true, false, List, [], ◌∷◌, map, Option, Some, None, codes}
use Rattle.std.specs.Option.{option_map}
use Rattle.eif_tree.specs.declared.tree.Literal.TheVariants as lit
use Rattle.eif_tree.specs.declared.tree.Op.TheVariants.{And, AndThen, OrElse, Implies}
use Rattle.eif_tree.specs.Tree.{paren, Ins, constant, ClassT}
use Rattle.eif_classes.specs.Entries.{Declaration}
use Rattle.eif_system.specs.Lineage.{Line, line_of}
use Rattle.eif_system.specs.TreeForms.{nowhere, inline, declared}
use Rattle.eif_system.specs.Universe.{universe}
use Rattle.eif_flow_rules.specs.FollowedBodies.{body_named, needs_told, sets_told}
use Rattle.eif_flow_rules_laws.specs.CreationTexts.{at, name, plain, truth, the, any, dot, two, fill, perform, perform_precursor, perform_version, show, when, field, routine_of, function_of, class, creating, inherits, parent, redefining, renaming, app, faults_of, faults_alone, needs, leaves}
use Rattle.eif_flow_rules_laws.specs.CreatorExamples.{person}

-- what is told of the body of a name of the class; the first class given has the number 6
pub record Told : Type 0 where
  pub needed : Option (List (List ℕ))
  pub set : Option (List (List ℕ))

abbrev pub told_by : List ClassT → Line → Declaration → Told
told_by u l x = record { needed = needs_told u l x; set = sets_told u l x }

abbrev pub told_of : List ClassT → ℕ → List ℕ → Option Told
told_of given d n =
    option_map (told_by (universe given) (line_of (universe given) d)) (body_named (line_of (universe given) d) n)

abbrev pub told : List String → List String → Option Told
told needed set = Some (record { needed = Some (map codes needed); set = Some (map codes set) })

-- ---- bodies of the parent

-- class APP inherit PERSON rename make as make_person end create make feature title: STRING make do make_person
-- title := "a" end end
abbrev pub both_made : ClassT
both_made =
    creating nowhere (inherits (renaming "make" "make_person" (parent "person") ∷ [])
    (class nowhere "app" (field "title" ∷ routine_of "make" (perform (any "make_person") ∷ fill "title" ∷ []) ∷ [])))

-- class P create make feature make do set end set do end end, in file 1
abbrev pub class_p : ClassT
class_p =
    creating (inline 1 16)
    (class (inline 1 7) "p" (routine_of "make" (perform (the (inline 1 37) "set") ∷ []) ∷ routine_of "set" [] ∷ []))

-- class APP inherit P redefine set end create make feature name: STRING set do print (name) name := "a" end end
abbrev pub redefines_set : ClassT
redefines_set =
    creating (at 45) (inherits (redefining "set" (parent "p") ∷ [])
    (class (at 7) "app" (field "name" ∷ routine_of "set" (show (the (at 85) "name") ∷ fill "name" ∷ []) ∷ [])))

-- class APP inherit PERSON redefine make end create make feature title: STRING make do .. end end
abbrev pub with_precursor : List Ins → ClassT
with_precursor is =
    creating (at 51) (inherits (redefining "make" (parent "person") ∷ [])
    (class (at 7) "app" (field "title" ∷ routine_of "make" is ∷ [])))

-- nothing
abbrev pub never_called_app : ClassT
never_called_app = with_precursor []

-- Precursor title := "a"
abbrev pub precursor_sets_app : ClassT
precursor_sets_app = with_precursor (perform_precursor (at 86) ∷ fill "title" ∷ [])

-- title := "a"
abbrev pub no_precursor_app : ClassT
no_precursor_app = with_precursor (fill "title" ∷ [])

-- class P create make feature f: STRING do Result := "a" end make do print (f) end end, in file 1
abbrev pub shows_function : ClassT
shows_function =
    creating nowhere (class nowhere "p" (function_of "f" "string" (fill "result" ∷ [])
    ∷ routine_of "make" (show (the (inline 1 75) "f") ∷ []) ∷ []))

-- class APP inherit P redefine f end create make feature f: STRING end
abbrev pub function_as_field : ClassT
function_as_field =
    creating (at 43) (inherits (redefining "f" (parent "p") ∷ []) (class (at 7) "app" (field "f" ∷ [])))

-- a class with one field, which its `make` sets
abbrev pub filling : String → String → ClassT
filling s f = class nowhere s (field f ∷ routine_of "make" (fill f ∷ []) ∷ [])

-- class P feature a: STRING make do a := "a" end end
abbrev pub filling_a : ClassT
filling_a = filling "p" "a"

-- class Q feature b: STRING make do b := "a" end end
abbrev pub filling_b : ClassT
filling_b = filling "q" "b"

-- class APP inherit P redefine make end Q redefine make end create make feature make do Precursor {T} end end
abbrev pub of_two : String → ClassT
of_two s =
    creating nowhere (inherits (redefining "make" (parent "p") ∷ redefining "make" (parent "q") ∷ [])
    (class nowhere "app" (routine_of "make" (perform_version s ∷ []) ∷ [])))

-- class APP inherit P redefine make end Q redefine make end create make feature make do Precursor {P} end end
abbrev pub of_the_first_app : ClassT
of_the_first_app = of_two "p"

-- class APP inherit P redefine make end Q redefine make end create make feature make do Precursor {Q} end end
abbrev pub of_the_second_app : ClassT
of_the_second_app = of_two "q"

pub record ParentExamples : Type 0 where
  pub called : faults_of (both_made ∷ person ∷ []) 0 ≡ []
  pub own_body : told_of (both_made ∷ person ∷ []) 6 (codes "make")
      ≡ told [] ("name" ∷ "title" ∷ [])
  pub parents_body : told_of (both_made ∷ person ∷ []) 6 (codes "make_person")
      ≡ told [] ("name" ∷ [])
  pub built_in : told_of (redefines_set ∷ class_p ∷ []) 6 (codes "print") ≡ told [] []
  -- the heir's version runs, and the fault stands in the parent's text
  pub redefined : faults_of (redefines_set ∷ class_p ∷ []) 0 ≡ needs redefines_set (inline 1 37) "name" ∷ []
  -- nothing is told of a body that no creator leads to
  pub never_called : told_of (never_called_app ∷ person ∷ []) 6 (codes "print")
      ≡ Some (record { needed = None; set = None })
  pub in_the_parent : faults_of (redefines_set ∷ class_p ∷ []) 1 ≡ []
  pub precursor_sets : faults_of (precursor_sets_app ∷ person ∷ []) 0 ≡ []
  pub no_precursor : faults_of (no_precursor_app ∷ person ∷ []) 0 ≡ leaves (with_precursor []) (at 51) "name" ∷ []
  -- the version of the parent that is named
  pub of_the_first : told_of (of_the_first_app ∷ filling_a ∷ filling_b ∷ []) 6 (codes "make")
      ≡ told [] ("a" ∷ [])
  pub of_the_second : told_of (of_the_second_app ∷ filling_a ∷ filling_b ∷ []) 6 (codes "make")
      ≡ told [] ("b" ∷ [])
  -- the parent's text reads what is a field in the heir, and nothing sets it
  pub redeclared_as_field : faults_of (function_as_field ∷ shows_function ∷ []) 0
      ≡ needs function_as_field (inline 1 75) "f" ∷ leaves function_as_field (at 43) "f" ∷ []

-- ---- bodies that lead to themselves

-- class APP create make feature name: STRING make do help name := "a" end help do if False then help end end end
abbrev pub with_help : ClassT
with_help =
    app (field "name" ∷ routine_of "make" (perform (the (at 52) "help") ∷ fill "name" ∷ [])
    ∷ routine_of "help" (when (truth false) (perform (the (at 95) "help") ∷ []) ∷ []) ∷ [])

-- class APP create make feature name: STRING make do .. end end
abbrev pub alone : List Ins → ClassT
alone is = app (field "name" ∷ routine_of "make" is ∷ [])

-- class APP create make feature name: STRING make do name := "a" odd end even do odd end odd do even end end
abbrev pub in_turns : ClassT
in_turns =
    app (field "name" ∷ routine_of "make" (fill "name" ∷ perform (any "odd") ∷ [])
    ∷ routine_of "even" (perform (any "odd") ∷ []) ∷ routine_of "odd" (perform (any "even") ∷ []) ∷ [])

-- name := "a" if False then make end
abbrev pub creator_app : ClassT
creator_app = alone (fill "name" ∷ when (truth false) (perform (the (at 78) "make") ∷ []) ∷ [])

-- if False then make end name := "a"
abbrev pub creator_needs_app : ClassT
creator_needs_app = alone (when (truth false) (perform (the (at 66) "make") ∷ []) ∷ fill "name" ∷ [])

-- class P feature f do g end g do end end
abbrev pub calls_g : ClassT
calls_g = class nowhere "p" (routine_of "f" (perform (any "g") ∷ []) ∷ routine_of "g" [] ∷ [])

-- class APP inherit P redefine f, g end create make feature name: STRING make do name := "a" f end f do Precursor end
-- g do f end end
abbrev pub by_precursor : ClassT
by_precursor =
    creating nowhere (inherits (redefining "g" (redefining "f" (parent "p")) ∷ [])
    (class nowhere "app" (field "name" ∷ routine_of "make" (fill "name" ∷ perform (any "f") ∷ [])
    ∷ routine_of "f" (perform_precursor nowhere ∷ []) ∷ routine_of "g" (perform (any "f") ∷ []) ∷ [])))

pub record CircleExamples : Type 0 where
  pub needs_all : faults_alone with_help ≡ needs with_help (at 52) "name" ∷ []
  pub helper : told_of (with_help ∷ []) 6 (codes "help") ≡ told ("name" ∷ []) []
  -- a creator is judged by its own text
  pub creator : faults_alone creator_app ≡ []
  pub creator_needs : faults_alone creator_needs_app ≡ needs (alone []) (at 66) "name" ∷ []
  pub two_bodies : faults_alone in_turns ≡ []
  pub second_body : told_of (in_turns ∷ []) 6 (codes "even") ≡ told ("name" ∷ []) []
  -- one that merely calls such a body is none of them
  pub caller : told_of (in_turns ∷ []) 6 (codes "make") ≡ told [] ("name" ∷ [])
  -- `f` leads to itself by Precursor and the heir's `g`
  pub through_precursor : told_of (by_precursor ∷ calls_g ∷ []) 6 (codes "f") ≡ told ("name" ∷ []) []
  pub called_when_set : faults_of (by_precursor ∷ calls_g ∷ []) 0 ≡ []

-- ---- operands and constants

-- class APP create make feature name: STRING make do .. end fill: BOOLEAN do name := "a" end end
abbrev pub with_fill : List Ins → ClassT
with_fill is =
    app (field "name" ∷ routine_of "make" is ∷ function_of "fill" "boolean" (fill "name" ∷ []) ∷ [])

-- class APP create make feature name: STRING = "a" make do print (name) end end
abbrev pub with_constant : ClassT
with_constant =
    app (declared (name "name") [] (Some (plain "string")) (constant (lit.Text (codes "a")))
    ∷ routine_of "make" (show (any "name") ∷ []) ∷ [])

-- if True and fill then print (name) end
abbrev pub strict_app : ClassT
strict_app = with_fill (when (two And (truth true) (any "fill")) (show (any "name") ∷ []) ∷ [])

-- if True and then fill then print (name) end
abbrev pub may_not_run_app : ClassT
may_not_run_app = with_fill (when (two AndThen (truth true) (any "fill")) (show (the (at 86) "name") ∷ []) ∷ [])

-- if True and then (fill and name.is_empty) then end name := "a"
abbrev pub set_inside_app : ClassT
set_inside_app = with_fill (
    when (two AndThen (truth true) (paren nowhere (two And (any "fill") (dot (any "name") "is_empty" [])))) []
    ∷ fill "name" ∷ [])

-- if True implies name.is_empty then end name := "a"
abbrev pub needs_too_app : ClassT
needs_too_app = with_fill (
    when (two Implies (truth true) (dot (the (at 68) "name") "is_empty" [])) [] ∷ fill "name" ∷ [])

-- if True or else fill then print (name) end
abbrev pub or_else_app : ClassT
or_else_app = with_fill (when (two OrElse (truth true) (any "fill")) (show (the (at 85) "name") ∷ []) ∷ [])

-- if True implies fill then end
abbrev pub implied_app : ClassT
implied_app = with_fill (when (two Implies (truth true) (any "fill")) [] ∷ [])

pub record OperandExamples : Type 0 where
  pub strict : faults_alone strict_app ≡ []
  pub may_not_run : faults_alone may_not_run_app
      ≡ needs (with_fill []) (at 86) "name" ∷ leaves (with_fill []) (at 18) "name" ∷ []
  -- inside it what it sets counts
  pub set_inside : faults_alone set_inside_app ≡ []
  -- what it needs counts
  pub needs_too : faults_alone needs_too_app ≡ needs (with_fill []) (at 68) "name" ∷ []
  pub or_else : faults_alone or_else_app
      ≡ needs (with_fill []) (at 85) "name" ∷ leaves (with_fill []) (at 18) "name" ∷ []
  pub implied : faults_alone implied_app ≡ leaves (with_fill []) (at 18) "name" ∷ []
  pub constant_is_no_field : faults_alone with_constant ≡ []

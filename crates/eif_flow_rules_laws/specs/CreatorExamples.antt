-- What a creator must set before it ends, and before `Current` is handed out. Above each class stands its text.
use Rattle.std.specs.Prelude.{◌≡◌, ℕ, true, false, List, [], ◌∷◌, codes}
use Rattle.eif_base.specs.declared.code.Code.TheVariants as code
use Rattle.eif_base.specs.declared.fault.Fault.{Fault}
use Rattle.eif_base.specs.declared.place.Place.{Place}
use Rattle.eif_tree.specs.Tree.{Ins, ClassT}
use Rattle.eif_system.specs.TreeForms.{nowhere, spot, named, created_by, attribute_of}
use Rattle.eif_rules.specs.FaultForms.{fault_in}
use Rattle.eif_flow_rules_laws.specs.CreationTexts.{at, name, plain, maybe, truth, me, the, any, dot, fill, perform, show, make, when, when_else, when_elseif, until, field, routine_of, with_local, function_of, class, creating, inherits, parent, renaming, selecting, app, faults_of, faults_alone, needs, leaves}

-- ---- the end of a creator

-- class APP
-- create make
-- feature name: STRING make do .. end end
abbrev pub line_two : ℕ → Place
line_two column = spot 0 (10 ∷ []) 2 column

abbrev pub with_name : List Ins → ClassT
with_name is = creating (line_two 8) (class nowhere "app" (field "name" ∷ routine_of "make" is ∷ []))

abbrev pub name_is_left : List Fault
name_is_left = leaves (with_name []) (line_two 8) "name" ∷ []

-- class APP feature name: STRING end
abbrev pub without_creator : ClassT
without_creator = class (at 7) "app" (field "name" ∷ [])

-- class APP create make feature name: detachable STRING count: INTEGER make do print (name) print (count) end end
abbrev pub with_values : ClassT
with_values =
    app (attribute_of (name "name") (maybe "string") ∷ attribute_of (name "count") (plain "integer")
    ∷ routine_of "make" (show (any "name") ∷ show (any "count") ∷ []) ∷ [])

-- if True then name := "a" end
abbrev pub in_one_branch_app : ClassT
in_one_branch_app = with_name (when (truth true) (fill "name" ∷ []) ∷ [])

-- if True then name := "a" else name := "a" end
abbrev pub in_both_app : ClassT
in_both_app = with_name (when_else (truth true) (fill "name" ∷ []) (fill "name" ∷ []) ∷ [])

-- if True then name := "a" elseif False then else name := "a" end
abbrev pub in_two_of_three_app : ClassT
in_two_of_three_app = with_name (
    when_elseif (truth true) (fill "name" ∷ []) (truth false) [] (fill "name" ∷ []) ∷ [])

-- nothing
abbrev pub in_none_app : ClassT
in_none_app = with_name []

pub record BranchExamples : Type 0 where
  pub in_one_branch : faults_alone in_one_branch_app ≡ name_is_left
  pub in_both : faults_alone in_both_app ≡ []
  pub in_two_of_three : faults_alone in_two_of_three_app ≡ name_is_left
  pub in_none : faults_alone in_none_app ≡ name_is_left
  pub by_default : faults_alone without_creator
      ≡ fault_in without_creator (codes "default_create") code.Vevi 4 (at 7) (codes "name") ∷ []
  pub values_from_the_start : faults_alone with_values ≡ []

-- ---- `Current` handed out

-- class APP
-- create make
-- feature
--   name: STRING
--   make
--     local
--       other: A
--     do
--       create other
--       ..
--       ..
--     end
-- end
abbrev pub with_other : List Ins → ClassT
with_other is =
    creating (line_two 8)
    (class nowhere "app" (field "name" ∷ with_local "make" "other" (plain "a") (make "other" ∷ is) ∷ []))

-- where `Current` stands in the tenth line, or in the eleventh behind name := "a"
abbrev pub current_in : ℕ → Place
current_in line = spot 0 (10 ∷ 12 ∷ 8 ∷ 15 ∷ 7 ∷ 10 ∷ 15 ∷ 7 ∷ 19 ∷ 18 ∷ []) line 18

-- other.put (Current)
abbrev pub put_current : ℕ → Ins
put_current line = perform (dot (any "other") "put" (me (current_in line) ∷ []))

-- class A feature end
abbrev pub class_a : ClassT
class_a = class nowhere "a" []

-- other.put (Current) name := "a"
abbrev pub before_app : ClassT
before_app = with_other (put_current 10 ∷ fill "name" ∷ [])

-- name := "a" other.put (Current)
abbrev pub behind_app : ClassT
behind_app = with_other (fill "name" ∷ put_current 11 ∷ [])

pub record CurrentExamples : Type 0 where
  pub before : faults_of (before_app ∷ class_a ∷ []) 0 ≡ needs (with_other []) (current_in 10) "name" ∷ []
  pub behind : faults_of (behind_app ∷ class_a ∷ []) 0 ≡ []

-- ---- loops

-- class APP create make feature name: STRING make do from .. until .. loop .. end end
-- fill: BOOLEAN do name := "a" end end
abbrev pub with_loop : Ins → ClassT
with_loop i =
    app (field "name" ∷ routine_of "make" (i ∷ []) ∷ function_of "fill" "boolean" (fill "name" ∷ []) ∷ [])

-- from name := "a" until True loop print (name) end
abbrev pub set_at_start_app : ClassT
set_at_start_app = with_loop (until (fill "name" ∷ []) (truth true) (show (any "name") ∷ []))

-- from until True loop name := "a" end
abbrev pub set_in_body_app : ClassT
set_in_body_app = with_loop (until [] (truth true) (fill "name" ∷ []))

-- from until fill loop print (name) end
abbrev pub set_by_exit_app : ClassT
set_by_exit_app = with_loop (until [] (any "fill") (show (the (at 80) "name") ∷ []))

pub record LoopExamples : Type 0 where
  pub set_at_start : faults_alone set_at_start_app ≡ []
  pub set_in_body : faults_alone set_in_body_app ≡ leaves (with_loop (make "name")) (at 18) "name" ∷ []
  -- what the exit sets counts nowhere
  pub set_by_exit : faults_alone set_by_exit_app
      ≡ needs (with_loop (make "name")) (at 80) "name" ∷ leaves (with_loop (make "name")) (at 18) "name" ∷ []

-- ---- several creators, and one that is not named

-- class APP create make, other feature name: STRING title: STRING make do print (Current) name := "a" title := "a" end
-- other do name := "a" end end
abbrev pub two_creators : ClassT
two_creators =
    record (class (at 7) "app" (field "name" ∷ field "title"
    ∷ routine_of "make" (show (me (at 80)) ∷ fill "name" ∷ fill "title" ∷ [])
    ∷ routine_of "other" (fill "name" ∷ []) ∷ []))
    { creators = created_by (named (at 18) (codes "make") ∷ named (at 24) (codes "other") ∷ []) }

-- class APP inherit ANY rename default_create as start end feature name: STRING end
abbrev pub renamed_default : ClassT
renamed_default =
    inherits (renaming "default_create" "start" (parent "any") ∷ []) (class (at 7) "app" (field "name" ∷ []))

pub record SeveralExamples : Type 0 where
  -- each by its own text, and its faults one after the other
  pub each_alone : faults_alone two_creators
      ≡ needs two_creators (at 80) "name" ∷ needs two_creators (at 80) "title"
      ∷ fault_in two_creators (codes "other") code.Vevi 4 (at 24) (codes "title") ∷ []
  -- without a creators part the one creator has the name that the class gives ANY's `default_create`
  pub default_by_its_name : faults_alone renamed_default
      ≡ fault_in renamed_default (codes "start") code.Vevi 4 (at 7) (codes "name") ∷ []

-- ---- inherited creators

-- class PERSON create make feature name: STRING make do name := "a" end end
abbrev pub person : ClassT
person = creating nowhere (class nowhere "person" (field "name" ∷ routine_of "make" (fill "name" ∷ []) ∷ []))

-- class APP
-- inherit PERSON
-- create make
-- feature
--   title: STRING
-- end
abbrev pub with_title : ClassT
with_title =
    creating (spot 0 (10 ∷ 15 ∷ []) 3 8)
    (inherits (parent "person" ∷ []) (class nowhere "app" (field "title" ∷ [])))

-- class APP
-- inherit
--   PERSON select name end
--   PERSON rename name as nick end
-- create make
-- feature
-- end
abbrev pub with_nick : ClassT
with_nick =
    creating (spot 0 (10 ∷ 8 ∷ 25 ∷ 33 ∷ []) 5 8)
    (inherits (selecting "name" (parent "person") ∷ renaming "name" "nick" (parent "person") ∷ [])
    (class nowhere "app" []))

pub record InheritedExamples : Type 0 where
  pub new_field : faults_of (with_title ∷ person ∷ []) 0
      ≡ leaves with_title (spot 0 (10 ∷ 15 ∷ []) 3 8) "title" ∷ []
  pub of_the_parent : faults_of (with_title ∷ person ∷ []) 1 ≡ []
  -- the selected field alone is set
  pub replicated : faults_of (with_nick ∷ person ∷ []) 0
      ≡ leaves with_nick (spot 0 (10 ∷ 8 ∷ 25 ∷ 33 ∷ []) 5 8) "nick" ∷ []

-- Which names are features: a test local that may be used, an argument and a local hide one of the class, and what is
-- none in the class of a body is none in its heirs. Above each class stands its text, in one line.
use Rattle.std.specs.Prelude.{◌≡◌, ℕ, true, [], ◌∷◌}
use Rattle.eif_tree.specs.declared.tree.Op.TheVariants.{Not, And, AndThen, OrElse, Implies}
use Rattle.eif_tree.specs.Tree.{Ex, Ins, ClassT}
use Rattle.eif_system.specs.TreeForms.{nowhere, inline, attribute_of}
use Rattle.eif_flow_rules_laws.specs.CreationTexts.{at, name, plain, maybe, text, the, any, dot, is_there, one, two, fill, perform, show, make, make_by, when, when_else, until, field, routine_of, with_local, function_of, class, creating, inherits, parent, app, faults_of, faults_alone, needs, leaves}

-- ---- names of the parent's text alone

-- class A create make feature make do end end
abbrev pub class_a : ClassT
class_a = creating nowhere (class nowhere "a" (routine_of "make" [] ∷ []))

-- deferred class K feature b: A make local x: detachable A do create x.make if attached x as y then print (y)
-- b.make end create b.make end end, in file 1
abbrev pub class_k : ClassT
class_k =
    record (class nowhere "k" (attribute_of (name "b") (plain "a") ∷ with_local "make" "x" (maybe "a") (
    make_by "x" "make"
    ∷ when (is_there "y" (any "x")) (show (any "y") ∷ perform (dot (the (inline 1 109) "b") "make" []) ∷ [])
    ∷ make_by "b" "make" ∷ []) ∷ [])) { is_deferred = true }

-- class D inherit K create make feature y: STRING do create b.make Result := "a" end end
abbrev pub class_d : ClassT
class_d =
    creating (at 26) (inherits (parent "k" ∷ [])
    (class (at 7) "d" (function_of "y" "string" (make_by "b" "make" ∷ fill "result" ∷ []) ∷ [])))

-- class P create make feature make local z: STRING do z := "a" print (z) end end
abbrev pub class_p : ClassT
class_p =
    creating nowhere
    (class nowhere "p" (with_local "make" "z" (plain "string") (fill "z" ∷ show (any "z") ∷ []) ∷ []))

-- class APP inherit P create make feature z: STRING end
abbrev pub with_z : ClassT
with_z = creating (at 28) (inherits (parent "p" ∷ []) (class (at 7) "app" (field "z" ∷ [])))

pub record HeirExamples : Type 0 where
  -- the test local y is not the heir's function, which would set b
  pub test_local : faults_of (class_d ∷ class_k ∷ class_a ∷ []) 0 ≡ needs class_d (inline 1 109) "b" ∷ []
  -- a class that is marked deferred is not judged
  pub not_judged : faults_of (class_d ∷ class_k ∷ class_a ∷ []) 1 ≡ []
  -- the local z is not the heir's field
  pub local : faults_of (with_z ∷ class_p ∷ []) 0 ≡ leaves with_z (at 28) "z" ∷ []

-- ---- names that hide a feature, which the rules of bodies refuse

-- class APP create make feature z: STRING make local z: STRING do z := "a" end end
abbrev pub with_local_z : ClassT
with_local_z = app (field "z" ∷ with_local "make" "z" (plain "string") (fill "z" ∷ []) ∷ [])

-- class APP create make feature y: STRING make local x: detachable STRING do if attached x as y then print (y) else
-- print (y) end y := "a" end end
abbrev pub with_test_y : ClassT
with_test_y =
    app (field "y" ∷ with_local "make" "x" (maybe "string") (
    when_else (is_there "y" (any "x")) (show (any "y") ∷ []) (show (the (at 122) "y") ∷ [])
    ∷ fill "y" ∷ []) ∷ [])

-- class APP create make feature y: STRING make do .. y := "a" end end
abbrev pub then_y : Ins → ClassT
then_y i = app (field "y" ∷ routine_of "make" (i ∷ fill "y" ∷ []) ∷ [])

-- attached "a" as y
abbrev pub is_y : Ex
is_y = is_there "y" text

-- y.is_empty, which asks the field at that column
abbrev pub empty_y : ℕ → Ex
empty_y column = dot (the (at column) "y") "is_empty" []

-- if .. then end
abbrev pub if_it : Ex → Ins
if_it e = when e []

pub record HiddenExamples : Type 0 where
  pub by_a_local : faults_alone with_local_z ≡ leaves with_local_z (at 18) "z" ∷ []
  -- only where the test holds
  pub by_a_test_local : faults_alone with_test_y ≡ needs with_test_y (at 122) "y" ∷ []
  -- if attached "a" as y and then y.is_empty then end
  pub by_and_then : faults_alone (then_y (if_it (two AndThen is_y (empty_y 79)))) ≡ []
  -- if attached "a" as y implies y.is_empty then end
  pub by_implies : faults_alone (then_y (if_it (two Implies is_y (empty_y 78)))) ≡ []
  -- if not attached "a" as y or else y.is_empty then end
  pub by_or_else : faults_alone (then_y (if_it (two OrElse (one Not is_y) (empty_y 82)))) ≡ []
  -- if attached "a" as y and y.is_empty then end: the right operand runs whatever the left one gives
  pub not_by_and : faults_alone (then_y (if_it (two And is_y (empty_y 74))))
      ≡ needs (then_y (make "y")) (at 74) "y" ∷ []
  -- if not attached "a" as y then print (y) else print (y) end: in the `else` part alone
  pub by_not :
      faults_alone (then_y (when_else (one Not is_y) (show (the (at 86) "y") ∷ []) (show (the (at 101) "y") ∷ [])))
      ≡ needs (then_y (make "y")) (at 86) "y" ∷ []
  -- from until not attached "a" as y loop print (y) end: in the body of a loop
  pub by_an_exit : faults_alone (then_y (until [] (one Not is_y) (show (the (at 94) "y") ∷ []))) ≡ []

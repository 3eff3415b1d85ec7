-- The rules of signatures, of creators and of the root procedure. APP sees an object of B as an A, and calls it.
use Rattle.std.specs.Prelude.{[], ◌∷◌, List}
use Rattle.eif_base.specs.declared.code.Code.TheVariants as code
use Rattle.eif_tree.specs.declared.tree.Op.TheVariants as op
use Rattle.eif_tree.specs.Tree.{DeclT, ClassT}
use Rattle.eif_meaning.specs.BodyTexts.{plain, number, text, me, the, dot, dot_with, two, set, perform, show, make_by}
use Rattle.eif_meaning.specs.RunSystems.{has, field, does, does_with, gives, parent, redefining, class, heir, marked_deferred, app}
use Rattle.eif_meaning.specs.Values.{no_feature}
use Rattle.eif_needed_rules.specs.NeededRules.{IsNeeded, created, later_with, making_app, through}

-- class A feature f .. end class B inherit A redefine f end feature f .. end
abbrev pub redeclared : DeclT → DeclT → List ClassT
redeclared f g =
    class "a" (f ∷ []) ∷ heir (redefining "f" (parent "a") ∷ []) (class "b" (g ∷ [])) ∷ []

-- f do end, and f (i: ANY) do end: x.f
abbrev pub other_count : List ClassT
other_count =
    through "a" "b" (perform (dot (the "x") "f") ∷ [])
    ∷ redeclared (does "f" []) (does_with "f" (has "i" (plain "any") ∷ []) [] [])

-- f (i: STRING) do end, and f (i: INTEGER) do print (i + 1) end: x.f ("s")
abbrev pub other_argument : List ClassT
other_argument =
    through "a" "b" (perform (dot_with (the "x") "f" (text "s" ∷ [])) ∷ [])
    ∷ redeclared (does_with "f" (has "i" (plain "string") ∷ []) [] [])
    (does_with "f" (has "i" (plain "integer") ∷ []) [] (show (two op.Plus (the "i") (number 1)) ∷ []))

-- f: ANY do Result := Current end, and f do end: print (x.f)
abbrev pub other_form : List ClassT
other_form =
    through "a" "b" (show (dot (the "x") "f") ∷ [])
    ∷ redeclared (gives "f" (plain "any") (set "result" me ∷ [])) (does "f" [])

-- f: STRING do Result := "a" end, and f: INTEGER do end: print (x.f.count)
abbrev pub other_result : List ClassT
other_result =
    through "a" "b" (show (dot (dot (the "x") "f") "count") ∷ [])
    ∷ redeclared (gives "f" (plain "string") (set "result" (text "a") ∷ [])) (gives "f" (plain "integer") [])

-- class A create make feature f: STRING make do f := "a" end end
abbrev pub sets_field : ClassT
sets_field = created "make" (class "a" (field "f" (plain "string") ∷ does "make" (set "f" (text "a") ∷ []) ∷ []))

-- f: STRING do Result := "b" end
abbrev pub function : DeclT
function = gives "f" (plain "string") (set "result" (text "b") ∷ [])

-- class B inherit A redefine f end create make feature f: STRING do Result := "b" end end: create b.make
abbrev pub lost_attribute : List ClassT
lost_attribute =
    making_app (has "b" (plain "b") ∷ []) (make_by "b" "make" [] ∷ [])
    ∷ sets_field
    ∷ heir (redefining "f" (parent "a") ∷ []) (created "make" (class "b" (function ∷ [])))
    ∷ []

-- deferred class A feature f (i: STRING) deferred end end, class C feature f do end end, class B inherit A C end:
-- x.f ("s")
abbrev pub unfit_version : List ClassT
unfit_version =
    through "a" "b" (perform (dot_with (the "x") "f" (text "s" ∷ [])) ∷ [])
    ∷ marked_deferred (class "a" (later_with "f" (has "i" (plain "string") ∷ []) ∷ []))
    ∷ class "c" (does "f" [] ∷ [])
    ∷ heir (parent "a" ∷ parent "c" ∷ []) (class "b" [])
    ∷ []

-- in the deferred classes A and D is f (i: INTEGER) deferred end and f (i: STRING) deferred end; the deferred class C
-- inherits D and A, and class B inherits C and has f (i: STRING) do print (i.count) end: x.f (1)
abbrev pub unequal_join : List ClassT
unequal_join =
    through "a" "b" (perform (dot_with (the "x") "f" (number 1 ∷ [])) ∷ [])
    ∷ marked_deferred (class "a" (later_with "f" (has "i" (plain "integer") ∷ []) ∷ []))
    ∷ marked_deferred (class "d" (later_with "f" (has "i" (plain "string") ∷ []) ∷ []))
    ∷ marked_deferred (heir (parent "d" ∷ parent "a" ∷ []) (class "c" []))
    ∷ heir (parent "c" ∷ [])
    (class "b" (does_with "f" (has "i" (plain "string") ∷ []) [] (show (dot (the "i") "count") ∷ []) ∷ []))
    ∷ []

-- class APP create make end
abbrev pub unknown_creator : List ClassT
unknown_creator = app [] ∷ []

-- class B create f feature f: INTEGER end: create b.f
abbrev pub creator_with_result : List ClassT
creator_with_result =
    making_app (has "b" (plain "b") ∷ []) (make_by "b" "f" [] ∷ [])
    ∷ created "f" (class "b" (field "f" (plain "integer") ∷ []))
    ∷ []

-- class APP create make feature make (i: ANY) do end end
abbrev pub root_with_argument : List ClassT
root_with_argument = app (does_with "make" (has "i" (plain "any") ∷ []) [] [] ∷ []) ∷ []

pub record SignaturesNeeded : Type 0 where
  pub other_count : IsNeeded code.Vdrd 1 no_feature other_count
  pub other_argument : IsNeeded code.Vdrd 2 no_feature other_argument
  pub other_form : IsNeeded code.Vdrd 3 no_feature other_form
  pub other_result : IsNeeded code.Vdrd 4 no_feature other_result
  pub lost_attribute : IsNeeded code.Vdrd 5 no_feature lost_attribute
  pub unfit_version : IsNeeded code.Vdrd 6 no_feature unfit_version
  pub unequal_join : IsNeeded code.Vdjr 1 no_feature unequal_join
  pub unknown_creator : IsNeeded code.Vgcp 2 no_feature unknown_creator
  pub creator_with_result : IsNeeded code.Vgcp 3 no_feature creator_with_result
  pub root_with_argument : IsNeeded code.Vsrp 1 no_feature root_with_argument

-- The rules of creation instructions and of creation expressions.
use Rattle.std.specs.Prelude.{[], ◌∷◌, List, None}
use Rattle.eif_base.specs.declared.code.Code.TheVariants as code
use Rattle.eif_tree.specs.Tree.{Ins, DeclT, ClassT}
use Rattle.eif_meaning.specs.BodyTexts.{plain, generic, text, the, dot, new, new_by, set, perform, show, make, make_as, make_by}
use Rattle.eif_meaning.specs.RunSystems.{has, field, does, does_with, class, marked_deferred, formal, over}
use Rattle.eif_meaning.specs.Values.{unset, no_feature}
use Rattle.eif_needed_rules.specs.NeededRules.{IsNeeded, created, making_app}

-- class B [G] with one feature, which APP calls as f on a B [INTEGER]
abbrev pub of_integer : DeclT → List ClassT
of_integer f =
    making_app (has "b" (generic "b" (plain "integer" ∷ [])) ∷ []) (make "b" ∷ perform (dot (the "b") "f") ∷ [])
    ∷ over (formal "g" None ∷ []) (class "b" (f ∷ []))
    ∷ []

-- and with the deferred class B
abbrev pub with_deferred : List Ins → List ClassT
with_deferred body = making_app (has "b" (plain "b") ∷ []) body ∷ marked_deferred (class "b" []) ∷ []

-- class B create make feature s: STRING make do s := "a" end go do end end
abbrev pub set_by_make : ClassT
set_by_make =
    created "make"
    (class "b" (field "s" (plain "string") ∷ does "make" (set "s" (text "a") ∷ []) ∷ does "go" [] ∷ []))

-- f local x: G do create x end
abbrev pub instruction_of_formal : List ClassT
instruction_of_formal = of_integer (does_with "f" [] (has "x" (plain "g") ∷ []) (make "x" ∷ []))

-- local b: B do create b
abbrev pub instruction_of_deferred : List ClassT
instruction_of_deferred = with_deferred (make "b" ∷ [])

-- local i: INTEGER do create i
abbrev pub instruction_of_basic : List ClassT
instruction_of_basic = making_app (has "i" (plain "integer") ∷ []) (make "i" ∷ []) ∷ []

-- local b: B do create b.go print (b.s)
abbrev pub instruction_by_another : List ClassT
instruction_by_another =
    making_app (has "b" (plain "b") ∷ []) (make_by "b" "go" [] ∷ show (dot (the "b") "s") ∷ []) ∷ set_by_make ∷ []

-- local s: STRING do create {ANY} s print (s.count)
abbrev pub instruction_of_unfit : List ClassT
instruction_of_unfit =
    making_app (has "s" (plain "string") ∷ []) (make_as (plain "any") "s" ∷ show (dot (the "s") "count") ∷ []) ∷ []

-- f do print (create {G}) end
abbrev pub expression_of_formal : List ClassT
expression_of_formal = of_integer (does "f" (show (new (plain "g")) ∷ []))

-- print (create {B})
abbrev pub expression_of_deferred : List ClassT
expression_of_deferred = making_app [] (show (new (plain "b")) ∷ []) ∷ marked_deferred (class "b" []) ∷ []

-- print (create {INTEGER})
abbrev pub expression_of_basic : List ClassT
expression_of_basic = making_app [] (show (new (plain "integer")) ∷ []) ∷ []

-- print ((create {B}.go).s)
abbrev pub expression_by_another : List ClassT
expression_by_another = making_app [] (show (dot (new_by (plain "b") "go" []) "s") ∷ []) ∷ set_by_make ∷ []

pub record CreationNeeded : Type 0 where
  pub instruction_of_formal : IsNeeded code.Vgci 1 no_feature instruction_of_formal
  pub instruction_of_deferred : IsNeeded code.Vgci 2 no_feature instruction_of_deferred
  pub instruction_of_basic : IsNeeded code.Vgci 3 no_feature instruction_of_basic
  pub instruction_by_another : IsNeeded code.Vgci 4 unset instruction_by_another
  pub instruction_of_unfit : IsNeeded code.Vgci 5 no_feature instruction_of_unfit
  pub expression_of_formal : IsNeeded code.Vgce 1 no_feature expression_of_formal
  pub expression_of_deferred : IsNeeded code.Vgce 2 no_feature expression_of_deferred
  pub expression_of_basic : IsNeeded code.Vgce 3 no_feature expression_of_basic
  pub expression_by_another : IsNeeded code.Vgce 4 unset expression_by_another

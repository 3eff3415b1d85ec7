-- The rules of features and of derivations that soundness rests on.
use Rattle.std.specs.Prelude.{pos, [], ◌∷◌, List, Some, None}
use Rattle.eif_base.specs.declared.code.Code.TheVariants as code
use Rattle.eif_tree.specs.declared.tree.Literal.TheVariants as lit
use Rattle.eif_tree.specs.Tree.{ClassT}
use Rattle.eif_meaning.specs.BodyTexts.{plain, generic, number, the, dot, dot_with, perform, show, make, make_by}
use Rattle.eif_meaning.specs.RunSystems.{has, fixed, later, does, does_with, parent, renaming, class, heir, marked_deferred, formal, over, app, making}
use Rattle.eif_meaning.specs.Values.{no_feature}
use Rattle.eif_needed_rules.specs.NeededRules.{IsNeeded, created, undefining, parent_of, making_app, through}
use Rattle.eif_needed_rules.specs.SignaturesNeeded.{sets_field, function}

-- class A create make feature f: STRING .. end, class C feature f: STRING do .. end end,
-- class B inherit A undefine f end C create make end: create b.make
abbrev pub undefined_attribute : List ClassT
undefined_attribute =
    making_app (has "b" (plain "b") ∷ []) (make_by "b" "make" [] ∷ [])
    ∷ sets_field
    ∷ class "c" (function ∷ [])
    ∷ heir (undefining "f" (parent "a") ∷ parent "c" ∷ []) (created "make" (class "b" []))
    ∷ []

-- class A feature f do end end, class C feature f do end end, class B inherit A C end: x.f
abbrev pub clashing_names : List ClassT
clashing_names =
    through "b" "b" (perform (dot (the "x") "f") ∷ [])
    ∷ class "a" (does "f" [] ∷ [])
    ∷ class "c" (does "f" [] ∷ [])
    ∷ heir (parent "a" ∷ parent "c" ∷ []) (class "b" [])
    ∷ []

-- class A feature f do end end, class C inherit A rename f as g end end, class B inherit A C end: x.f
abbrev pub undecided_version : List ClassT
undecided_version =
    through "a" "b" (perform (dot (the "x") "f") ∷ [])
    ∷ class "a" (does "f" [] ∷ [])
    ∷ heir (renaming "f" "g" (parent "a") ∷ []) (class "c" [])
    ∷ heir (parent "a" ∷ parent "c" ∷ []) (class "b" [])
    ∷ []

-- deferred class A feature f deferred end end, class B inherit A end: x.f
abbrev pub deferred_name : List ClassT
deferred_name =
    through "a" "b" (perform (dot (the "x") "f") ∷ [])
    ∷ marked_deferred (class "a" (later "f" ∷ []))
    ∷ heir (parent "a" ∷ []) (class "b" [])
    ∷ []

-- print (c.count), where c: STRING = 1
abbrev pub wrong_constant : List ClassT
wrong_constant =
    app (making [] (show (dot (the "c") "count") ∷ []) ∷ fixed "c" (plain "string") (lit.Int (pos 1)) ∷ []) ∷ []

-- class A [G] feature f (i: G) do print (i) end end, class B inherit A [INTEGER] A [STRING] end: x.f (1)
abbrev pub two_actuals : List ClassT
two_actuals =
    through "b" "b" (perform (dot_with (the "x") "f" (number 1 ∷ [])) ∷ [])
    ∷ over (formal "g" None ∷ []) (class "a" (does_with "f" (has "i" (plain "g") ∷ []) [] (show (the "i") ∷ []) ∷ []))
    ∷ heir (parent_of "a" (plain "integer") ∷ parent_of "a" (plain "string") ∷ []) (class "b" [])
    ∷ []

-- class B [G -> STRING] feature f (i: G) do print (i.count) end end: local b: B [INTEGER] do create b b.f (1)
abbrev pub wrong_actual : List ClassT
wrong_actual =
    making_app (has "b" (generic "b" (plain "integer" ∷ [])) ∷ [])
    (make "b" ∷ perform (dot_with (the "b") "f" (number 1 ∷ [])) ∷ [])
    ∷ over (formal "g" (Some (plain "string")) ∷ [])
    (class "b" (does_with "f" (has "i" (plain "g") ∷ []) [] (show (dot (the "i") "count") ∷ []) ∷ []))
    ∷ []

pub record FeaturesNeeded : Type 0 where
  pub undefined_attribute : IsNeeded code.Vdus 3 no_feature undefined_attribute
  pub clashing_names : IsNeeded code.Vmfn 3 no_feature clashing_names
  pub undecided_version : IsNeeded code.Vmrc 1 no_feature undecided_version
  pub deferred_name : IsNeeded code.Vcch 1 no_feature deferred_name
  pub wrong_constant : IsNeeded code.Vffd 1 no_feature wrong_constant
  pub two_actuals : IsNeeded code.Xanc 1 no_feature two_actuals
  pub wrong_actual : IsNeeded code.Xgen 2 no_feature wrong_actual

-- The rules of the locals of object tests.
use Rattle.std.specs.Prelude.{[], ◌∷◌, List}
use Rattle.eif_base.specs.declared.code.Code.TheVariants as code
use Rattle.eif_tree.specs.declared.tree.Op.TheVariants as op
use Rattle.eif_tree.specs.Tree.{ClassT}
use Rattle.eif_meaning.specs.BodyTexts.{plain, maybe, number, text, nobody, the, dot, is_there, two, set, show, make, when}
use Rattle.eif_meaning.specs.RunSystems.{has}
use Rattle.eif_meaning.specs.Values.{no_feature}
use Rattle.eif_needed_rules.specs.NeededRules.{IsNeeded, making_app}

-- local x: detachable ANY do if attached 1 as x then else end x := Void
abbrev pub named_like_a_local : List ClassT
named_like_a_local =
    making_app (has "x" (maybe "any") ∷ []) (when (is_there "x" (number 1)) [] [] ∷ set "x" nobody ∷ []) ∷ []

-- local x: ANY do create x
-- if attached "a" as y and attached x as y then print (y.count) else end
abbrev pub named_twice : List ClassT
named_twice =
    making_app (has "x" (plain "any") ∷ [])
    (make "x"
    ∷ when (two op.And (is_there "y" (text "a")) (is_there "y" (the "x"))) (show (dot (the "y") "count") ∷ []) []
    ∷ [])
    ∷ []

pub record TestsNeeded : Type 0 where
  pub named_like_a_local : IsNeeded code.Vuot 1 no_feature named_like_a_local
  pub named_twice : IsNeeded code.Vuot 2 no_feature named_twice

-- The rules of names, calls, targets, operands and conditions in bodies. Above each system stands what is in `make` of
-- APP, or the classes.
use Rattle.std.specs.Prelude.{true, [], ◌∷◌, List}
use Rattle.eif_base.specs.declared.code.Code.TheVariants as code
use Rattle.eif_tree.specs.declared.tree.Op.TheVariants as op
use Rattle.eif_tree.specs.Tree.{ClassT}
use Rattle.eif_meaning.specs.BodyTexts.{plain, maybe, number, truth, answer, the, apply, dot, two, parents_own, set, perform, show, make, when}
use Rattle.eif_meaning.specs.RunSystems.{has, does, does_with, app, making}
use Rattle.eif_meaning.specs.Values.{void_target, no_feature, not_boolean}
use Rattle.eif_needed_rules.specs.NeededRules.{IsNeeded, making_app}

-- Precursor
abbrev pub own_precursor : List ClassT
own_precursor = making_app [] (perform parents_own ∷ []) ∷ []

-- nope
abbrev pub unknown_name : List ClassT
unknown_name = making_app [] (perform (the "nope") ∷ []) ∷ []

-- print (Result)
abbrev pub hidden_result : List ClassT
hidden_result = making_app [] (show answer ∷ []) ∷ []

-- make := 1
abbrev pub assigned_routine : List ClassT
assigned_routine = making_app [] (set "make" (number 1) ∷ []) ∷ []

-- local s: STRING do s := 1 print (s.count)
abbrev pub unfit_source : List ClassT
unfit_source =
    making_app (has "s" (plain "string") ∷ []) (set "s" (number 1) ∷ show (dot (the "s") "count") ∷ []) ∷ []

-- local x: detachable ANY do print (x.out)
abbrev pub target_may_be_void : List ClassT
target_may_be_void = making_app (has "x" (maybe "any") ∷ []) (show (dot (the "x") "out") ∷ []) ∷ []

-- local x: ANY do create x x.nope
abbrev pub unknown_feature : List ClassT
unknown_feature = making_app (has "x" (plain "any") ∷ []) (make "x" ∷ perform (dot (the "x") "nope") ∷ []) ∷ []

-- print
abbrev pub missing_argument : List ClassT
missing_argument = making_app [] (perform (the "print") ∷ []) ∷ []

-- f (1), where f (s: STRING) do print (s.count) end
abbrev pub unfit_argument : List ClassT
unfit_argument =
    app (making [] (perform (apply "f" (number 1 ∷ [])) ∷ [])
    ∷ does_with "f" (has "s" (plain "string") ∷ []) [] (show (dot (the "s") "count") ∷ []) ∷ []) ∷ []

-- print (1 + True)
abbrev pub unfit_operand : List ClassT
unfit_operand = making_app [] (show (two op.Plus (number 1) (truth true)) ∷ []) ∷ []

-- print (f), where f do end
abbrev pub procedure_as_value : List ClassT
procedure_as_value = app (making [] (show (the "f") ∷ []) ∷ does "f" [] ∷ []) ∷ []

-- if 1 then else end
abbrev pub condition_of_integer : List ClassT
condition_of_integer = making_app [] (when (number 1) [] [] ∷ []) ∷ []

pub record CallsNeeded : Type 0 where
  pub own_precursor : IsNeeded code.Vdpr 1 no_feature own_precursor
  pub unknown_name : IsNeeded code.Veen 1 no_feature unknown_name
  pub hidden_result : IsNeeded code.Veen 2 no_feature hidden_result
  pub assigned_routine : IsNeeded code.Vbar 1 no_feature assigned_routine
  pub unfit_source : IsNeeded code.Vbar 2 no_feature unfit_source
  pub target_may_be_void : IsNeeded code.Vuta 1 void_target target_may_be_void
  pub unknown_feature : IsNeeded code.Vuex 1 no_feature unknown_feature
  pub missing_argument : IsNeeded code.Vuar 1 no_feature missing_argument
  pub unfit_argument : IsNeeded code.Vuar 2 no_feature unfit_argument
  pub unfit_operand : IsNeeded code.Xopr 1 no_feature unfit_operand
  pub procedure_as_value : IsNeeded code.Xuse 1 no_feature procedure_as_value
  pub condition_of_integer : IsNeeded code.Vwbe 1 not_boolean condition_of_integer

-- Types as plain data.
use Rattle.std.specs.Prelude.{List, [], ◌∷◌, map}
use Rattle.eif_classes.specs.Types.{TyT, class_type, formal_type, none_type, Actuals, no_actuals, and_actual}
use Rattle.eif_type_forms.specs.declared.ty.Ty.{Ty, Ty-F, fold-Ty}

-- types in their order
abbrev pub actuals_from : List TyT → Actuals
actuals_from [] = no_actuals
actuals_from (t ∷ ts) = and_actual t (actuals_from ts)

-- a type whose actuals are viewed already
abbrev pub ty_step : Ty-F TyT → TyT
ty_step (Ty-F.Class k m ts) = class_type k.0 m (actuals_from ts.items)
ty_step (Ty-F.Formal i m) = formal_type i m
ty_step Ty-F.Nothing = none_type

abbrev pub ty_view : Ty → TyT
ty_view = fold-Ty TyT ty_step

abbrev pub actuals_view : List Ty → Actuals
actuals_view ts = actuals_from (map ty_view ts)

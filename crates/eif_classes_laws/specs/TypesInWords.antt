-- Types in a few words, and a class with formals for them.
use Rattle.std.specs.Prelude.{ℕ, List, [], ◌∷◌}
use Rattle.eif_tree.specs.declared.tree.Mark.TheVariants.{Plain, Attached, Detachable}
use Rattle.eif_classes.specs.KernelNumbers.{any_number, integer_number, string_number, array_number}
use Rattle.eif_classes.specs.Types.{TyT, class_type, formal_type, Actuals, no_actuals, and_actual}

abbrev pub actuals : List TyT → Actuals
actuals [] = no_actuals
actuals (t ∷ ts) = and_actual t (actuals ts)

-- K, of the class with that number
abbrev pub attached : ℕ → TyT
attached k = class_type k Attached no_actuals

-- detachable K
abbrev pub detachable : ℕ → TyT
detachable k = class_type k Detachable no_actuals

-- K [T]
abbrev pub applied : ℕ → TyT → TyT
applied k t = class_type k Attached (actuals (t ∷ []))

-- K [R, S, T]
abbrev pub applied_to_three : ℕ → TyT → TyT → TyT → TyT
applied_to_three k r s t = class_type k Attached (actuals (r ∷ s ∷ t ∷ []))

-- detachable K [T]
abbrev pub applied_or_void : ℕ → TyT → TyT
applied_or_void k t = class_type k Detachable (actuals (t ∷ []))

-- the formal in that place: G, attached G, detachable G
abbrev pub plain_formal : ℕ → TyT
plain_formal i = formal_type i Plain

abbrev pub attached_formal : ℕ → TyT
attached_formal i = formal_type i Attached

abbrev pub detachable_formal : ℕ → TyT
detachable_formal i = formal_type i Detachable

abbrev pub any : TyT
any = attached any_number

abbrev pub integer : TyT
integer = attached integer_number

abbrev pub string : TyT
string = attached string_number

abbrev pub string_or_void : TyT
string_or_void = detachable string_number

abbrev pub array : TyT → TyT
array t = applied array_number t

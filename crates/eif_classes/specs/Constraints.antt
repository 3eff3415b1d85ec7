-- What a class knows of its types: the constraints of formals, base classes, which types are attached.
use Rattle.std.specs.Prelude.{ℕ, Bool, false, List, Option, Some, None, slice_get}
use Rattle.std.specs.Option.{option_map, option_map_or, option_and_then}
use Rattle.eif_tree.specs.declared.tree.Mark.TheVariants.{Plain, Attached, Detachable}
use Rattle.eif_tree.specs.Tree.{FormalT, ClassT}
use Rattle.eif_classes.specs.KernelNumbers.{any_number}
use Rattle.eif_classes.specs.Resolution.{resolved}
use Rattle.eif_classes.specs.Types.{TyT, class_type, formal_type, none_type, no_actuals, same_mark}

-- a formal without a constraint has the constraint detachable ANY
abbrev pub detachable_any : TyT
detachable_any = class_type any_number Detachable no_actuals

-- the constraint of a formal of the class c
abbrev pub formal_constraint : List ClassT → ClassT → FormalT → TyT
formal_constraint u c f = option_map_or (resolved u c) f.constraint detachable_any

-- of the formal in that place of the class d; none where there is no such formal
abbrev pub constraint : List ClassT → ℕ → ℕ → Option TyT
constraint u d i =
    option_and_then (λ c. option_map (formal_constraint u c) (slice_get c.formals i)) (slice_get u d)

-- a class type itself, and a formal's constraint
abbrev pub base_type : List ClassT → ℕ → TyT → Option TyT
base_type u d (class_type k m ts) = Some (class_type k m ts)
base_type u d (formal_type i m) = constraint u d i
base_type u d none_type = None

-- the class of a class type
abbrev pub class_in : TyT → Option ℕ
class_in (class_type k m ts) = Some k
class_in _ = None

-- the class of a type of the class d, or of its constraint
abbrev pub base_class : List ClassT → ℕ → TyT → Option ℕ
base_class u d t = option_and_then class_in (base_type u d t)

-- a class type with the mark attached
abbrev pub is_attached_class : TyT → Bool
is_attached_class (class_type k m ts) = same_mark m Attached
is_attached_class _ = false

-- a type of the class d has the mark attached, or is a plain formal with an attached constraint
abbrev pub is_attached : List ClassT → ℕ → TyT → Bool
is_attached u d (formal_type i Plain) = option_map_or is_attached_class (constraint u d i) false
is_attached u d (formal_type i m) = same_mark m Attached
is_attached u d t = is_attached_class t

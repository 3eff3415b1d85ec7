-- Conformance.
use Rattle.std.specs.Prelude.{ℕ, ◌==◌, Bool, true, false, ◌&&◌, List, Option, Some, None, is_some}
use Rattle.std.specs.Option.{option_map_or}
use Rattle.eif_tree.specs.declared.tree.Mark.{Mark}
use Rattle.eif_tree.specs.declared.tree.Mark.TheVariants.{Plain, Attached, Detachable}
use Rattle.eif_tree.specs.Tree.{ClassT}
use Rattle.eif_classes.specs.Ancestry.{ancestor}
use Rattle.eif_classes.specs.Constraints.{constraint}
use Rattle.eif_classes.specs.Types.{TyT, class_type, formal_type, none_type, Actuals, same_mark, marked, put_in_all, same_actuals}

-- attached, plain, detachable: each for itself and for the later ones. Of class types, which are never plain, so: the
-- second is detachable or the first is attached
abbrev pub mark_conforms : Mark → Mark → Bool
mark_conforms Attached n = true
mark_conforms Plain Attached = false
mark_conforms Plain n = true
mark_conforms Detachable n = same_mark n Detachable

-- an ancestor's actuals, with xs put in them, are ys
abbrev pub gives : Option Actuals → Actuals → Actuals → Bool
gives None xs ys = false
gives (Some ts) xs ys = same_actuals (put_in_all xs ts) ys

-- between class types
abbrev pub class_conforms : (ℕ → ℕ → Option Actuals) → TyT → TyT → Bool
class_conforms ancestors (class_type k m xs) (class_type j n ys) =
    mark_conforms m n && gives (ancestors k j) xs ys
class_conforms ancestors _ _ = false

-- by the actuals of ancestors and the constraints of the formals of the class in which both types stand: class
-- types; one formal of the class; a formal by its constraint with the formal's mark; NONE to what is detachable
abbrev pub conforms_by : (ℕ → ℕ → Option Actuals) → (ℕ → Option TyT) → TyT → TyT → Bool
conforms_by ancestors constraints (class_type k m xs) b = class_conforms ancestors (class_type k m xs) b
conforms_by ancestors constraints (formal_type i m) (formal_type j n) =
    is_some (constraints i) && ((i == j) && mark_conforms m n)
conforms_by ancestors constraints (formal_type i m) none_type = false
conforms_by ancestors constraints (formal_type i m) b =
    option_map_or (λ t. class_conforms ancestors (marked m t) b) (constraints i) false
conforms_by ancestors constraints none_type (class_type j n ys) = same_mark n Detachable
conforms_by ancestors constraints none_type (formal_type j n) =
    is_some (constraints j) && same_mark n Detachable
conforms_by ancestors constraints none_type none_type = false

-- a conforms to b in the class d
abbrev pub conforms : List ClassT → ℕ → TyT → TyT → Bool
conforms u d a b = conforms_by (ancestor u) (constraint u d) a b

-- between types without formals
abbrev pub closed_conforms : List ClassT → TyT → TyT → Bool
closed_conforms u a b = conforms_by (ancestor u) (λ i. None) a b

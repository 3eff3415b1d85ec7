-- What a mark does to a type.
use Rattle.std.proofs.Common.{◌≡◌, refl}
use Rattle.eif_tree.specs.declared.tree.Mark.{Mark}
use Rattle.eif_tree.specs.declared.tree.Mark.TheVariants.{Plain, Attached, Detachable}
use Rattle.eif_classes.specs.Types.{TyT, class_type, formal_type, none_type, marked, name_count}

-- NONE has no mark
pub marked_none : (m : Mark) → marked m none_type ≡ none_type
marked_none Plain = refl
marked_none Attached = refl
marked_none Detachable = refl

-- a mark is no name
pub count_marked : (m : Mark) (t : TyT) → name_count (marked m t) ≡ name_count t
count_marked Plain t = refl
count_marked Attached (class_type k n ts) = refl
count_marked Attached (formal_type i n) = refl
count_marked Attached none_type = refl
count_marked Detachable (class_type k n ts) = refl
count_marked Detachable (formal_type i n) = refl
count_marked Detachable none_type = refl

-- The types that a class text writes.
use Rattle.std.specs.Prelude.{ℕ, List, length, Option, Some, None}
use Rattle.std.specs.List.{position_from}
use Rattle.std.specs.Str.{bytes_eq}
use Rattle.eif_tree.specs.declared.tree.Mark.{Mark}
use Rattle.eif_tree.specs.declared.tree.Mark.TheVariants.{Plain, Attached}
use Rattle.eif_tree.specs.Tree.{TypeT, type_at, Types, no_types, and_type, ParentT, ClassT}
use Rattle.eif_classes.specs.Types.{TyT, class_type, formal_type, none_type, Actuals, no_actuals, and_actual, formals_from}
use Rattle.eif_system.specs.Universe.{class_number}

-- the place of a name among the formals of the class, from 0
abbrev pub formal_number : ClassT → List ℕ → Option ℕ
formal_number c n = position_from (λ f. bytes_eq f.name n) 0 c.formals

-- a class type is attached where no mark is written
abbrev pub class_mark : Mark → Mark
class_mark Plain = Attached
class_mark m = m

-- a class type, or NONE where there is no class
abbrev pub type_of_class : Option ℕ → Mark → Actuals → TyT
type_of_class None m ts = none_type
type_of_class (Some k) m ts = class_type k (class_mark m) ts

-- the formal where there is one, which hides the class of its name, and else the class
abbrev pub type_denoted : Option ℕ → Option ℕ → Mark → Actuals → TyT
type_denoted (Some i) k m ts = formal_type i m
type_denoted None k m ts = type_of_class k m ts

abbrev mutual
  -- what a type means in the class c; NONE where its name is that of no formal and no class
  pub resolved : List ClassT → ClassT → TypeT → TyT
  resolved u c (type_at p q m n ts) =
      type_denoted (formal_number c n) (class_number u n) m (all_resolved u c ts)

  -- of types in their order
  pub all_resolved : List ClassT → ClassT → Types → Actuals
  all_resolved u c no_types = no_actuals
  all_resolved u c (and_type t ts) = and_actual (resolved u c t) (all_resolved u c ts)

-- the formals of a class, plain
abbrev pub own_formals : ClassT → Actuals
own_formals c = formals_from 0 (length c.formals)

-- the type of the current object in the class c, which has the number d
abbrev pub own_type : ℕ → ClassT → TyT
own_type d c = class_type d Attached (own_formals c)

-- the actuals of a class type
abbrev pub actuals_in : TyT → Actuals
actuals_in (class_type k m ts) = ts
actuals_in _ = no_actuals

-- the actuals that a clause of the class c gives to the parent
abbrev pub clause_actuals : List ClassT → ClassT → ParentT → Actuals
clause_actuals u c p = actuals_in (resolved u c p.parent)

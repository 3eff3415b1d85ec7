-- The types of a universe: what classes give their ancestors, and the constraints of their formals.
use Rattle.std.specs.Prelude.{◌≡◌, ◌<◌, ⊤, List, length, map}
use Rattle.eif_base.specs.declared.class_id.ClassId.{ClassId}
use Rattle.eif_base.specs.declared.fault.Fault.{Fault}
use Rattle.eif_classes.specs.Constraints.{formal_constraint}
use Rattle.eif_classes.specs.Types.{TyT}
use Rattle.eif_derivations.specs.Filled.{AreDerivations}
use Rattle.eif_rows.specs.Systems.{IsSystem}
use Rattle.eif_tree.specs.Tree.{ClassT}
use Rattle.eif_type_forms.specs.View.{ty_view}
use Rattle.eif_type_laws.specs.ClassTypes.{Defined}
use Rattle.eif_types.specs.declared.build.TypeError.{TypeError}
use Rattle.eif_types.specs.declared.build.TypeError.TheVariants as error
use Rattle.eif_types.specs.declared.types.Types.{Types}
use Rattle.eif_universe.specs.Refusals.{Lists}

-- the constraints of the formals of a class, in their order
abbrev pub constraints_of : List ClassT → ClassT → List TyT
constraints_of u c = map (formal_constraint u c) c.formals

-- those of each class
abbrev pub constraint_lists : Types → List (List TyT)
constraint_lists t = map (λ v. map ty_view v.items) t.constraints.items

-- the universe breaks no rule of the universe, and these are its types
pub record AreTypesOf (u : List ClassT) (t : Types) : Type 0 where
  pub system : IsSystem u
  pub derivations_are : AreDerivations u t.derivations
  pub constraints_are : constraint_lists t ≡ map (constraints_of u) u

-- and what each class gives each of its ancestors is defined
pub record AreTypes (u : List ClassT) (t : Types) : Type 0 where
  pub are : AreTypesOf u t
  pub defined : Defined u

-- the types have the class
abbrev pub HasClass : Types → ClassId → Type 0
HasClass t c = c.0 < length t.constraints.items

-- an error of faults has exactly those with broken, of which there are some
abbrev pub IsErrorOf : (Fault → Type 0) → TypeError → Type 0
IsErrorOf broken (error.Faults list) = Lists list broken
IsErrorOf broken error.Memory = ⊤

-- The rules of derivations: what a class gives the formals of its ancestors, and the actuals that it writes.
use Rattle.std.specs.Prelude.{ℕ, Bool, false, not, ◌&&◌, if◌then◌else◌, List, [], ◌∷◌, ◌++◌, flat_map, Option, None, is_some, slice_get}
use Rattle.std.specs.List.{find, list_all, list_any, zip}
use Rattle.std.specs.Option.{option_map, option_map_or, option_and_then, option_to_list}
use Rattle.eif_base.specs.declared.code.Code.{Code}
use Rattle.eif_base.specs.declared.code.Code.TheVariants as code
use Rattle.eif_base.specs.declared.fault.Fault.{Fault}
use Rattle.eif_tree.specs.Tree.{TypeT, FormalT, ClassT}
use Rattle.eif_classes.specs.Ancestry.{Way, are_alike, is_small, ways}
use Rattle.eif_classes.specs.Conformance.{conforms}
use Rattle.eif_classes.specs.Constraints.{formal_constraint}
use Rattle.eif_classes.specs.Descent.{above}
use Rattle.eif_system.specs.Lineage.{Line, line, cut}
use Rattle.eif_classes.specs.Resolution.{resolved}
use Rattle.eif_system.specs.Universe.{class_denoted}
use Rattle.eif_system.specs.WrittenTypes.{written_types, nested, actuals, type_name, type_place}
use Rattle.eif_rules.specs.FaultForms.{fault_at, fault_in, fault_where}

-- ---- the actuals of an ancestor

-- every parent's are defined
abbrev pub are_defined : List Way → Bool
are_defined ws = list_all (λ w. is_some w.actuals) ws

-- the class type with these actuals has too many names
abbrev pub is_large : Way → Bool
is_large w = option_map_or (λ xs. not (is_small xs)) w.actuals false

-- the first way whose actuals aren't those of the first one
abbrev pub differing : List Way → Option Way
differing [] = None
differing (w ∷ ws) = find (λ v. not (are_alike w.actuals v.actuals)) ws

-- a fault at the parent type of a clause, about the ancestor with that name
abbrev pub fault_at_way : ClassT → Code → ℕ → List ℕ → Way → Fault
fault_at_way c code case ancestor w = fault_at c code case (type_place w.clause.parent) ancestor

-- XLIM.6: every parent's derivation of the ancestor is defined, and its class type by some clause has too many names
abbrev pub large_derivation : ClassT → List ℕ → List Way → List Fault
large_derivation c ancestor ws =
    if are_defined ws then option_to_list (option_map (fault_at_way c code.Xlim 6 ancestor) (find is_large ws)) else []

-- XANC.1: every parent's derivation of the ancestor is defined, none by a clause is too large, and two differ
abbrev pub differing_derivation : ClassT → List ℕ → List Way → List Fault
differing_derivation c ancestor ws =
    if are_defined ws && not (list_any is_large ws)
    then option_to_list (option_map (fault_at_way c code.Xanc 1 ancestor) (differing ws))
    else []

-- of one ancestor by these ways
abbrev pub ancestor_faults : ClassT → List ℕ → List Way → List Fault
ancestor_faults c ancestor ws = large_derivation c ancestor ws ++ differing_derivation c ancestor ws

-- the name of the class with that number
abbrev pub name_of : List ClassT → ℕ → List ℕ
name_of u k = option_map_or (λ a. a.name) (slice_get u k) []

-- of each proper ancestor
abbrev pub derivation_faults : List ClassT → Line → List Fault
derivation_faults u (line d c ups) =
    flat_map (λ k. ancestor_faults c (name_of u k) (ways u c ups k)) (above (line d c ups))
derivation_faults u cut = []

-- ---- the actuals of a written type

-- XGEN.2: an actual of a type that the class c writes doesn't conform to the constraint of the class a on its formal;
-- feature is the declaration in which it stands, empty in none
abbrev pub wrong_actual : List ClassT → ℕ → ClassT → List ℕ → ClassT → TypeT → FormalT → List Fault
wrong_actual u d c feature a t formal =
    fault_where (not (conforms u d (resolved u c t) (formal_constraint u a formal)))
    (fault_in c feature code.Xgen 2 (type_place t) formal.name)

-- the class that a type names
abbrev pub class_named : List ClassT → ClassT → TypeT → Option ClassT
class_named u c t = option_and_then (slice_get u) (class_denoted u c (type_name t))

-- of the actuals of a type that names the class a
abbrev pub actual_faults_by : List ClassT → ℕ → ClassT → List ℕ → TypeT → ClassT → List Fault
actual_faults_by u d c feature t a = flat_map (λ x. wrong_actual u d c feature a x.0 x.1) (zip (actuals t) a.formals)

-- where the type names a class
abbrev pub actual_faults : List ClassT → ℕ → ClassT → List ℕ → TypeT → List Fault
actual_faults u d c feature t = option_map_or (actual_faults_by u d c feature t) (class_named u c t) []

-- of each type in each type that the class c, which has the number d, writes
abbrev pub written_actual_faults : List ClassT → ℕ → ClassT → List Fault
written_actual_faults u d c =
    flat_map (λ w. flat_map (actual_faults u d c w.feature) (nested w.type_tree)) (written_types c)

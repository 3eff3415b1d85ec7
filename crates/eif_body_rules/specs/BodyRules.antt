-- The rules of bodies, by declaration and class: arguments and locals, assertions, the body, the class invariant. The
-- kernel's classes are not judged.
use Rattle.std.specs.Prelude.{ℕ, not, ◌&&◌, List, [], ◌∷◌, ◌++◌, flat_map, take, Option, None, slice_get}
use Rattle.std.specs.List.{enumerate_from}
use Rattle.std.specs.Option.{option_map, option_map_or}
use Rattle.eif_base.specs.Appends.{In}
use Rattle.eif_base.specs.declared.code.Code.TheVariants as code
use Rattle.eif_base.specs.declared.fault.Fault.{Fault}
use Rattle.eif_base.specs.Numbering.{is_among}
use Rattle.eif_tree.specs.declared.tree.NameAt.{NameAt}
use Rattle.eif_tree.specs.Members.{declarations, result_name}
use Rattle.eif_tree.specs.Tree.{Inss, KindT, routine, DeclT, ClassT}
use Rattle.eif_system.specs.Kernel.{kernel_count}
use Rattle.eif_system.specs.Lineage.{line_of}
use Rattle.eif_classes.specs.Resolution.{resolved}
use Rattle.eif_classes.specs.Types.{TyT, is_self_initialising}
use Rattle.eif_system.specs.Universe.{universe}
use Rattle.eif_system.specs.WrittenTypes.{feature_name, invariant_name}
use Rattle.eif_rules.specs.FaultForms.{fault_where}
use Rattle.eif_body_rules.specs.EntityRules.{arguments_of, locals_of, entity_faults}
use Rattle.eif_body_rules.specs.InstructionFaults.{assertion_faults, compound_faults}
use Rattle.eif_body_rules.specs.LocalFlow.{set_after_all}
use Rattle.eif_body_rules.specs.Settings.{Setting, Entity, fault}

-- ---- where the parts of the class c, which has the number d, stand

-- the class invariant: no argument, no local and no Result is visible
abbrev pub in_invariant : List ClassT → ℕ → ClassT → Setting
in_invariant u d c = record {
  universe = u;
  number = d;
  text = c;
  line = line_of u d;
  feature = invariant_name;
  declared = None;
  entities = [];
  result = None;
}

-- in a declaration, where these arguments and locals are visible, and Result if it has a type
abbrev pub in_declaration : List ClassT → ℕ → ClassT → DeclT → List Entity → Option TyT → Setting
in_declaration u d c x entities result = record (in_invariant u d c) {
  feature = feature_name x.names;
  declared = option_map (λ n. n.name) (slice_get x.names 0);
  entities = entities;
  result = result;
}

abbrev pub result_of : List ClassT → ClassT → DeclT → Option TyT
result_of u c x = option_map (resolved u c) x.result_type

-- arguments alone
abbrev pub in_precondition : List ClassT → ℕ → ClassT → DeclT → Setting
in_precondition u d c x = in_declaration u d c x (arguments_of u c x) None

-- arguments, locals and Result
abbrev pub in_body : List ClassT → ℕ → ClassT → DeclT → Setting
in_body u d c x = in_declaration u d c x (arguments_of u c x ++ locals_of u c x) (result_of u c x)

-- arguments and Result
abbrev pub in_postcondition : List ClassT → ℕ → ClassT → DeclT → Setting
in_postcondition u d c x = in_declaration u d c x (arguments_of u c x) (result_of u c x)

-- ---- declarations

-- VEVI.2: Result, of that type, isn't surely set at the end of a body, whatever else is broken; told at the declared
-- name
abbrev pub unset_at_end : Setting → Inss → TyT → NameAt → List Fault
unset_at_end s body t n =
    fault_where (not (is_self_initialising t) && not (is_among (set_after_all [] body) result_name))
    (fault s code.Vevi 2 n.place result_name)

abbrev pub unset_result : Setting → List NameAt → Inss → TyT → List Fault
unset_result s names body t = flat_map (unset_at_end s body t) (take 1 names)

-- of a routine's body; nothing is known and nothing is set where it starts
abbrev pub routine_faults : Setting → List NameAt → KindT → List Fault
routine_faults s names (routine locals body) =
    compound_faults s [] [] body ++ option_map_or (unset_result s names body) s.result []
routine_faults s names _ = []

-- of all parts of a declaration; Result is set in the postcondition
abbrev pub declaration_faults : List ClassT → ℕ → ClassT → DeclT → List Fault
declaration_faults u d c x =
    entity_faults (in_body u d c x)
    ++ assertion_faults (in_precondition u d c x) [] [] x.preconditions
    ++ routine_faults (in_body u d c x) x.names x.kind
    ++ assertion_faults (in_postcondition u d c x) [] (result_name ∷ []) x.postconditions

-- ---- classes

abbrev pub invariant_faults : List ClassT → ℕ → ClassT → List Fault
invariant_faults u d c = assertion_faults (in_invariant u d c) [] [] c.invariants

-- of the class c, which has the number d
abbrev pub class_body_faults : List ClassT → ℕ → ClassT → List Fault
class_body_faults u d c = flat_map (declaration_faults u d c) (declarations c) ++ invariant_faults u d c

abbrev pub numbered_body_faults : List ClassT → ℕ × ClassT → List Fault
numbered_body_faults u x = class_body_faults u x.0 x.1

-- of given classes
abbrev pub body_faults : List ClassT → List Fault
body_faults given = flat_map (numbered_body_faults (universe given)) (enumerate_from kernel_count given)

-- a fault of one class, as a set
abbrev pub ClassBodiesBroken : List ClassT → ℕ → ClassT → Fault → Type 0
ClassBodiesBroken u d c = In (class_body_faults u d c)

-- of given classes
abbrev pub GivenBodiesBroken : List ClassT → Fault → Type 0
GivenBodiesBroken given = In (body_faults given)

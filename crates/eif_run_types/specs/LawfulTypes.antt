-- What runs ask of types, in a hierarchy whose parent clauses are valid.
use Rattle.std.specs.Prelude.{ℕ, List}
use Rattle.eif_tree.specs.Tree.{ClassT}
use Rattle.eif_type_laws.specs.ClassTypes.{EachClause, IsValidClause, IsHierarchy, Defined}
use Rattle.eif_meaning.specs.System.{system_over}
use Rattle.eif_run_laws.specs.SystemLaws.{KernelLaws, TypeLaws}
use Rattle.eif_run_sound.specs.UniverseLaws.{OpenTypeLaws}

abbrev pub TypesAreLawful : Type 0
TypesAreLawful =
    (u : List ClassT) (order : List ℕ) → IsHierarchy u order → Defined u
    → EachClause u (IsValidClause u)
    → KernelLaws (system_over u) → TypeLaws (system_over u) × OpenTypeLaws u

-- The rule of replication: a body that stands under several names uses no feature that has several.
use Rattle.std.specs.Prelude.{ℕ, ◌==◌, Bool, false, ◌&&◌, if◌then◌else◌, List, [], flat_map, slice_get}
use Rattle.std.specs.List.{filter}
use Rattle.std.specs.Option.{option_map_or}
use Rattle.std.specs.Str.{bytes_eq}
use Rattle.eif_base.specs.declared.code.Code.TheVariants as code
use Rattle.eif_base.specs.declared.fault.Fault.{Fault}
use Rattle.eif_tree.specs.Tree.{ClassT}
use Rattle.eif_classes.specs.Binding.{reach}
use Rattle.eif_classes.specs.Entries.{Origin, declared_as}
use Rattle.eif_classes.specs.Features.{origin}
use Rattle.eif_system.specs.Lineage.{Line}
use Rattle.eif_classes.specs.Names.{are_several}
use Rattle.eif_rules.specs.FaultForms.{fault_at, fault_where}
use Rattle.eif_feature_rules.specs.NamesUsed.{names_used}
use Rattle.eif_feature_rules.specs.RuleForms.{DeclaredName, declared_here}

-- the origin is what the class k declares under the name m
abbrev pub is_version_of : ℕ → List ℕ → Origin → Bool
is_version_of k m (declared_as x) = (x.class_number == k) && bytes_eq x.name m
is_version_of k m _ = false

-- the names that k's feature m has in the class and whose origin is k's declaration of it
abbrev pub kept_names : Line → ℕ → List ℕ → List (List ℕ)
kept_names l k m = filter (λ n. option_map_or (is_version_of k m) (origin l n) false) (reach l k m)

-- k's feature x has two names in the class c
abbrev pub split_use : ClassT → Line → ℕ → List ℕ → List Fault
split_use c l k x = fault_where (are_several (reach l k x)) (fault_at c code.Xrep 1 c.place x)

-- XREP.1: two names of an ancestor's routine have its declaration there as their origin, and the declaration uses a
-- feature of that ancestor that has two names
abbrev pub replicated_body : ClassT → Line → ℕ → DeclaredName → List Fault
replicated_body c l k m =
    if are_several (kept_names l k m.name.name) then flat_map (split_use c l k) (names_used m.tree) else []

-- of all that the proper ancestor k declares
abbrev pub ancestor_body_faults : List ClassT → ClassT → Line → ℕ → List Fault
ancestor_body_faults u c l k =
    option_map_or (λ a. flat_map (replicated_body c l k) (declared_here a)) (slice_get u k) []

-- of the class c with these proper ancestors
abbrev pub replication_faults : List ClassT → ClassT → Line → List ℕ → List Fault
replication_faults u c l ancestors = flat_map (ancestor_body_faults u c l) ancestors

-- Laws of creators, in a system without a breach.
use Rattle.std.specs.Prelude.{◌≡◌, ℕ, ◌+◌, true, List, [], Some, None, slice_get}
use Rattle.eif_base.specs.declared.root.Root.{Root}
use Rattle.eif_classes.specs.Creators.{Creator, default_creator, creators}
use Rattle.eif_classes.specs.Signatures.{Signature, signature}
use Rattle.eif_feature_rules.specs.CreatorRules.{is_creator}
use Rattle.eif_rules.specs.UniverseRules.{root_number}
use Rattle.eif_system.specs.Kernel.{kernel_count}
use Rattle.eif_system.specs.Lineage.{Line, line_of}
use Rattle.eif_system.specs.Universe.{universe}
use Rattle.eif_tree.specs.Tree.{ClassT}
use Rattle.eif_binding_laws.specs.WellFormed.{IsWellFormed}

-- each creator is a name of the class without a result
abbrev pub CreatorsAreProcedures : Type 0
CreatorsAreProcedures =
    (given : List ClassT) (root : Root) → IsWellFormed given root → (d i : ℕ) (x : Creator) →
    slice_get (creators (line_of (universe given) d)) i ≡ Some x →
    (s : Signature) × (signature (universe given) (line_of (universe given) d) x.name ≡ Some s) × (s.result ≡ None)

-- each class has a name for ANY's `default_create`, without arguments and result
abbrev pub DefaultIsBound : Type 0
DefaultIsBound =
    (given : List ClassT) (root : Root) → IsWellFormed given root → (d : ℕ) (c : ClassT) →
    slice_get (universe given) d ≡ Some c →
    (n : List ℕ) × (default_creator (line_of (universe given) d) ≡ Some n)
    × (signature (universe given) (line_of (universe given) d) n ≡ Some (record { arguments = []; result = None }))

-- the name is a creator without arguments and result
abbrev pub IsPlainCreator : List ClassT → Line → List ℕ → Type 0
IsPlainCreator u l n =
    (is_creator l n ≡ true) × (signature u l n ≡ Some (record { arguments = []; result = None }))

-- the root procedure is such a creator of the root class
abbrev pub RootIsCreator : Type 0
RootIsCreator =
    (given : List ClassT) (root : Root) → IsWellFormed given root → (i : ℕ) → root_number given root ≡ Some i →
    IsPlainCreator (universe given) (line_of (universe given) (kernel_count + i)) root.procedure_name

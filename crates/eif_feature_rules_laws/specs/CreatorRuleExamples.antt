-- The rules of creators and of the root procedure: a class that breaks each of them, with exactly the faults of its
-- phase, and one that keeps it. Above each stands its class text, in file 0.
use Prim.Native.String.{String}
use Rattle.std.specs.Prelude.{◌≡◌, ℕ, List, [], ◌∷◌, codes}
use Rattle.eif_base.specs.declared.code.Code.{Code}
use Rattle.eif_base.specs.declared.code.Code.TheVariants as code
use Rattle.eif_base.specs.declared.fault.Fault.{Fault}
use Rattle.eif_tree.specs.Tree.{no_inss, ClassT}
use Rattle.eif_system.specs.TreeForms.{created_by, inline, procedure, with_features}
use Rattle.eif_rules.specs.FaultForms.{fault_at}
use Rattle.eif_feature_rules.specs.FeaturePhases.{signature_faults, each_given}
use Rattle.eif_feature_rules_laws.specs.PlacedClasses.{at, name, plain, group, command, query, parent, class, deferred_class, inherits, creates, declares}
use Rattle.eif_feature_rules_laws.specs.FoundFaults.{root}
use Rattle.eif_feature_rules_laws.specs.RedeclarationExamples.{phase}

-- class P create make feature make do end end
abbrev pub class_p : ClassT
class_p = record (class (inline 1 7) "p") {
  creators = created_by (name (inline 1 16) "make" ∷ []);
  features = with_features (procedure (name (inline 1 29) "make") no_inss ∷ []);
}

-- class B end
abbrev pub class_b : ClassT
class_b = class (at 7) "b"

-- a fault of the class B
abbrev pub fault_of_b : Code → ℕ → ℕ → String → Fault
fault_of_b code case column about = fault_at class_b code case (at column) (codes about)

-- deferred class B create make, go feature make do end go do end end
abbrev pub deferred_creation_b : ClassT
deferred_creation_b = record (deferred_class (at 16) "b") {
  creators = created_by (name (at 25) "make" ∷ name (at 31) "go" ∷ []);
  features = with_features (
      procedure (name (at 42) "make") no_inss
      ∷ procedure (name (at 54) "go") no_inss
      ∷ []);
}

-- deferred class B feature make do end end
abbrev pub deferred_without_creation_b : ClassT
deferred_without_creation_b = record (deferred_class (at 16) "b") {
  features = with_features (procedure (name (at 26) "make") no_inss ∷ []);
}

-- class B create make feature make: ANY do end end
abbrev pub creator_with_result_b : ClassT
creator_with_result_b = record class_b {
  creators = created_by (name (at 16) "make" ∷ []);
  features = with_features (query (at 29) "make" [] (plain (at 35) "any") ∷ []);
}

-- class B create make, make feature make do end end
abbrev pub repeated_creator_b : ClassT
repeated_creator_b = record class_b {
  creators = created_by (name (at 16) "make" ∷ name (at 22) "make" ∷ []);
  features = with_features (procedure (name (at 35) "make") no_inss ∷ []);
}

-- class B inherit P create make end
abbrev pub inherited_creator_b : ClassT
inherited_creator_b = inherits (parent (at 17) "p" ∷ []) (creates (name (at 26) "make" ∷ []) class_b)

-- class B create make, go feature make do end go do end end
abbrev pub right_creator_b : ClassT
right_creator_b = record class_b {
  creators = created_by (name (at 16) "make" ∷ name (at 22) "go" ∷ []);
  features = with_features (
      procedure (name (at 33) "make") no_inss
      ∷ procedure (name (at 45) "go") no_inss
      ∷ []);
}

-- class B create make end
abbrev pub unknown_creator_b : ClassT
unknown_creator_b = creates (name (at 16) "make" ∷ []) class_b

-- class B create go, go end
abbrev pub each_rule_b : ClassT
each_rule_b = creates (name (at 16) "go" ∷ name (at 20) "go" ∷ []) class_b

pub record CreationExamples : Type 0 where
  -- VGCP.1
  pub deferred_creation : phase (deferred_creation_b ∷ []) ≡ fault_of_b code.Vgcp 1 25 "make" ∷ []
  pub deferred_without_creation : phase (deferred_without_creation_b ∷ []) ≡ []
  -- VGCP.2
  pub unknown_creator : phase (unknown_creator_b ∷ []) ≡ fault_of_b code.Vgcp 2 16 "make" ∷ []
  -- VGCP.3
  pub creator_with_result : phase (creator_with_result_b ∷ []) ≡ fault_of_b code.Vgcp 3 16 "make" ∷ []
  -- VGCP.4
  pub repeated_creator : phase (repeated_creator_b ∷ []) ≡ fault_of_b code.Vgcp 4 22 "make" ∷ []
  -- each rule that a creator breaks counts
  pub each_rule : phase (each_rule_b ∷ [])
      ≡ fault_of_b code.Vgcp 2 16 "go" ∷ fault_of_b code.Vgcp 2 20 "go" ∷ fault_of_b code.Vgcp 4 20 "go" ∷ []
  pub inherited_creator : phase (inherited_creator_b ∷ class_p ∷ []) ≡ []
  pub right_creator : phase (right_creator_b ∷ []) ≡ []

-- the faults of the phase of signatures, where the root B with that procedure is given alone
abbrev pub phase_of_root : String → ClassT → List Fault
phase_of_root s b = each_given (λ u l. signature_faults u (root "b" s) l) (b ∷ [])

-- class B create go feature go do end make do end end
abbrev pub no_creator_root : ClassT
no_creator_root = record class_b {
  creators = created_by (name (at 16) "go" ∷ []);
  features = with_features (
      procedure (name (at 27) "go") no_inss
      ∷ procedure (name (at 37) "make") no_inss
      ∷ []);
}

-- class B create make feature make (x: ANY) do end end
abbrev pub creator_with_arguments_root : ClassT
creator_with_arguments_root = record class_b {
  creators = created_by (name (at 16) "make" ∷ []);
  features = with_features (
      command (at 29) "make" (group (name (at 35) "x" ∷ []) (plain (at 38) "any") ∷ [])
      ∷ []);
}

-- class B create make feature make do end end
abbrev pub right_root_root : ClassT
right_root_root = record class_b {
  creators = created_by (name (at 16) "make" ∷ []);
  features = with_features (procedure (name (at 29) "make") no_inss ∷ []);
}

-- class B feature make do end end
abbrev pub default_creator_root : ClassT
default_creator_root = declares (procedure (name (at 17) "make") no_inss ∷ []) class_b

-- class B feature make do end end
abbrev pub no_default_creator_root : ClassT
no_default_creator_root = declares (procedure (name (at 17) "make") no_inss ∷ []) class_b

-- class B create make feature make: ANY do end end
abbrev pub function_root : ClassT
function_root = record class_b {
  creators = created_by (name (at 16) "make" ∷ []);
  features = with_features (query (at 29) "make" [] (plain (at 35) "any") ∷ []);
}

pub record RootExamples : Type 0 where
  -- VSRP.1: root B.make
  pub no_creator : phase_of_root "make" no_creator_root ≡ fault_of_b code.Vsrp 1 7 "make" ∷ []
  -- root B.make
  pub creator_with_arguments : phase_of_root "make" creator_with_arguments_root
      ≡ fault_of_b code.Vsrp 1 7 "make" ∷ []
  -- root B.make
  pub right_root : phase_of_root "make" right_root_root ≡ []
  -- root B.default_create
  pub default_creator : phase_of_root "default_create" default_creator_root ≡ []
  -- root B.make
  pub no_default_creator : phase_of_root "make" no_default_creator_root ≡ fault_of_b code.Vsrp 1 7 "make" ∷ []
  -- what a creators part names is a creator: root B.make
  pub unknown_creator : phase_of_root "make" unknown_creator_b ≡ fault_of_b code.Vgcp 2 16 "make" ∷ []
  -- root B.make
  pub function : phase_of_root "make" function_root ≡ fault_of_b code.Vgcp 3 16 "make" ∷ []

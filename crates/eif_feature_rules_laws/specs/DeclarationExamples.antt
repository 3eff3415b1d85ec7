-- The rules of what a class declares and of the origins of its names: a class that breaks each of them, with exactly
-- the faults of its phase, and one that keeps it. Above each stands its class text, in file 0.
use Prim.Native.String.{String}
use Rattle.std.specs.Prelude.{◌≡◌, ℕ, true, pos, List, [], ◌∷◌, replicate, codes}
use Rattle.eif_base.specs.declared.code.Code.{Code}
use Rattle.eif_base.specs.declared.code.Code.TheVariants as code
use Rattle.eif_base.specs.declared.fault.Fault.{Fault}
use Rattle.eif_tree.specs.declared.tree.Literal.TheVariants as value
use Rattle.eif_tree.specs.Tree.{no_inss, ClassT}
use Rattle.eif_system.specs.TreeForms.{deferred_procedure, inline, procedure, with_features}
use Rattle.eif_system.specs.Universe.{universe}
use Rattle.eif_rules.specs.FaultForms.{fault_at, fault_in}
use Rattle.eif_feature_rules.specs.FeaturePhases.{feature_faults, each_given}
use Rattle.eif_feature_rules.specs.FeatureRules.{many_names, many_ancestor_names, count_names}
use Rattle.eif_feature_rules_laws.specs.PlacedClasses.{at, name, plain, sure, maybe, constant_of, pair, renaming, undefining, redefining, selecting, parent, class, deferred_class, inherits, declares}

-- the faults of the phase of features
abbrev pub phase : List ClassT → List Fault
phase given = each_given feature_faults given

-- class A feature f do end end
abbrev pub class_a : ClassT
class_a = declares (procedure (name (inline 1 17) "f") no_inss ∷ []) (class (inline 1 7) "a")

-- class C feature f do end end
abbrev pub class_c : ClassT
class_c = declares (procedure (name (inline 2 17) "f") no_inss ∷ []) (class (inline 2 7) "c")

-- deferred class D feature f deferred end end
abbrev pub class_d : ClassT
class_d = declares (deferred_procedure (name (inline 1 26) "f") ∷ []) (deferred_class (inline 1 16) "d")

-- class N inherit A rename nope as n end end
abbrev pub class_n : ClassT
class_n = record (class (inline 1 7) "n") {
  parents = renaming (pair (inline 1 26) "nope" (inline 1 34) "n" ∷ []) (parent (inline 1 17) "a") ∷ [];
}

-- class B end
abbrev pub class_b : ClassT
class_b = class (at 7) "b"

-- a fault of the class B in no feature
abbrev pub fault_of_b : Code → ℕ → ℕ → String → Fault
fault_of_b code case column about = fault_at class_b code case (at column) (codes about)

-- a fault in a feature of the class B
abbrev pub fault_in_b : String → Code → ℕ → ℕ → String → Fault
fault_in_b feature code case column about = fault_in class_b (codes feature) code case (at column) (codes about)

-- class B feature f do end f do end end
abbrev pub repeated_declaration_b : ClassT
repeated_declaration_b = record class_b {
  features = with_features (procedure (name (at 17) "f") no_inss ∷ procedure (name (at 26) "f") no_inss ∷ []);
}

-- class B feature f do end g do end end
abbrev pub two_declarations_b : ClassT
two_declarations_b = record class_b {
  features = with_features (procedure (name (at 17) "f") no_inss ∷ procedure (name (at 26) "g") no_inss ∷ []);
}

-- class B inherit A redefine f end feature f deferred end f do end end
abbrev pub repeated_beside_entry_b : ClassT
repeated_beside_entry_b = record class_b {
  parents = redefining (name (at 28) "f" ∷ []) (parent (at 17) "a") ∷ [];
  features = with_features (deferred_procedure (name (at 42) "f") ∷ procedure (name (at 57) "f") no_inss ∷ []);
}

-- class B inherit A feature f do end end
abbrev pub declared_over_b : ClassT
declared_over_b = record class_b {
  parents = parent (at 17) "a" ∷ [];
  features = with_features (procedure (name (at 27) "f") no_inss ∷ []);
}

-- class B inherit A redefine f end feature f do end end
abbrev pub redeclared_b : ClassT
redeclared_b = record class_b {
  parents = redefining (name (at 28) "f" ∷ []) (parent (at 17) "a") ∷ [];
  features = with_features (procedure (name (at 42) "f") no_inss ∷ []);
}

-- class B inherit A undefine f end feature f do end end
abbrev pub undefined_and_declared_b : ClassT
undefined_and_declared_b = record class_b {
  parents = undefining (name (at 28) "f" ∷ []) (parent (at 17) "a") ∷ [];
  features = with_features (procedure (name (at 42) "f") no_inss ∷ []);
}

-- class B inherit D feature f do end end
abbrev pub made_effective_b : ClassT
made_effective_b = record class_b {
  parents = parent (at 17) "d" ∷ [];
  features = with_features (procedure (name (at 27) "f") no_inss ∷ []);
}

-- class B inherit A redefine f end end
abbrev pub undeclared_redefinition_b : ClassT
undeclared_redefinition_b = inherits (redefining (name (at 28) "f" ∷ []) (parent (at 17) "a") ∷ []) class_b

-- deferred class B inherit A feature f deferred end end
abbrev pub deferred_again_b : ClassT
deferred_again_b = record (deferred_class (at 16) "b") {
  parents = parent (at 26) "a" ∷ [];
  features = with_features (deferred_procedure (name (at 36) "f") ∷ []);
}

-- deferred class B inherit A redefine f end feature f deferred end end
abbrev pub deferred_redefinition_b : ClassT
deferred_redefinition_b = record (deferred_class (at 16) "b") {
  parents = redefining (name (at 37) "f" ∷ []) (parent (at 26) "a") ∷ [];
  features = with_features (deferred_procedure (name (at 51) "f") ∷ []);
}

-- deferred class B inherit A undefine f end feature f deferred end end
abbrev pub undefined_and_deferred_b : ClassT
undefined_and_deferred_b = record (deferred_class (at 16) "b") {
  parents = undefining (name (at 37) "f" ∷ []) (parent (at 26) "a") ∷ [];
  features = with_features (deferred_procedure (name (at 51) "f") ∷ []);
}

-- class B inherit A redefine f, f end end
abbrev pub undeclared_twice_b : ClassT
undeclared_twice_b = record class_b {
  parents = redefining (name (at 28) "f" ∷ name (at 31) "f" ∷ []) (parent (at 17) "a") ∷ [];
}

pub record DeclarationExamples : Type 0 where
  -- VMFN.1
  pub repeated_declaration : phase (repeated_declaration_b ∷ []) ≡ fault_in_b "f" code.Vmfn 1 26 "f" ∷ []
  pub two_declarations : phase (two_declarations_b ∷ []) ≡ []
  -- the first declaration is the class's
  pub repeated_beside_entry : phase (repeated_beside_entry_b ∷ class_a ∷ [])
      ≡ fault_in_b "f" code.Vdrs 4 42 "f" ∷ fault_in_b "f" code.Vmfn 1 57 "f" ∷ fault_of_b code.Vcch 1 7 "f" ∷ []
  -- VMFN.2
  pub declared_over : phase (declared_over_b ∷ class_a ∷ []) ≡ fault_in_b "f" code.Vmfn 2 27 "f" ∷ []
  pub redeclared : phase (redeclared_b ∷ class_a ∷ []) ≡ []
  pub undefined_and_declared : phase (undefined_and_declared_b ∷ class_a ∷ []) ≡ []
  pub made_effective : phase (made_effective_b ∷ class_d ∷ []) ≡ []
  -- VDRS.3
  pub undeclared_redefinition : phase (undeclared_redefinition_b ∷ class_a ∷ [])
      ≡ fault_of_b code.Vdrs 3 28 "f" ∷ []
  -- VDRS.4
  pub deferred_again : phase (deferred_again_b ∷ class_a ∷ []) ≡ fault_in_b "f" code.Vdrs 4 36 "f" ∷ []
  pub deferred_redefinition : phase (deferred_redefinition_b ∷ class_a ∷ [])
      ≡ fault_in_b "f" code.Vdrs 4 51 "f" ∷ []
  pub undefined_and_deferred : phase (undefined_and_deferred_b ∷ class_a ∷ []) ≡ []
  -- VDRS.3 at the first listing, and an earlier rule of the code at the second
  pub undeclared_twice : phase (undeclared_twice_b ∷ class_a ∷ [])
      ≡ fault_of_b code.Vdrs 2 31 "f" ∷ fault_of_b code.Vdrs 3 28 "f" ∷ []

-- class B feature f: STRING = 1 end
abbrev pub wrong_constant_b : ClassT
wrong_constant_b = record class_b {
  features = with_features (
      constant_of (name (at 17) "f" ∷ []) (plain (at 20) "string") (value.Int (pos 1))
      ∷ []);
}

-- class B feature f: detachable STRING = "a" end
abbrev pub detachable_constant_b : ClassT
detachable_constant_b = record class_b {
  features = with_features (
      constant_of (name (at 17) "f" ∷ []) (maybe (at 20) (at 31) "string") (value.Text (codes "a"))
      ∷ []);
}

-- class B feature f, g: ANY = True end
abbrev pub each_constant_b : ClassT
each_constant_b = record class_b {
  features = with_features (
      constant_of (name (at 17) "f" ∷ name (at 20) "g" ∷ []) (plain (at 23) "any") (value.Bool true)
      ∷ []);
}

-- class B feature f: STRING = 1 f: ANY = 1 end
abbrev pub repeated_constant_b : ClassT
repeated_constant_b = record class_b {
  features = with_features (
      constant_of (name (at 17) "f" ∷ []) (plain (at 20) "string") (value.Int (pos 1))
      ∷ constant_of (name (at 31) "f" ∷ []) (plain (at 34) "any") (value.Int (pos 1))
      ∷ []);
}

-- class B feature f: INTEGER = 1 end
abbrev pub right_constant_b : ClassT
right_constant_b = record class_b {
  features = with_features (
      constant_of (name (at 17) "f" ∷ []) (plain (at 20) "integer") (value.Int (pos 1))
      ∷ []);
}

-- class B feature f: attached STRING = "a" end
abbrev pub attached_constant_b : ClassT
attached_constant_b = record class_b {
  features = with_features (
      constant_of (name (at 17) "f" ∷ []) (sure (at 20) (at 29) "string") (value.Text (codes "a"))
      ∷ []);
}

pub record ConstantExamples : Type 0 where
  -- VFFD.1
  pub wrong_constant : phase (wrong_constant_b ∷ []) ≡ fault_in_b "f" code.Vffd 1 17 "f" ∷ []
  pub detachable_constant : phase (detachable_constant_b ∷ []) ≡ fault_in_b "f" code.Vffd 1 17 "f" ∷ []
  pub each_constant : phase (each_constant_b ∷ [])
      ≡ fault_in_b "f" code.Vffd 1 17 "f" ∷ fault_in_b "g" code.Vffd 1 20 "g" ∷ []
  -- it is judged of each constant as it is written
  pub repeated_constant : phase (repeated_constant_b ∷ [])
      ≡ fault_in_b "f" code.Vmfn 1 31 "f"
      ∷ fault_in_b "f" code.Vffd 1 17 "f"
      ∷ fault_in_b "f" code.Vffd 1 31 "f"
      ∷ []
  pub right_constant : phase (right_constant_b ∷ []) ≡ []
  pub attached_constant : phase (attached_constant_b ∷ []) ≡ []

-- class B inherit A C end
abbrev pub clashing_name_b : ClassT
clashing_name_b = inherits (parent (at 17) "a" ∷ parent (at 19) "c" ∷ []) class_b

-- class B inherit A C undefine f end end
abbrev pub one_undefined_b : ClassT
one_undefined_b = record class_b {
  parents = parent (at 17) "a" ∷ undefining (name (at 30) "f" ∷ []) (parent (at 19) "c") ∷ [];
}

-- class B inherit A D end
abbrev pub joined_with_deferred_b : ClassT
joined_with_deferred_b = inherits (parent (at 17) "a" ∷ parent (at 19) "d" ∷ []) class_b

-- class B inherit A undefine f end end
abbrev pub undefined_in_all_b : ClassT
undefined_in_all_b = inherits (undefining (name (at 28) "f" ∷ []) (parent (at 17) "a") ∷ []) class_b

-- deferred class B feature f deferred end end
abbrev pub deferred_class_marked_b : ClassT
deferred_class_marked_b = declares (deferred_procedure (name (at 26) "f") ∷ []) (deferred_class (at 16) "b")

-- class B inherit A A end
abbrev pub shared_name_b : ClassT
shared_name_b = inherits (parent (at 17) "a" ∷ parent (at 19) "a" ∷ []) class_b

-- class B feature f deferred end end
abbrev pub deferred_name_b : ClassT
deferred_name_b = declares (deferred_procedure (name (at 17) "f") ∷ []) class_b

-- class B inherit D end
abbrev pub inherited_deferred_b : ClassT
inherited_deferred_b = inherits (parent (at 17) "d" ∷ []) class_b

pub record OriginExamples : Type 0 where
  -- VMFN.3
  pub clashing_name : phase (clashing_name_b ∷ class_a ∷ class_c ∷ []) ≡ fault_of_b code.Vmfn 3 7 "f" ∷ []
  pub one_undefined : phase (one_undefined_b ∷ class_a ∷ class_c ∷ []) ≡ []
  pub shared_name : phase (shared_name_b ∷ class_a ∷ []) ≡ []
  pub joined_with_deferred : phase (joined_with_deferred_b ∷ class_a ∷ class_d ∷ []) ≡ []
  -- VCCH.1
  pub deferred_name : phase (deferred_name_b ∷ []) ≡ fault_of_b code.Vcch 1 7 "f" ∷ []
  pub inherited_deferred : phase (inherited_deferred_b ∷ class_d ∷ []) ≡ fault_of_b code.Vcch 1 7 "f" ∷ []
  pub undefined_in_all : phase (undefined_in_all_b ∷ class_a ∷ []) ≡ fault_of_b code.Vcch 1 7 "f" ∷ []
  pub deferred_class_marked : phase (deferred_class_marked_b ∷ []) ≡ []

pub record LimitExamples : Type 0 where
  -- XLIM.5: class B .. end with 2049 names and with 2048
  pub too_many : many_names class_b 2049 ≡ fault_of_b code.Xlim 5 7 "b" ∷ []
  pub most : many_names class_b 2048 ≡ []
  -- XLIM.8: class B .. end whose ancestors have 65537 names in all and 65536
  pub too_many_above : many_ancestor_names class_b (1 ∷ replicate 32 2048) ≡ fault_of_b code.Xlim 8 7 "b" ∷ []
  pub most_above : many_ancestor_names class_b (0 ∷ replicate 32 2048) ≡ []
  -- A has three names of ANY beside its own
  pub counted : count_names (universe (class_a ∷ [])) 6 ≡ 4

-- class B inherit N select nope end end
abbrev pub ancestor_broken_b : ClassT
ancestor_broken_b = inherits (selecting (name (at 26) "nope" ∷ []) (parent (at 17) "n") ∷ []) class_b

-- class M inherit N end
abbrev pub class_m : ClassT
class_m = inherits (parent (inline 2 17) "n" ∷ []) (class (inline 2 7) "m")

-- class B inherit M select nope end end
abbrev pub clean_parent_b : ClassT
clean_parent_b = inherits (selecting (name (at 26) "nope" ∷ []) (parent (at 17) "m") ∷ []) class_b

pub record JudgedExamples : Type 0 where
  -- N has a breach, so B, which has one too, is not judged
  pub ancestor_broken : phase (ancestor_broken_b ∷ class_n ∷ class_a ∷ [])
      ≡ fault_at class_n code.Vhrc 1 (inline 1 26) (codes "nope") ∷ []
  -- the same beside N alone
  pub ancestor_alone : phase (class_n ∷ class_a ∷ [])
      ≡ fault_at class_n code.Vhrc 1 (inline 1 26) (codes "nope") ∷ []
  -- M has none of its own, and B is not judged for N
  pub clean_parent : phase (clean_parent_b ∷ class_m ∷ class_n ∷ class_a ∷ [])
      ≡ fault_at class_n code.Vhrc 1 (inline 1 26) (codes "nope") ∷ []

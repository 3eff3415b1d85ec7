-- The rules of selection and of replication: a class that breaks each of them, with exactly the faults of its phase,
-- and one that keeps it. Above each stands its class text, in file 0.
use Prim.Native.String.{String}
use Rattle.std.specs.Prelude.{◌≡◌, ℕ, List, [], ◌∷◌, None, codes}
use Rattle.eif_base.specs.declared.code.Code.{Code}
use Rattle.eif_base.specs.declared.code.Code.TheVariants as code
use Rattle.eif_base.specs.declared.fault.Fault.{Fault}
use Rattle.eif_tree.specs.Tree.{unqualified, void_value, no_exs, and_ex, call, assign, no_inss, and_ins, routine, ClassT}
use Rattle.eif_system.specs.TreeForms.{attribute_of, declared, inline, procedure, with_features}
use Rattle.eif_rules.specs.FaultForms.{fault_at}
use Rattle.eif_feature_rules.specs.FeaturePhases.{feature_faults, each_given}
use Rattle.eif_feature_rules_laws.specs.PlacedClasses.{at, name, plain, maybe, group, pair, renaming, redefining, selecting, parent, class, inherits, declares}

-- the faults of the phase of features
abbrev pub phase : List ClassT → List Fault
phase given = each_given feature_faults given

-- class Z feature f do end end
abbrev pub class_z : ClassT
class_z = declares (procedure (name (inline 3 17) "f") no_inss ∷ []) (class (inline 3 7) "z")

-- class B inherit Z end
abbrev pub class_b : ClassT
class_b = inherits (parent (inline 1 17) "z" ∷ []) (class (inline 1 7) "b")

-- class C inherit Z rename f as g end end
abbrev pub class_c : ClassT
class_c = record (class (inline 2 7) "c") {
  parents = renaming (pair (inline 2 26) "f" (inline 2 31) "g" ∷ []) (parent (inline 2 17) "z") ∷ [];
}

-- class K feature f do g end g do end end
abbrev pub class_k : ClassT
class_k = record (class (inline 1 7) "k") {
  features = with_features (
      procedure (name (inline 1 17) "f") (and_ins (call (unqualified (inline 1 22) (codes "g") no_exs)) no_inss)
      ∷ procedure (name (inline 1 28) "g") no_inss
      ∷ []);
}

-- class R feature x: BOOLEAN f require x do end end
abbrev pub class_r : ClassT
class_r =
    declares (
    attribute_of (name (inline 1 17) "x") (plain (inline 1 20) "boolean")
    ∷ record (procedure (name (inline 1 28) "f") no_inss) {
      preconditions = and_ex (unqualified (inline 1 38) (codes "x") no_exs) no_exs;
    }
    ∷ []) (class (inline 1 7) "r")

-- class S feature f (x: ANY) do print (x) end x: detachable ANY end
abbrev pub class_s : ClassT
class_s = record (class (inline 1 7) "s") {
  features = with_features (
      declared (name (inline 1 17) "f") (group (name (inline 1 20) "x" ∷ []) (plain (inline 1 23) "any") ∷ [])
      None
      (routine []
      (and_ins
      (call
      (unqualified (inline 1 31) (codes "print")
      (and_ex (unqualified (inline 1 38) (codes "x") no_exs) no_exs))) no_inss))
      ∷ attribute_of (name (inline 1 45) "x") (maybe (inline 1 48) (inline 1 59) "any")
      ∷ []);
}

-- class T feature f do x := Void end x: detachable ANY end
abbrev pub class_t : ClassT
class_t = record (class (inline 1 7) "t") {
  features = with_features (
      procedure (name (inline 1 17) "f")
      (and_ins (assign (name (inline 1 22) "x") (void_value (inline 1 27))) no_inss)
      ∷ attribute_of (name (inline 1 36) "x") (maybe (inline 1 39) (inline 1 50) "any")
      ∷ []);
}

-- class D end
abbrev pub class_d : ClassT
class_d = class (at 7) "d"

-- a fault of the class D
abbrev pub fault_of_d : Code → ℕ → ℕ → String → Fault
fault_of_d code case column about = fault_at class_d code case (at column) (codes about)

-- class D inherit B C end
abbrev pub undecided_d : ClassT
undecided_d = inherits (parent (at 17) "b" ∷ parent (at 19) "c" ∷ []) class_d

-- class D inherit B select f end C end
abbrev pub one_selected_d : ClassT
one_selected_d = record class_d {
  parents = selecting (name (at 26) "f" ∷ []) (parent (at 17) "b") ∷ parent (at 32) "c" ∷ [];
}

-- class D inherit B select f end C select g end end
abbrev pub both_selected_d : ClassT
both_selected_d = record class_d {
  parents =
      selecting (name (at 26) "f" ∷ []) (parent (at 17) "b")
      ∷ selecting (name (at 41) "g" ∷ []) (parent (at 32) "c")
      ∷ [];
}

-- class D inherit B rename f as h end C end
abbrev pub least_candidate_d : ClassT
least_candidate_d = record class_d {
  parents = renaming (pair (at 26) "f" (at 31) "h" ∷ []) (parent (at 17) "b") ∷ parent (at 37) "c" ∷ [];
}

-- class D inherit B select f end end
abbrev pub needless_selection_d : ClassT
needless_selection_d = inherits (selecting (name (at 26) "f" ∷ []) (parent (at 17) "b") ∷ []) class_d

-- class D inherit B B select f end end
abbrev pub shared_selection_d : ClassT
shared_selection_d = record class_d {
  parents = parent (at 17) "b" ∷ selecting (name (at 28) "f" ∷ []) (parent (at 19) "b") ∷ [];
}

-- class D inherit B select f, f end end
abbrev pub repeated_selection_d : ClassT
repeated_selection_d = record class_d {
  parents = selecting (name (at 26) "f" ∷ name (at 29) "f" ∷ []) (parent (at 17) "b") ∷ [];
}

-- class P1 inherit ANY rename out as out1 end end
abbrev pub class_p1 : ClassT
class_p1 = record (class (inline 1 7) "p1") {
  parents = renaming (pair (inline 1 29) "out" (inline 1 36) "out1" ∷ []) (parent (inline 1 18) "any") ∷ [];
}

-- class D inherit P1 ANY end
abbrev pub beside_any_d : ClassT
beside_any_d = inherits (parent (at 17) "p1" ∷ parent (at 20) "any" ∷ []) class_d

pub record SelectionExamples : Type 0 where
  -- VMRC.1
  pub undecided : phase (undecided_d ∷ class_b ∷ class_c ∷ class_z ∷ []) ≡ fault_of_d code.Vmrc 1 7 "f" ∷ []
  pub one_selected : phase (one_selected_d ∷ class_b ∷ class_c ∷ class_z ∷ []) ≡ []
  pub both_selected : phase (both_selected_d ∷ class_b ∷ class_c ∷ class_z ∷ [])
      ≡ fault_of_d code.Vmrc 1 7 "f" ∷ []
  pub least_candidate : phase (least_candidate_d ∷ class_b ∷ class_c ∷ class_z ∷ [])
      ≡ fault_of_d code.Vmrc 1 7 "g" ∷ []
  -- VMSS.3
  pub needless_selection : phase (needless_selection_d ∷ class_b ∷ class_z ∷ [])
      ≡ fault_of_d code.Vmss 3 26 "f" ∷ []
  pub shared_selection : phase (shared_selection_d ∷ class_b ∷ class_z ∷ [])
      ≡ fault_of_d code.Vmss 3 28 "f" ∷ []
  -- an earlier rule of the code counts
  pub repeated_selection : phase (repeated_selection_d ∷ class_b ∷ class_z ∷ [])
      ≡ fault_of_d code.Vmss 2 29 "f" ∷ fault_of_d code.Vmss 3 26 "f" ∷ []
  -- a feature of ANY has two versions
  pub beside_any : phase (beside_any_d ∷ class_p1 ∷ []) ≡ fault_of_d code.Vmrc 1 7 "out" ∷ []

-- class D inherit K select f, g end K rename f as f2, g as g2 end end
abbrev pub two_split_d : ClassT
two_split_d = record class_d {
  parents =
      selecting (name (at 26) "f" ∷ name (at 29) "g" ∷ []) (parent (at 17) "k")
      ∷ renaming (pair (at 44) "f" (at 49) "f2" ∷ pair (at 53) "g" (at 58) "g2" ∷ []) (parent (at 35) "k")
      ∷ [];
}

-- class D inherit K select f end K rename f as f2 end end
abbrev pub one_split_d : ClassT
one_split_d = record class_d {
  parents =
      selecting (name (at 26) "f" ∷ []) (parent (at 17) "k")
      ∷ renaming (pair (at 41) "f" (at 46) "f2" ∷ []) (parent (at 32) "k")
      ∷ [];
}

-- class D inherit K redefine f select f, g end K rename f as f2, g as g2 end feature f do end end
abbrev pub redeclared_split_d : ClassT
redeclared_split_d = record class_d {
  parents =
      selecting (name (at 37) "f" ∷ name (at 40) "g" ∷ [])
      (redefining (name (at 28) "f" ∷ []) (parent (at 17) "k"))
      ∷ renaming (pair (at 55) "f" (at 60) "f2" ∷ pair (at 64) "g" (at 69) "g2" ∷ []) (parent (at 46) "k")
      ∷ [];
  features = with_features (procedure (name (at 84) "f") no_inss ∷ []);
}

-- class D inherit R select f, x end R rename f as f2, x as x2 end end
abbrev pub in_assertion_d : ClassT
in_assertion_d = record class_d {
  parents =
      selecting (name (at 26) "f" ∷ name (at 29) "x" ∷ []) (parent (at 17) "r")
      ∷ renaming (pair (at 44) "f" (at 49) "f2" ∷ pair (at 53) "x" (at 58) "x2" ∷ []) (parent (at 35) "r")
      ∷ [];
}

-- class D inherit S select f, x end S rename f as f2, x as x2 end end
abbrev pub hidden_by_argument_d : ClassT
hidden_by_argument_d = record class_d {
  parents =
      selecting (name (at 26) "f" ∷ name (at 29) "x" ∷ []) (parent (at 17) "s")
      ∷ renaming (pair (at 44) "f" (at 49) "f2" ∷ pair (at 53) "x" (at 58) "x2" ∷ []) (parent (at 35) "s")
      ∷ [];
}

-- class D inherit T select f, x end T rename f as f2, x as x2 end end
abbrev pub as_target_d : ClassT
as_target_d = record class_d {
  parents =
      selecting (name (at 26) "f" ∷ name (at 29) "x" ∷ []) (parent (at 17) "t")
      ∷ renaming (pair (at 44) "f" (at 49) "f2" ∷ pair (at 53) "x" (at 58) "x2" ∷ []) (parent (at 35) "t")
      ∷ [];
}

pub record ReplicationExamples : Type 0 where
  -- XREP.1
  pub two_split : phase (two_split_d ∷ class_k ∷ []) ≡ fault_of_d code.Xrep 1 7 "g" ∷ []
  pub one_split : phase (one_split_d ∷ class_k ∷ []) ≡ []
  -- a version of its own is no replicated body
  pub redeclared_split : phase (redeclared_split_d ∷ class_k ∷ []) ≡ []
  pub in_assertion : phase (in_assertion_d ∷ class_r ∷ []) ≡ fault_of_d code.Xrep 1 7 "x" ∷ []
  -- a local or argument of the name hides nothing
  pub hidden_by_argument : phase (hidden_by_argument_d ∷ class_s ∷ []) ≡ fault_of_d code.Xrep 1 7 "x" ∷ []
  pub as_target : phase (as_target_d ∷ class_t ∷ []) ≡ fault_of_d code.Xrep 1 7 "x" ∷ []

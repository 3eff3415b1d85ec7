-- The rules of derivations: a class that breaks each of them, with exactly the faults of its phase, and one that keeps
-- it. Above each stands its class text, in file 0.
use Prim.Native.String.{String}
use Rattle.std.specs.Prelude.{◌≡◌, ℕ, zero, suc, List, [], ◌∷◌, codes}
use Rattle.eif_base.specs.declared.code.Code.{Code}
use Rattle.eif_base.specs.declared.code.Code.TheVariants as code
use Rattle.eif_base.specs.declared.fault.Fault.{Fault}
use Rattle.eif_tree.specs.Tree.{TypeT, ClassT}
use Rattle.eif_system.specs.TreeForms.{attribute_of, inline, nowhere, parent_clause, with_features}
use Rattle.eif_rules.specs.FaultForms.{fault_at, fault_in}
use Rattle.eif_feature_rules.specs.FeaturePhases.{class_derivation_faults, each_given}
use Rattle.eif_feature_rules_laws.specs.PlacedClasses.{at, name, plain, maybe, of, parent, class, formal, constrained, generic, inherits, declares}

-- the faults of the phase of derivations
abbrev pub phase : List ClassT → List Fault
phase given = each_given class_derivation_faults given

-- class L [G] end
abbrev pub class_l : ClassT
class_l = generic (formal (inline 1 10) "g" ∷ []) (class (inline 1 7) "l")

-- class M inherit L [ANY] end
abbrev pub class_m : ClassT
class_m = record (class (inline 1 7) "m") {
  parents = parent_clause (of (inline 1 17) "l" (plain (inline 1 20) "any")) ∷ [];
}

-- class N inherit L [STRING] end
abbrev pub class_n : ClassT
class_n = record (class (inline 1 7) "n") {
  parents = parent_clause (of (inline 1 17) "l" (plain (inline 1 20) "string")) ∷ [];
}

-- class X inherit L [ANY] L [STRING] end
abbrev pub class_x : ClassT
class_x = record (class (inline 1 7) "x") {
  parents =
      parent_clause (of (inline 1 17) "l" (plain (inline 1 20) "any"))
      ∷ parent_clause (of (inline 1 25) "l" (plain (inline 1 28) "string"))
      ∷ [];
}

-- class B [G -> STRING] end
abbrev pub class_b : ClassT
class_b = generic (constrained (inline 1 10) "g" (plain (inline 1 15) "string") ∷ []) (class (inline 1 7) "b")

-- class E [G -> ANY] end
abbrev pub class_e : ClassT
class_e = generic (constrained (inline 1 10) "g" (plain (inline 1 15) "any") ∷ []) (class (inline 1 7) "e")

-- class Y [G -> L [ANY]] end
abbrev pub class_y : ClassT
class_y = record (class (inline 1 7) "y") {
  formals = constrained (inline 1 10) "g" (of (inline 1 15) "l" (plain (inline 1 18) "any")) ∷ [];
}

-- class D end
abbrev pub class_d : ClassT
class_d = class (at 7) "d"

-- a fault of the class D in no feature
abbrev pub fault_of_d : Code → ℕ → ℕ → String → Fault
fault_of_d code case column about = fault_at class_d code case (at column) (codes about)

-- a fault in a feature of the class D
abbrev pub fault_in_d : String → Code → ℕ → ℕ → String → Fault
fault_in_d feature code case column about = fault_in class_d (codes feature) code case (at column) (codes about)

-- ARRAY [ARRAY [.. G ..]], with so many arrays, which stand nowhere
abbrev pub arrays : ℕ → TypeT
arrays zero = plain nowhere "g"
arrays (suc n) = of nowhere "array" (arrays n)

-- class K [G] inherit L [ARRAY [ARRAY [.. G ..]]] end, with 98 arrays
abbrev pub class_k : ClassT
class_k =
    generic (formal (inline 1 10) "g" ∷ [])
    (inherits (parent_clause (of nowhere "l" (arrays 98)) ∷ []) (class (inline 1 7) "k"))

-- class D inherit .. end
abbrev pub below : TypeT → ClassT
below parent = inherits (parent_clause parent ∷ []) class_d

-- class D inherit L [ANY] L [STRING] end
abbrev pub differing_d : ClassT
differing_d = record class_d {
  parents =
      parent_clause (of (at 17) "l" (plain (at 20) "any"))
      ∷ parent_clause (of (at 25) "l" (plain (at 28) "string"))
      ∷ [];
}

-- class D inherit L [ANY] L [ANY] end
abbrev pub agreeing_d : ClassT
agreeing_d = record class_d {
  parents =
      parent_clause (of (at 17) "l" (plain (at 20) "any"))
      ∷ parent_clause (of (at 25) "l" (plain (at 28) "any"))
      ∷ [];
}

-- class D inherit M N end
abbrev pub differing_above_d : ClassT
differing_above_d = inherits (parent (at 17) "m" ∷ parent (at 19) "n" ∷ []) class_d

-- class D inherit L [ANY] L [detachable ANY] end
abbrev pub marks_differ_d : ClassT
marks_differ_d = record class_d {
  parents =
      parent_clause (of (at 17) "l" (plain (at 20) "any"))
      ∷ parent_clause (of (at 25) "l" (maybe (at 28) (at 39) "any"))
      ∷ [];
}

-- class D inherit X M end
abbrev pub undefined_above_d : ClassT
undefined_above_d = inherits (parent (at 17) "x" ∷ parent (at 19) "m" ∷ []) class_d

-- class D inherit K [ARRAY [ANY]] end
abbrev pub large_d : ClassT
large_d = below (of (at 17) "k" (of (at 20) "array" (plain (at 27) "any")))

-- class D inherit K [ANY] end
abbrev pub largest_d : ClassT
largest_d = below (of (at 17) "k" (plain (at 20) "any"))

-- class D inherit M K [ARRAY [ANY]] end
abbrev pub small_and_large_d : ClassT
small_and_large_d = record class_d {
  parents =
      parent (at 17) "m" ∷ parent_clause (of (at 19) "k" (of (at 22) "array" (plain (at 29) "any"))) ∷ [];
}

pub record AncestorExamples : Type 0 where
  -- XANC.1
  pub differing : phase (differing_d ∷ class_l ∷ []) ≡ fault_of_d code.Xanc 1 25 "l" ∷ []
  pub agreeing : phase (agreeing_d ∷ class_l ∷ []) ≡ []
  pub differing_above : phase (differing_above_d ∷ class_m ∷ class_n ∷ class_l ∷ [])
      ≡ fault_of_d code.Xanc 1 19 "l" ∷ []
  pub marks_differ : phase (marks_differ_d ∷ class_l ∷ []) ≡ fault_of_d code.Xanc 1 25 "l" ∷ []
  -- X breaks the rule, and what it gives L is not defined for D
  pub undefined_above : phase (undefined_above_d ∷ class_x ∷ class_m ∷ class_l ∷ [])
      ≡ fault_at class_x code.Xanc 1 (inline 1 25) (codes "l") ∷ []
  -- XLIM.6: by the clause of D its L has 101 names
  pub large : phase (large_d ∷ class_k ∷ class_l ∷ []) ≡ fault_of_d code.Xlim 6 17 "l" ∷ []
  -- here it has 100
  pub largest : phase (largest_d ∷ class_k ∷ class_l ∷ []) ≡ []
  -- the first clause gives a small L and the second a large one, and XANC is not judged of them
  pub small_and_large : phase (small_and_large_d ∷ class_m ∷ class_k ∷ class_l ∷ [])
      ≡ fault_of_d code.Xlim 6 19 "l" ∷ []

-- class D feature f: B [ANY] end
abbrev pub wrong_actual_d : ClassT
wrong_actual_d = declares (attribute_of (name (at 17) "f") (of (at 20) "b" (plain (at 23) "any")) ∷ []) class_d

-- class D feature f: B [STRING] end
abbrev pub right_actual_d : ClassT
right_actual_d = record class_d {
  features = with_features (attribute_of (name (at 17) "f") (of (at 20) "b" (plain (at 23) "string")) ∷ []);
}

-- class D feature f: E [detachable STRING] end
abbrev pub detachable_actual_d : ClassT
detachable_actual_d = record class_d {
  features = with_features (
      attribute_of (name (at 17) "f") (of (at 20) "e" (maybe (at 23) (at 34) "string"))
      ∷ []);
}

-- class D feature f: L [detachable ANY] end
abbrev pub unconstrained_d : ClassT
unconstrained_d = record class_d {
  features = with_features (
      attribute_of (name (at 17) "f") (of (at 20) "l" (maybe (at 23) (at 34) "any"))
      ∷ []);
}

-- class D [H] feature f: E [H] end
abbrev pub formal_actual_d : ClassT
formal_actual_d = record class_d {
  formals = formal (at 10) "h" ∷ [];
  features = with_features (attribute_of (name (at 21) "f") (of (at 24) "e" (plain (at 27) "h")) ∷ []);
}

-- class D [H -> ANY] feature f: E [H] end
abbrev pub constrained_actual_d : ClassT
constrained_actual_d = record class_d {
  formals = constrained (at 10) "h" (plain (at 15) "any") ∷ [];
  features = with_features (attribute_of (name (at 28) "f") (of (at 31) "e" (plain (at 34) "h")) ∷ []);
}

-- class D inherit E [detachable ANY] end
abbrev pub in_parent_d : ClassT
in_parent_d = inherits (parent_clause (of (at 17) "e" (maybe (at 20) (at 31) "any")) ∷ []) class_d

-- class D [H -> B [ANY]] end
abbrev pub in_constraint_d : ClassT
in_constraint_d = generic (constrained (at 10) "h" (of (at 15) "b" (plain (at 18) "any")) ∷ []) class_d

-- class D feature f: L [B [ANY]] end
abbrev pub nested_d : ClassT
nested_d = record class_d {
  features = with_features (
      attribute_of (name (at 17) "f") (of (at 20) "l" (of (at 23) "b" (plain (at 26) "any")))
      ∷ []);
}

-- class D inherit L [ANY] L [STRING] feature f: Y [D] end
abbrev pub beside_differing_d : ClassT
beside_differing_d = record class_d {
  parents =
      parent_clause (of (at 17) "l" (plain (at 20) "any"))
      ∷ parent_clause (of (at 25) "l" (plain (at 28) "string"))
      ∷ [];
  features = with_features (attribute_of (name (at 44) "f") (of (at 47) "y" (plain (at 50) "d")) ∷ []);
}

pub record ActualExamples : Type 0 where
  -- XGEN.2
  pub wrong_actual : phase (wrong_actual_d ∷ class_b ∷ []) ≡ fault_in_d "f" code.Xgen 2 23 "g" ∷ []
  pub right_actual : phase (right_actual_d ∷ class_b ∷ []) ≡ []
  pub detachable_actual : phase (detachable_actual_d ∷ class_e ∷ []) ≡ fault_in_d "f" code.Xgen 2 23 "g" ∷ []
  pub unconstrained : phase (unconstrained_d ∷ class_l ∷ []) ≡ []
  pub formal_actual : phase (formal_actual_d ∷ class_e ∷ []) ≡ fault_in_d "f" code.Xgen 2 27 "g" ∷ []
  pub constrained_actual : phase (constrained_actual_d ∷ class_e ∷ []) ≡ []
  pub in_parent : phase (in_parent_d ∷ class_e ∷ []) ≡ fault_of_d code.Xgen 2 20 "g" ∷ []
  pub in_constraint : phase (in_constraint_d ∷ class_b ∷ []) ≡ fault_of_d code.Xgen 2 18 "g" ∷ []
  pub nested : phase (nested_d ∷ class_b ∷ class_l ∷ []) ≡ fault_in_d "f" code.Xgen 2 26 "g" ∷ []
  -- what D gives L is not defined, so D conforms to no L
  pub beside_differing : phase (beside_differing_d ∷ class_y ∷ class_l ∷ [])
      ≡ fault_of_d code.Xanc 1 25 "l" ∷ fault_in_d "f" code.Xgen 2 50 "g" ∷ []

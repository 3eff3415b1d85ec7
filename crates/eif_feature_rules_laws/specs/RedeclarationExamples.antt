-- The rules of signatures: a class that breaks each of them, with exactly the faults of its phase, and one that keeps
-- it. Above each stands its class text, in file 0; the root class is given behind it.
use Prim.Native.String.{String}
use Rattle.std.specs.Prelude.{◌≡◌, ℕ, zero, suc, List, [], ◌∷◌, ◌++◌, None, Some, codes}
use Rattle.eif_base.specs.declared.code.Code.{Code}
use Rattle.eif_base.specs.declared.code.Code.TheVariants as code
use Rattle.eif_base.specs.declared.fault.Fault.{Fault}
use Rattle.eif_tree.specs.Tree.{TypeT, deferred_body, no_inss, ClassT}
use Rattle.eif_system.specs.TreeForms.{attribute_of, created_by, declared, inline, nowhere, parent_clause, procedure, with_features}
use Rattle.eif_rules.specs.FaultForms.{fault_at, fault_in}
use Rattle.eif_feature_rules.specs.FeaturePhases.{signature_faults, each_given}
use Rattle.eif_feature_rules_laws.specs.FoundFaults.{root}
use Rattle.eif_feature_rules_laws.specs.PlacedClasses.{at, name, plain, maybe, of, group, command, query, undefining, redefining, parent, class, deferred_class, formal, generic, inherits, declares}

-- class APP create make feature make do end end
abbrev pub class_app : ClassT
class_app = record (class (inline 2 7) "app") {
  creators = created_by (name (inline 2 18) "make" ∷ []);
  features = with_features (procedure (name (inline 2 31) "make") no_inss ∷ []);
}

-- the faults of the phase of signatures, where these are given with APP and the root is APP.make
abbrev pub phase : List ClassT → List Fault
phase given = each_given (λ u l. signature_faults u (root "app" "make") l) (given ++ class_app ∷ [])

-- class A feature f (x: STRING) do end g: ANY do end h: ANY end
abbrev pub class_a : ClassT
class_a = record (class (inline 1 7) "a") {
  features = with_features (
      command (inline 1 17) "f" (group (name (inline 1 20) "x" ∷ []) (plain (inline 1 23) "string") ∷ [])
      ∷ query (inline 1 38) "g" [] (plain (inline 1 41) "any")
      ∷ attribute_of (name (inline 1 52) "h") (plain (inline 1 55) "any")
      ∷ []);
}

-- class C feature f (x: ANY) do end end
abbrev pub class_c : ClassT
class_c = record (class (inline 1 7) "c") {
  features = with_features (
      command (inline 1 17) "f" (group (name (inline 1 20) "x" ∷ []) (plain (inline 1 23) "any") ∷ [])
      ∷ []);
}

-- deferred class D feature f (x: ANY) deferred end end
abbrev pub class_d : ClassT
class_d = record (deferred_class (inline 1 16) "d") {
  features = with_features (
      declared (name (inline 1 26) "f") (group (name (inline 1 29) "x" ∷ []) (plain (inline 1 32) "any") ∷ [])
      None deferred_body
      ∷ []);
}

-- deferred class E feature f (x: STRING) deferred end end
abbrev pub class_e : ClassT
class_e = record (deferred_class (inline 1 16) "e") {
  features = with_features (
      declared (name (inline 1 26) "f")
      (group (name (inline 1 29) "x" ∷ []) (plain (inline 1 32) "string") ∷ []) None deferred_body
      ∷ []);
}

-- deferred class G feature g: STRING deferred end end
abbrev pub class_g : ClassT
class_g = record (deferred_class (inline 1 16) "g") {
  features = with_features (
      declared (name (inline 1 26) "g") [] (Some (plain (inline 1 29) "string")) deferred_body
      ∷ []);
}

-- class B end
abbrev pub class_b : ClassT
class_b = class (at 7) "b"

-- a fault of the class B at that column of its text
abbrev pub fault_of_b : Code → ℕ → ℕ → String → Fault
fault_of_b code case column about = fault_at class_b code case (at column) (codes about)

-- a fault in a feature of the class B
abbrev pub fault_in_b : String → Code → ℕ → ℕ → String → Fault
fault_in_b feature code case column about = fault_in class_b (codes feature) code case (at column) (codes about)

-- class B inherit A redefine f end feature f do end end
abbrev pub other_count_b : ClassT
other_count_b = record class_b {
  parents = redefining (name (at 28) "f" ∷ []) (parent (at 17) "a") ∷ [];
  features = with_features (procedure (name (at 42) "f") no_inss ∷ []);
}

-- class B inherit A redefine f end feature f (x: ANY) do end end
abbrev pub other_argument_b : ClassT
other_argument_b = record class_b {
  parents = redefining (name (at 28) "f" ∷ []) (parent (at 17) "a") ∷ [];
  features = with_features (
      command (at 42) "f" (group (name (at 45) "x" ∷ []) (plain (at 48) "any") ∷ [])
      ∷ []);
}

-- class B inherit A redefine f end feature f (x: STRING): ANY do end end
abbrev pub function_for_procedure_b : ClassT
function_for_procedure_b = record class_b {
  parents = redefining (name (at 28) "f" ∷ []) (parent (at 17) "a") ∷ [];
  features = with_features (
      query (at 42) "f" (group (name (at 45) "x" ∷ []) (plain (at 48) "string") ∷ []) (plain (at 57) "any")
      ∷ []);
}

-- class B inherit A redefine g end feature g do end end
abbrev pub procedure_for_function_b : ClassT
procedure_for_function_b = record class_b {
  parents = redefining (name (at 28) "g" ∷ []) (parent (at 17) "a") ∷ [];
  features = with_features (procedure (name (at 42) "g") no_inss ∷ []);
}

-- class B inherit A redefine g end feature g: detachable ANY do end end
abbrev pub other_result_b : ClassT
other_result_b = record class_b {
  parents = redefining (name (at 28) "g" ∷ []) (parent (at 17) "a") ∷ [];
  features = with_features (query (at 42) "g" [] (maybe (at 45) (at 56) "any") ∷ []);
}

-- class B inherit A redefine h end feature h: ANY do end end
abbrev pub function_for_attribute_b : ClassT
function_for_attribute_b = record class_b {
  parents = redefining (name (at 28) "h" ∷ []) (parent (at 17) "a") ∷ [];
  features = with_features (query (at 42) "h" [] (plain (at 45) "any") ∷ []);
}

-- class B inherit A redefine h end feature h: STRING end
abbrev pub other_attribute_b : ClassT
other_attribute_b = record class_b {
  parents = redefining (name (at 28) "h" ∷ []) (parent (at 17) "a") ∷ [];
  features = with_features (attribute_of (name (at 42) "h") (plain (at 45) "string") ∷ []);
}

-- class B inherit A redefine h end feature h (x: ANY): detachable ANY do end end
abbrev pub first_counts_b : ClassT
first_counts_b = record class_b {
  parents = redefining (name (at 28) "h" ∷ []) (parent (at 17) "a") ∷ [];
  features = with_features (
      query (at 42) "h" (group (name (at 45) "x" ∷ []) (plain (at 48) "any") ∷ []) (maybe (at 54) (at 65) "any")
      ∷ []);
}

-- class B inherit A redefine f end feature f (x: STRING) do end end
abbrev pub same_arguments_b : ClassT
same_arguments_b = record class_b {
  parents = redefining (name (at 28) "f" ∷ []) (parent (at 17) "a") ∷ [];
  features = with_features (
      command (at 42) "f" (group (name (at 45) "x" ∷ []) (plain (at 48) "string") ∷ [])
      ∷ []);
}

-- class B inherit A redefine g end feature g: STRING do end end
abbrev pub stricter_result_b : ClassT
stricter_result_b = record class_b {
  parents = redefining (name (at 28) "g" ∷ []) (parent (at 17) "a") ∷ [];
  features = with_features (query (at 42) "g" [] (plain (at 45) "string") ∷ []);
}

-- class B inherit A redefine g end feature g: STRING end
abbrev pub attribute_for_function_b : ClassT
attribute_for_function_b = record class_b {
  parents = redefining (name (at 28) "g" ∷ []) (parent (at 17) "a") ∷ [];
  features = with_features (attribute_of (name (at 42) "g") (plain (at 45) "string") ∷ []);
}

-- class B inherit A redefine h end feature h: ANY end
abbrev pub same_attribute_b : ClassT
same_attribute_b = record class_b {
  parents = redefining (name (at 28) "h" ∷ []) (parent (at 17) "a") ∷ [];
  features = with_features (attribute_of (name (at 42) "h") (plain (at 45) "any") ∷ []);
}

-- class B inherit A redefine f end C redefine f end feature f do end end
abbrev pub each_entry_b : ClassT
each_entry_b = record class_b {
  parents =
      redefining (name (at 28) "f" ∷ []) (parent (at 17) "a")
      ∷ redefining (name (at 45) "f" ∷ []) (parent (at 34) "c")
      ∷ [];
  features = with_features (procedure (name (at 59) "f") no_inss ∷ []);
}

-- class B inherit D feature f do end end
abbrev pub deferred_entry_b : ClassT
deferred_entry_b = record class_b {
  parents = parent (at 17) "d" ∷ [];
  features = with_features (procedure (name (at 27) "f") no_inss ∷ []);
}

pub record RedeclarationExamples : Type 0 where
  -- VDRD.1
  pub other_count : phase (other_count_b ∷ class_a ∷ []) ≡ fault_in_b "f" code.Vdrd 1 42 "a" ∷ []
  -- VDRD.2
  pub other_argument : phase (other_argument_b ∷ class_a ∷ []) ≡ fault_in_b "f" code.Vdrd 2 42 "a" ∷ []
  -- VDRD.3
  pub function_for_procedure : phase (function_for_procedure_b ∷ class_a ∷ [])
      ≡ fault_in_b "f" code.Vdrd 3 42 "a" ∷ []
  pub procedure_for_function : phase (procedure_for_function_b ∷ class_a ∷ [])
      ≡ fault_in_b "g" code.Vdrd 3 42 "a" ∷ []
  -- VDRD.4
  pub other_result : phase (other_result_b ∷ class_a ∷ []) ≡ fault_in_b "g" code.Vdrd 4 42 "a" ∷ []
  -- VDRD.5
  pub function_for_attribute : phase (function_for_attribute_b ∷ class_a ∷ [])
      ≡ fault_in_b "h" code.Vdrd 5 42 "a" ∷ []
  pub other_attribute : phase (other_attribute_b ∷ class_a ∷ []) ≡ fault_in_b "h" code.Vdrd 5 42 "a" ∷ []
  -- of several of these rules the first counts
  pub first_counts : phase (first_counts_b ∷ class_a ∷ []) ≡ fault_in_b "h" code.Vdrd 1 42 "a" ∷ []
  pub same_arguments : phase (same_arguments_b ∷ class_a ∷ []) ≡ []
  pub stricter_result : phase (stricter_result_b ∷ class_a ∷ []) ≡ []
  pub attribute_for_function : phase (attribute_for_function_b ∷ class_a ∷ []) ≡ []
  pub same_attribute : phase (same_attribute_b ∷ class_a ∷ []) ≡ []
  pub each_entry : phase (each_entry_b ∷ class_a ∷ class_c ∷ [])
      ≡ fault_in_b "f" code.Vdrd 1 59 "a" ∷ fault_in_b "f" code.Vdrd 1 59 "c" ∷ []
  pub deferred_entry : phase (deferred_entry_b ∷ class_d ∷ []) ≡ fault_in_b "f" code.Vdrd 1 27 "d" ∷ []

-- class B inherit A D end
abbrev pub unfit_deferred_b : ClassT
unfit_deferred_b = inherits (parent (at 17) "a" ∷ parent (at 19) "d" ∷ []) class_b

-- class B inherit A E end
abbrev pub fit_deferred_b : ClassT
fit_deferred_b = inherits (parent (at 17) "a" ∷ parent (at 19) "e" ∷ []) class_b

-- class B inherit A C undefine f end end
abbrev pub unfit_undefined_b : ClassT
unfit_undefined_b = record class_b {
  parents = parent (at 17) "a" ∷ undefining (name (at 30) "f" ∷ []) (parent (at 19) "c") ∷ [];
}

-- class B inherit A G end
abbrev pub unfit_result_b : ClassT
unfit_result_b = inherits (parent (at 17) "a" ∷ parent (at 19) "g" ∷ []) class_b

-- deferred class B inherit D E end
abbrev pub unequal_join_b : ClassT
unequal_join_b = inherits (parent (at 26) "d" ∷ parent (at 28) "e" ∷ []) (deferred_class (at 16) "b")

-- deferred class B inherit D D end
abbrev pub equal_join_b : ClassT
equal_join_b = inherits (parent (at 26) "d" ∷ parent (at 28) "d" ∷ []) (deferred_class (at 16) "b")

-- deferred class B inherit A undefine f end D end
abbrev pub undefined_join_b : ClassT
undefined_join_b = record (deferred_class (at 16) "b") {
  parents = undefining (name (at 37) "f" ∷ []) (parent (at 26) "a") ∷ parent (at 43) "d" ∷ [];
}

pub record JoinExamples : Type 0 where
  -- VDRD.6
  pub unfit_deferred : phase (unfit_deferred_b ∷ class_a ∷ class_d ∷ []) ≡ fault_of_b code.Vdrd 6 7 "f" ∷ []
  pub fit_deferred : phase (fit_deferred_b ∷ class_a ∷ class_e ∷ []) ≡ []
  pub unfit_undefined : phase (unfit_undefined_b ∷ class_a ∷ class_c ∷ []) ≡ fault_of_b code.Vdrd 6 7 "f" ∷ []
  pub unfit_result : phase (unfit_result_b ∷ class_a ∷ class_g ∷ []) ≡ fault_of_b code.Vdrd 6 7 "g" ∷ []
  -- VDJR.1
  pub unequal_join : phase (unequal_join_b ∷ class_d ∷ class_e ∷ []) ≡ fault_of_b code.Vdjr 1 16 "f" ∷ []
  pub equal_join : phase (equal_join_b ∷ class_d ∷ []) ≡ []
  pub undefined_join : phase (undefined_join_b ∷ class_a ∷ class_d ∷ []) ≡ fault_of_b code.Vdjr 1 16 "f" ∷ []

-- L [L [.. G ..]], with so many L, which stand nowhere
abbrev pub lists : ℕ → TypeT
lists zero = plain nowhere "g"
lists (suc n) = of nowhere "l" (lists n)

-- class L [G] feature f: L [L [.. G ..]] end, with 100 names in the type
abbrev pub class_l : ClassT
class_l =
    generic (formal (inline 1 10) "g" ∷ [])
    (declares (attribute_of (name (inline 1 21) "f") (lists 99) ∷ []) (class (inline 1 7) "l"))

-- L [L [ANY]], from column 17 on
abbrev pub larger_l : TypeT
larger_l = of (at 17) "l" (of (at 20) "l" (plain (at 23) "any"))

-- L [ANY], from column 17 on
abbrev pub smaller_l : TypeT
smaller_l = of (at 17) "l" (plain (at 20) "any")

-- class B inherit .. end, with what else it says
abbrev pub below : TypeT → ClassT → ClassT
below parent b = inherits (parent_clause parent ∷ []) b

-- class B inherit L [L [ANY]] end
abbrev pub large_b : ClassT
large_b = below larger_l class_b

-- class B inherit L [L [ANY]] redefine f end feature f do end end
abbrev pub large_alone_b : ClassT
large_alone_b =
    inherits (redefining (name (at 38) "f" ∷ []) (parent_clause larger_l) ∷ [])
    (declares (procedure (name (at 52) "f") no_inss ∷ []) class_b)

-- class B inherit L [ANY] end
abbrev pub largest_b : ClassT
largest_b = below smaller_l class_b

-- class C inherit B end
abbrev pub class_c_below_b : ClassT
class_c_below_b = inherits (parent (inline 2 17) "b" ∷ []) (class (inline 2 7) "c")

pub record SizeExamples : Type 0 where
  -- XLIM.9
  pub large : phase (large_b ∷ class_l ∷ []) ≡ fault_of_b code.Xlim 9 7 "f" ∷ []
  -- of that name nothing else is judged
  pub large_alone : phase (large_alone_b ∷ class_l ∷ []) ≡ fault_of_b code.Xlim 9 7 "f" ∷ []
  pub largest : phase (largest_b ∷ class_l ∷ []) ≡ []
  -- B's f is as large in its heir
  pub large_below : phase (large_b ∷ class_l ∷ class_c_below_b ∷ [])
      ≡ fault_of_b code.Xlim 9 7 "f" ∷ fault_at class_c code.Xlim 9 (inline 2 7) (codes "f") ∷ []

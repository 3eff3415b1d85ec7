-- The rules of one parent clause: a class that breaks each of them, with exactly the faults of its phase, and one that
-- keeps it. Above each stands its class text, in file 0; its parent A is file 1.
use Prim.Native.String.{String}
use Rattle.std.specs.Prelude.{◌≡◌, ℕ, pos, List, [], ◌∷◌, codes}
use Rattle.eif_base.specs.declared.code.Code.{Code}
use Rattle.eif_base.specs.declared.code.Code.TheVariants as code
use Rattle.eif_base.specs.declared.fault.Fault.{Fault}
use Rattle.eif_tree.specs.declared.tree.Literal.TheVariants as value
use Rattle.eif_tree.specs.Tree.{no_inss, ClassT}
use Rattle.eif_system.specs.TreeForms.{attribute_of, deferred_procedure, inline, procedure, with_features}
use Rattle.eif_rules.specs.FaultForms.{fault_at}
use Rattle.eif_feature_rules.specs.FeaturePhases.{feature_faults, each_given}
use Rattle.eif_feature_rules_laws.specs.PlacedClasses.{at, name, plain, pair, renaming, export, export_all, exporting, undefining, redefining, selecting, parent, constant_of, deferred_class, inherits}

-- deferred class A feature f do end g do end x: ANY h deferred end k: INTEGER = 1 end
abbrev pub class_a : ClassT
class_a = record (deferred_class (inline 1 16) "a") {
  features = with_features (
      procedure (name (inline 1 26) "f") no_inss
      ∷ procedure (name (inline 1 35) "g") no_inss
      ∷ attribute_of (name (inline 1 44) "x") (plain (inline 1 47) "any")
      ∷ deferred_procedure (name (inline 1 51) "h")
      ∷ constant_of (name (inline 1 66) "k" ∷ []) (plain (inline 1 69) "integer") (value.Int (pos 1))
      ∷ []);
}

-- deferred class B end
abbrev pub class_b : ClassT
class_b = deferred_class (at 16) "b"

-- the faults of the phase of features, where B and A are given
abbrev pub below_a : ClassT → List Fault
below_a b = each_given feature_faults (b ∷ class_a ∷ [])

-- a fault of the class B in no feature
abbrev pub fault_of_b : Code → ℕ → ℕ → String → Fault
fault_of_b code case column about = fault_at class_b code case (at column) (codes about)

-- deferred class B inherit A rename nope as n end end
abbrev pub unknown_rename_b : ClassT
unknown_rename_b = inherits (renaming (pair (at 35) "nope" (at 43) "n" ∷ []) (parent (at 26) "a") ∷ []) class_b

-- deferred class B inherit A rename f as n, f as m end end
abbrev pub repeated_rename_b : ClassT
repeated_rename_b = record class_b {
  parents =
      renaming (pair (at 35) "f" (at 40) "n" ∷ pair (at 43) "f" (at 48) "m" ∷ []) (parent (at 26) "a")
      ∷ [];
}

-- deferred class B inherit A rename f as n, g as m end end
abbrev pub two_renames_b : ClassT
two_renames_b = record class_b {
  parents =
      renaming (pair (at 35) "f" (at 40) "n" ∷ pair (at 43) "g" (at 48) "m" ∷ []) (parent (at 26) "a")
      ∷ [];
}

-- deferred class B inherit A rename no as n, no as m end end
abbrev pub unknown_twice_b : ClassT
unknown_twice_b = record class_b {
  parents =
      renaming (pair (at 35) "no" (at 41) "n" ∷ pair (at 44) "no" (at 50) "m" ∷ []) (parent (at 26) "a")
      ∷ [];
}

pub record RenameExamples : Type 0 where
  -- VHRC.1
  pub unknown_rename : below_a unknown_rename_b ≡ fault_of_b code.Vhrc 1 35 "nope" ∷ []
  -- VHRC.2
  pub repeated_rename : below_a repeated_rename_b ≡ fault_of_b code.Vhrc 2 43 "f" ∷ []
  pub two_renames : below_a two_renames_b ≡ []
  -- of several rules of one code the first counts
  pub unknown_twice : below_a unknown_twice_b
      ≡ fault_of_b code.Vhrc 1 35 "no" ∷ fault_of_b code.Vhrc 1 44 "no" ∷ []

-- deferred class B inherit A export {ANY} nope end end
abbrev pub unknown_export_b : ClassT
unknown_export_b = record class_b {
  parents =
      exporting (export (name (at 36) "any" ∷ []) (name (at 41) "nope" ∷ []) ∷ []) (parent (at 26) "a")
      ∷ [];
}

-- deferred class B inherit A rename f as n export {ANY} f end end
abbrev pub renamed_export_b : ClassT
renamed_export_b = record class_b {
  parents =
      exporting (export (name (at 50) "any" ∷ []) (name (at 55) "f" ∷ []) ∷ [])
      (renaming (pair (at 35) "f" (at 40) "n" ∷ []) (parent (at 26) "a"))
      ∷ [];
}

-- deferred class B inherit A export {ANY} f {NONE} f end end
abbrev pub repeated_export_b : ClassT
repeated_export_b = record class_b {
  parents =
      exporting
      (export (name (at 36) "any" ∷ []) (name (at 41) "f" ∷ [])
      ∷ export (name (at 44) "none" ∷ []) (name (at 50) "f" ∷ [])
      ∷ []) (parent (at 26) "a")
      ∷ [];
}

-- deferred class B inherit A export {ANY} f {NONE} g end end
abbrev pub two_exports_b : ClassT
two_exports_b = record class_b {
  parents =
      exporting
      (export (name (at 36) "any" ∷ []) (name (at 41) "f" ∷ [])
      ∷ export (name (at 44) "none" ∷ []) (name (at 50) "g" ∷ [])
      ∷ []) (parent (at 26) "a")
      ∷ [];
}

-- deferred class B inherit A export {ANY} all {NONE} all end end
abbrev pub repeated_all_b : ClassT
repeated_all_b = record class_b {
  parents =
      exporting
      (export_all (name (at 36) "any" ∷ []) (at 41) ∷ export_all (name (at 46) "none" ∷ []) (at 52) ∷ [])
      (parent (at 26) "a")
      ∷ [];
}

-- deferred class B inherit A export {ANY} all {NONE} f end end
abbrev pub one_all_b : ClassT
one_all_b = record class_b {
  parents =
      exporting
      (export_all (name (at 36) "any" ∷ []) (at 41)
      ∷ export (name (at 46) "none" ∷ []) (name (at 52) "f" ∷ [])
      ∷ []) (parent (at 26) "a")
      ∷ [];
}

-- deferred class B inherit A export {ANY} no, no end end
abbrev pub unknown_exports_b : ClassT
unknown_exports_b = record class_b {
  parents =
      exporting (export (name (at 36) "any" ∷ []) (name (at 41) "no" ∷ name (at 45) "no" ∷ []) ∷ [])
      (parent (at 26) "a")
      ∷ [];
}

pub record ExportExamples : Type 0 where
  -- VLEL.1
  pub unknown_export : below_a unknown_export_b ≡ fault_of_b code.Vlel 1 41 "nope" ∷ []
  -- a renamed feature goes by its new name
  pub renamed_export : below_a renamed_export_b ≡ fault_of_b code.Vlel 1 55 "f" ∷ []
  -- VLEL.2
  pub repeated_export : below_a repeated_export_b ≡ fault_of_b code.Vlel 2 50 "f" ∷ []
  pub two_exports : below_a two_exports_b ≡ []
  -- VLEL.3
  pub repeated_all : below_a repeated_all_b ≡ fault_of_b code.Vlel 3 52 "all" ∷ []
  pub one_all : below_a one_all_b ≡ []
  -- of several rules of one code the first counts
  pub unknown_exports : below_a unknown_exports_b
      ≡ fault_of_b code.Vlel 1 41 "no" ∷ fault_of_b code.Vlel 1 45 "no" ∷ []

-- deferred class B inherit A undefine nope end end
abbrev pub unknown_undefine_b : ClassT
unknown_undefine_b = inherits (undefining (name (at 37) "nope" ∷ []) (parent (at 26) "a") ∷ []) class_b

-- deferred class B inherit A undefine f, f end end
abbrev pub repeated_undefine_b : ClassT
repeated_undefine_b = record class_b {
  parents = undefining (name (at 37) "f" ∷ name (at 40) "f" ∷ []) (parent (at 26) "a") ∷ [];
}

-- deferred class B inherit A undefine x end end
abbrev pub attribute_undefine_b : ClassT
attribute_undefine_b = inherits (undefining (name (at 37) "x" ∷ []) (parent (at 26) "a") ∷ []) class_b

-- deferred class B inherit A undefine h end end
abbrev pub deferred_undefine_b : ClassT
deferred_undefine_b = inherits (undefining (name (at 37) "h" ∷ []) (parent (at 26) "a") ∷ []) class_b

-- deferred class B inherit A undefine f, g end end
abbrev pub two_undefines_b : ClassT
two_undefines_b = record class_b {
  parents = undefining (name (at 37) "f" ∷ name (at 40) "g" ∷ []) (parent (at 26) "a") ∷ [];
}

-- deferred class B inherit A undefine k end end
abbrev pub constant_undefine_b : ClassT
constant_undefine_b = inherits (undefining (name (at 37) "k" ∷ []) (parent (at 26) "a") ∷ []) class_b

-- deferred class B inherit A rename x as f undefine f end end
abbrev pub one_entry_b : ClassT
one_entry_b = record class_b {
  parents =
      undefining (name (at 51) "f" ∷ []) (renaming (pair (at 35) "x" (at 40) "f" ∷ []) (parent (at 26) "a"))
      ∷ [];
}

-- deferred class B inherit A undefine x, x end end
abbrev pub attribute_twice_b : ClassT
attribute_twice_b = record class_b {
  parents = undefining (name (at 37) "x" ∷ name (at 40) "x" ∷ []) (parent (at 26) "a") ∷ [];
}

-- deferred class B inherit A rename x as h undefine h end end
abbrev pub attribute_and_deferred_b : ClassT
attribute_and_deferred_b = record class_b {
  parents =
      undefining (name (at 51) "h" ∷ []) (renaming (pair (at 35) "x" (at 40) "h" ∷ []) (parent (at 26) "a"))
      ∷ [];
}

-- deferred class B inherit A rename f as h undefine h end end
abbrev pub routine_and_deferred_b : ClassT
routine_and_deferred_b = record class_b {
  parents =
      undefining (name (at 51) "h" ∷ []) (renaming (pair (at 35) "f" (at 40) "h" ∷ []) (parent (at 26) "a"))
      ∷ [];
}

pub record UndefineExamples : Type 0 where
  -- VDUS.1
  pub unknown_undefine : below_a unknown_undefine_b ≡ fault_of_b code.Vdus 1 37 "nope" ∷ []
  -- VDUS.2
  pub repeated_undefine : below_a repeated_undefine_b ≡ fault_of_b code.Vdus 2 40 "f" ∷ []
  -- VDUS.3
  pub attribute_undefine : below_a attribute_undefine_b ≡ fault_of_b code.Vdus 3 37 "x" ∷ []
  -- VDUS.4
  pub deferred_undefine : below_a deferred_undefine_b ≡ fault_of_b code.Vdus 4 37 "h" ∷ []
  pub two_undefines : below_a two_undefines_b ≡ []
  -- a constant is a routine
  pub constant_undefine : below_a constant_undefine_b ≡ []
  -- one entry of the name is enough
  pub one_entry : below_a one_entry_b ≡ fault_of_b code.Vdus 3 51 "f" ∷ []
  pub attribute_twice : below_a attribute_twice_b
      ≡ fault_of_b code.Vdus 3 37 "x" ∷ fault_of_b code.Vdus 2 40 "x" ∷ []
  -- one entry is an attribute and one is deferred
  pub attribute_and_deferred : below_a attribute_and_deferred_b ≡ fault_of_b code.Vdus 3 51 "h" ∷ []
  -- one of two entries is deferred
  pub routine_and_deferred : below_a routine_and_deferred_b ≡ fault_of_b code.Vdus 4 51 "h" ∷ []

-- deferred class B inherit A redefine nope end end
abbrev pub unknown_redefine_b : ClassT
unknown_redefine_b = inherits (redefining (name (at 37) "nope" ∷ []) (parent (at 26) "a") ∷ []) class_b

-- deferred class B inherit A redefine f, f end feature f do end end
abbrev pub repeated_redefine_b : ClassT
repeated_redefine_b = record class_b {
  parents = redefining (name (at 37) "f" ∷ name (at 40) "f" ∷ []) (parent (at 26) "a") ∷ [];
  features = with_features (procedure (name (at 54) "f") no_inss ∷ []);
}

-- deferred class B inherit A redefine f end feature f do end end
abbrev pub one_redefine_b : ClassT
one_redefine_b = record class_b {
  parents = redefining (name (at 37) "f" ∷ []) (parent (at 26) "a") ∷ [];
  features = with_features (procedure (name (at 51) "f") no_inss ∷ []);
}

-- deferred class B inherit A select nope end end
abbrev pub unknown_select_b : ClassT
unknown_select_b = inherits (selecting (name (at 35) "nope" ∷ []) (parent (at 26) "a") ∷ []) class_b

-- deferred class B inherit A select f, f, x, g, h, k end A rename f as n, x as y, g as i, h as j, k as l end end
abbrev pub repeated_select_b : ClassT
repeated_select_b = record class_b {
  parents =
      selecting
      (name (at 35) "f"
      ∷ name (at 38) "f"
      ∷ name (at 41) "x"
      ∷ name (at 44) "g"
      ∷ name (at 47) "h"
      ∷ name (at 50) "k"
      ∷ []) (parent (at 26) "a")
      ∷ renaming
      (pair (at 65) "f" (at 70) "n"
      ∷ pair (at 73) "x" (at 78) "y"
      ∷ pair (at 81) "g" (at 86) "i"
      ∷ pair (at 89) "h" (at 94) "j"
      ∷ pair (at 97) "k" (at 102) "l"
      ∷ []) (parent (at 56) "a")
      ∷ [];
}

-- deferred class B inherit A select f, x, g, h, k end A rename f as n, x as y, g as i, h as j, k as l end end
abbrev pub one_select_b : ClassT
one_select_b = record class_b {
  parents =
      selecting
      (name (at 35) "f" ∷ name (at 38) "x" ∷ name (at 41) "g" ∷ name (at 44) "h" ∷ name (at 47) "k" ∷ [])
      (parent (at 26) "a")
      ∷ renaming
      (pair (at 62) "f" (at 67) "n"
      ∷ pair (at 70) "x" (at 75) "y"
      ∷ pair (at 78) "g" (at 83) "i"
      ∷ pair (at 86) "h" (at 91) "j"
      ∷ pair (at 94) "k" (at 99) "l"
      ∷ []) (parent (at 53) "a")
      ∷ [];
}

-- deferred class B inherit A redefine no, no end end
abbrev pub unknown_redefines_b : ClassT
unknown_redefines_b = record class_b {
  parents = redefining (name (at 37) "no" ∷ name (at 41) "no" ∷ []) (parent (at 26) "a") ∷ [];
}

-- deferred class B inherit A select no, no end end
abbrev pub unknown_selects_b : ClassT
unknown_selects_b = record class_b {
  parents = selecting (name (at 35) "no" ∷ name (at 39) "no" ∷ []) (parent (at 26) "a") ∷ [];
}

pub record ListExamples : Type 0 where
  -- VDRS.1
  pub unknown_redefine : below_a unknown_redefine_b ≡ fault_of_b code.Vdrs 1 37 "nope" ∷ []
  -- VDRS.2
  pub repeated_redefine : below_a repeated_redefine_b ≡ fault_of_b code.Vdrs 2 40 "f" ∷ []
  pub one_redefine : below_a one_redefine_b ≡ []
  -- VMSS.1
  pub unknown_select : below_a unknown_select_b ≡ fault_of_b code.Vmss 1 35 "nope" ∷ []
  -- VMSS.2
  pub repeated_select : below_a repeated_select_b ≡ fault_of_b code.Vmss 2 38 "f" ∷ []
  pub one_select : below_a one_select_b ≡ []
  -- of several rules of one code the first counts
  pub unknown_redefines : below_a unknown_redefines_b
      ≡ fault_of_b code.Vdrs 1 37 "no" ∷ fault_of_b code.Vdrs 1 41 "no" ∷ []
  pub unknown_selects : below_a unknown_selects_b
      ≡ fault_of_b code.Vmss 1 35 "no" ∷ fault_of_b code.Vmss 1 39 "no" ∷ []

-- The rules of object tests, and the locals that they bind.
use Rattle.std.specs.Prelude.{ℕ, Bool, true, false, List, [], ◌++◌, map, Option, Some, None}
use Rattle.std.specs.Option.{option_map, option_map_or, option_to_list}
use Rattle.eif_base.specs.declared.code.Code.TheVariants as code
use Rattle.eif_base.specs.declared.fault.Fault.{Fault}
use Rattle.eif_base.specs.declared.place.Place.{Place}
use Rattle.eif_base.specs.Numbering.{is_among}
use Rattle.eif_tree.specs.declared.tree.NameAt.{NameAt}
use Rattle.eif_tree.specs.Tree.{TypeT, Ex, literal, void_value, current_value, result_value, unqualified, precursor, qualified, creation, test, paren, unary, binary, Exs, no_exs, and_ex}
use Rattle.eif_classes.specs.Resolution.{resolved}
use Rattle.eif_classes.specs.Types.{TyT, attached_form}
use Rattle.eif_system.specs.WrittenTypes.{type_mark, type_name, type_place}
use Rattle.eif_rules.specs.FaultForms.{fault_where}
use Rattle.eif_rules.specs.UniverseRules.{is_detachable}
use Rattle.eif_body_rules.specs.Facts.{Fact, usable}
use Rattle.eif_body_rules.specs.Judgements.{Judged, fine, unless, first_of}
use Rattle.eif_body_rules.specs.OperatorRules.{boolean}
use Rattle.eif_body_rules.specs.Settings.{Setting, fault, Meaning, unknown, meaning}

-- ---- the locals of the tests in an expression, by the first tokens of the tests: an outer test before those in it

abbrev pub local_names : Option NameAt → List (List ℕ)
local_names local = option_to_list (option_map (λ n. n.name) local)

abbrev mutual
  pub test_names : Ex → List (List ℕ)
  test_names (literal p x) = []
  test_names (void_value p) = []
  test_names (current_value p) = []
  test_names (result_value p) = []
  test_names (unqualified p x args) = test_names_in args
  test_names (precursor p x args) = test_names_in args
  test_names (qualified p e x args) = test_names e ++ test_names_in args
  test_names (creation p t x args) = test_names_in args
  test_names (test p t local e) = local_names local ++ test_names e
  test_names (paren p e) = test_names e
  test_names (unary p o e) = test_names e
  test_names (binary p o q left right) = test_names left ++ test_names right

  pub test_names_in : Exs → List (List ℕ)
  test_names_in no_exs = []
  test_names_in (and_ex e es) = test_names e ++ test_names_in es

-- ---- the rules, behind the tests of those names in the same whole expression

abbrev pub denotes : Meaning → Bool
denotes unknown = false
denotes _ = true

-- VUOT.1: the local has the name of a feature, argument or local, or of a test's local that may be used here
abbrev pub taken_name : Setting → List Fact → NameAt → List Fault
taken_name s k local = fault_where (denotes (meaning s k local.name)) (fault s code.Vuot 1 local.place local.name)

-- VUOT.2: an earlier test in the same whole expression has the name
abbrev pub repeated_name : Setting → List (List ℕ) → NameAt → List Fault
repeated_name s earlier local = fault_where (is_among earlier local.name) (fault s code.Vuot 2 local.place local.name)

abbrev pub local_faults : Setting → List Fact → List (List ℕ) → NameAt → List Fault
local_faults s k earlier local = first_of (taken_name s k local) (repeated_name s earlier local)

-- VUOT.3: the written type has the mark detachable
abbrev pub wrong_test_type : Setting → TypeT → List Fault
wrong_test_type s t = fault_where (is_detachable (type_mark t)) (fault s code.Vuot 3 (type_place t) (type_name t))

-- the first of these
unfoldable pub test_faults : Setting → List Fact → List (List ℕ) → Option TypeT → Option NameAt → List Fault
test_faults s k earlier t local =
    first_of (option_map_or (local_faults s k earlier) local []) (option_map_or (wrong_test_type s) t [])

-- a test that keeps them gives a BOOLEAN
abbrev pub test_rule : List Fault → TyT → Judged TyT
test_rule wrong tested = unless wrong (fine boolean)

-- ---- the local

-- the attached form of the written type, else of the type of what is tested
abbrev pub local_type : Setting → Option TypeT → Option TyT → Option TyT
local_type s None tested = option_map attached_form tested
local_type s (Some t) tested = Some (attached_form (resolved s.universe s.text t))

-- the local of a test at p may be used
unfoldable pub bound_local : Place → Option NameAt → Option TyT → List Fact
bound_local p local t = map (λ x. usable x (record { place = p; type = t })) (local_names local)

-- The type of an expression, its faults, and the facts that it tells.
use Rattle.std.specs.Prelude.{ℕ, Bool, not, if◌then◌else◌, List, [], ◌∷◌, ◌++◌, map, Option}
use Rattle.eif_base.specs.declared.code.Code.TheVariants as code
use Rattle.eif_base.specs.declared.fault.Fault.{Fault}
use Rattle.eif_base.specs.declared.place.Place.{Place}
use Rattle.eif_tree.specs.ExpressionPlaces.{place_of}
use Rattle.eif_tree.specs.Tree.{Ex, literal, void_value, current_value, result_value, unqualified, precursor, qualified, creation, test, paren, unary, binary, Exs, no_exs, and_ex}
use Rattle.eif_classes.specs.Resolution.{own_type}
use Rattle.eif_classes.specs.Types.{TyT, none_type}
use Rattle.eif_body_rules.specs.CallRules.{Argument, name_rule, result_rule, call_rule, precursor_rule}
use Rattle.eif_body_rules.specs.Conditions.{tested_name, goes_on, left_value, at_right, told_by_unary, told_by_operands, told_by_void}
use Rattle.eif_body_rules.specs.CreationRules.{of_written, creation_faults, creation_rule}
use Rattle.eif_body_rules.specs.Facts.{Fact, attached}
use Rattle.eif_body_rules.specs.Judgements.{Judged, fine, ◌▹◌, ◌⊗◌}
use Rattle.eif_body_rules.specs.OperatorRules.{literal_type, unary_rule, binary_rule}
use Rattle.eif_body_rules.specs.Outcomes.{as_value}
use Rattle.eif_body_rules.specs.Settings.{Setting, is_testable}
use Rattle.eif_body_rules.specs.TestRules.{local_names, test_names, test_faults, test_rule, local_type, bound_local}

-- an argument and those behind it
abbrev pub first_argument : Place → TyT × List Argument → Judged (List Argument)
first_argument p (t, args) = fine (record { place = p; type = t } ∷ args)

-- these names are attached
abbrev pub all_attached : List (List ℕ) → List Fact
all_attached xs = map attached xs

-- where the test holds: its local may be used; what is tested is attached, if it is a testable name
abbrev pub told_by_test : Setting → Ex → List Fact → List Fact
told_by_test s e bound = all_attached (tested_name (is_testable s) e) ++ bound

-- where k is known, behind the tests with the names n in the same whole expression
abbrev mutual
  pub judge : Setting → List Fact → List (List ℕ) → Ex → Judged TyT
  judge s k n (literal p x) = fine (literal_type x)
  judge s k n (void_value p) = fine none_type
  judge s k n (current_value p) = fine (own_type s.number s.text)
  judge s k n (result_value p) = result_rule s p
  judge s k n (unqualified p x args) = judge_all s k n args ▹ name_rule s k p x ▹ as_value s p p x
  judge s k n (precursor p x args) = judge_all s k n args ▹ precursor_rule s p x ▹ as_value s p p s.feature
  judge s k n (qualified p e x args) =
      judge s k n e ⊗ judge_all s k (n ++ test_names e) args
      ▹ call_rule s (place_of e) x ▹ as_value s p x.place x.name
  judge s k n (creation p t x args) =
      judge_all s k n args
      ▹ creation_rule s (of_written s code.Vgce p t x) (creation_faults s (of_written s code.Vgce p t x))
  judge s k n (test p t local e) =
      judge s k (n ++ local_names local) e ▹ test_rule (test_faults s k n t local)
  judge s k n (paren p e) = judge s k n e
  judge s k n (unary p o e) = judge s k n e ▹ unary_rule s o p
  judge s k n (binary p o q left right) =
      judge s k n left ⊗ judge s (at_right o k (facts s k n (goes_on o) left)) (n ++ test_names left) right
      ▹ binary_rule s o q

  -- each by itself, from left to right
  pub judge_all : Setting → List Fact → List (List ℕ) → Exs → Judged (List Argument)
  judge_all s k n no_exs = fine []
  judge_all s k n (and_ex e es) =
      judge s k n e ⊗ judge_all s k (n ++ test_names e) es ▹ first_argument (place_of e)

  -- the facts that an expression tells where it has the value b; but for the types of tests' locals by the tree alone,
  -- so also of a test that breaks a rule
  pub facts : Setting → List Fact → List (List ℕ) → Bool → Ex → List Fact
  facts s k n b (literal p x) = []
  facts s k n b (void_value p) = []
  facts s k n b (current_value p) = []
  facts s k n b (result_value p) = []
  facts s k n b (unqualified p x args) = []
  facts s k n b (precursor p x args) = []
  facts s k n b (qualified p e x args) = []
  facts s k n b (creation p t x args) = []
  facts s k n b (test p t local e) =
      if b
      then told_by_test s e (bound_local p local (local_type s t (judge s k (n ++ local_names local) e).value))
      else []
  facts s k n b (paren p e) = facts s k n b e
  facts s k n b (unary p o e) = told_by_unary o (facts s k n (not b) e)
  facts s k n b (binary p o q left right) =
      all_attached (told_by_void (is_testable s) o b left right)
      ++ told_by_operands o b
      (facts s k n (left_value o b) left
      ++ facts s (at_right o k (facts s k n (goes_on o) left)) (n ++ test_names left) b right)

-- of a whole expression
abbrev pub type_of : Setting → List Fact → Ex → Option TyT
type_of s k e = (judge s k [] e).value

abbrev pub faults_of : Setting → List Fact → Ex → List Fault
faults_of s k e = (judge s k [] e).faults

abbrev pub told : Setting → List Fact → Bool → Ex → List Fact
told s k b e = facts s k [] b e

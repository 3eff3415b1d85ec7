-- The names of the object tests in an expression without faults.
use Rattle.std.specs.Prelude.{◌≡◌, ℕ, Bool, true, false, List, Some}
use Rattle.eif_base.specs.Numbering.{is_among}
use Rattle.eif_tree.specs.Tree.{Ex, Exs}
use Rattle.eif_classes.specs.Types.{TyT}
use Rattle.eif_body_rules.specs.CallRules.{Argument}
use Rattle.eif_body_rules.specs.ExpressionTypes.{judge, judge_all, facts}
use Rattle.eif_body_rules.specs.Facts.{Fact, Usable, usable_test}
use Rattle.eif_body_rules.specs.Settings.{Setting}
use Rattle.eif_body_rules.specs.TestRules.{test_names, test_names_in}
use Rattle.eif_valid_bodies.specs.Valid.{Valid}
use Rattle.eif_valid_bodies.specs.ValidNodes.{IsFree}

-- each denotes nothing where the expression stands, and is the name of no earlier test in the same whole expression
pub record TestsAreFree : Type 0 where
  pub expression :
      (s : Setting) (k : List Fact) (n : List (List ℕ)) (e : Ex) (t : TyT)
      → Valid (judge s k n e) t
      → (x : List ℕ) → is_among (test_names e) x ≡ true → IsFree s k x × (is_among n x ≡ false)
  pub arguments :
      (s : Setting) (k : List Fact) (n : List (List ℕ)) (es : Exs) (given : List Argument)
      → Valid (judge_all s k n es) given
      → (x : List ℕ) → is_among (test_names_in es) x ≡ true → IsFree s k x × (is_among n x ≡ false)

-- what an expression tells to be usable is the local of a test in it
abbrev pub OwnTestsAreTold : Type 0
OwnTestsAreTold =
    (s : Setting) (k : List Fact) (n : List (List ℕ)) (b : Bool) (e : Ex) (x : List ℕ) (u : Usable)
    → usable_test (facts s k n b e) x ≡ Some u → is_among (test_names e) x ≡ true

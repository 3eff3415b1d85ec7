-- What is judged to have a value and no fault, and what then holds of what is known.
use Rattle.std.specs.Prelude.{◌≡◌, Bool, List, [], ◌∷◌, Option, Some}
use Rattle.std.specs.Prelude.{ℕ}
use Rattle.eif_tree.specs.Tree.{Ex, Exs}
use Rattle.eif_classes.specs.Types.{TyT}
use Rattle.eif_body_rules.specs.CallRules.{Argument}
use Rattle.eif_body_rules.specs.ExpressionTypes.{judge, judge_all, facts}
use Rattle.eif_body_rules.specs.Facts.{Fact, attached, usable}
use Rattle.eif_body_rules.specs.Judgements.{Judged}
use Rattle.eif_body_rules.specs.Settings.{Setting}

-- a value, and no fault
pub record Valid {A : Type 0} (j : Judged A) (a : A) : Type 0 where
  pub value : j.value ≡ Some a
  pub faults : j.faults ≡ []

pub record HasType (t : Option TyT) : Type 0 where
  pub type : TyT
  pub is : t ≡ Some type

-- each local of a test that may be used has a type
abbrev pub TestsTyped : List Fact → Type 0
TestsTyped [] = Unit {0}
TestsTyped (attached x ∷ k) = TestsTyped k
TestsTyped (usable x t ∷ k) = HasType t.type × TestsTyped k

-- a type and no fault; and what the expression tells, whatever its value, is of typed tests
pub record TypedExpression (s : Setting) (k : List Fact) (n : List (List ℕ)) (e : Ex) : Type 0 where
  pub type : TyT
  pub valid : Valid (judge s k n e) type
  pub told : (b : Bool) → TestsTyped (facts s k n b e)

pub record TypedArguments (s : Setting) (k : List Fact) (n : List (List ℕ)) (es : Exs) : Type 0 where
  pub given : List Argument
  pub valid : Valid (judge_all s k n es) given

-- ---- the laws

-- where the tests that are known are typed, an expression without faults has a type, and tells typed tests
pub record NoFaultIsTyped : Type 0 where
  pub expression :
      (s : Setting) (k : List Fact) (n : List (List ℕ)) (e : Ex)
      → TestsTyped k → (judge s k n e).faults ≡ [] → TypedExpression s k n e
  pub arguments :
      (s : Setting) (k : List Fact) (n : List (List ℕ)) (es : Exs)
      → TestsTyped k → (judge_all s k n es).faults ≡ [] → TypedArguments s k n es

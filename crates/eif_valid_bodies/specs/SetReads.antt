-- Each read of a local, and of Result, is of one that is set: it has a value from the start, or is surely set.
use Rattle.std.specs.Prelude.{◌≡◌, ℕ, true, ◌||◌, List, [], ◌++◌, Option, Some, None}
use Rattle.eif_base.specs.Numbering.{is_among}
use Rattle.eif_tree.specs.Members.{result_name}
use Rattle.eif_tree.specs.Tree.{Ex, literal, void_value, current_value, result_value, unqualified, precursor, qualified, creation, test, paren, unary, binary, Exs, no_exs, and_ex}
use Rattle.eif_classes.specs.Types.{TyT, is_self_initialising}
use Rattle.eif_body_rules.specs.Conditions.{goes_on, at_right}
use Rattle.eif_body_rules.specs.ExpressionTypes.{facts}
use Rattle.eif_body_rules.specs.Facts.{Fact}
use Rattle.eif_body_rules.specs.LocalFlow.{unset, unset_in}
use Rattle.eif_body_rules.specs.Settings.{Setting, Meaning, entity, meaning}
use Rattle.eif_body_rules.specs.TestRules.{local_names, test_names}

-- where the names of the list are set
abbrev pub IsSet : List (List ℕ) → List ℕ → TyT → Type 0
IsSet set x t = (is_self_initialising t || is_among set x) ≡ true

-- what a name denotes, if it is a local
abbrev pub LocalIsSet : List (List ℕ) → List ℕ → Meaning → Type 0
LocalIsSet set x (entity e) = e.is_local ≡ true → IsSet set x e.type
LocalIsSet set x _ = Unit {0}

-- a call with arguments is no read of a local
abbrev pub NameIsSet : Setting → List Fact → List (List ℕ) → List ℕ → Exs → Type 0
NameIsSet s k set x no_exs = LocalIsSet set x (meaning s k x)
NameIsSet s k set x (and_ex e es) = Unit {0}

-- Result, if it is visible
abbrev pub ResultIsSet : List (List ℕ) → Option TyT → Type 0
ResultIsSet set None = Unit {0}
ResultIsSet set (Some t) = IsSet set result_name t

-- in an expression, where k is known, behind tests with the names n
abbrev mutual
  pub SetReads : Setting → List Fact → List (List ℕ) → List (List ℕ) → Ex → Type 0
  SetReads s k n set (literal p x) = Unit {0}
  SetReads s k n set (void_value p) = Unit {0}
  SetReads s k n set (current_value p) = Unit {0}
  SetReads s k n set (result_value p) = ResultIsSet set s.result
  SetReads s k n set (unqualified p x args) = SetReadsIn s k n set args × NameIsSet s k set x args
  SetReads s k n set (precursor p x args) = SetReadsIn s k n set args
  SetReads s k n set (qualified p e x args) = SetReads s k n set e × SetReadsIn s k (n ++ test_names e) set args
  SetReads s k n set (creation p t x args) = SetReadsIn s k n set args
  SetReads s k n set (test p t local e) = SetReads s k (n ++ local_names local) set e
  SetReads s k n set (paren p e) = SetReads s k n set e
  SetReads s k n set (unary p o e) = SetReads s k n set e
  SetReads s k n set (binary p o q left right) =
      SetReads s k n set left
      × SetReads s (at_right o k (facts s k n (goes_on o) left)) (n ++ test_names left) set right

  pub SetReadsIn : Setting → List Fact → List (List ℕ) → List (List ℕ) → Exs → Type 0
  SetReadsIn s k n set no_exs = Unit {0}
  SetReadsIn s k n set (and_ex e es) = SetReads s k n set e × SetReadsIn s k (n ++ test_names e) set es

-- of whole expressions, as the arguments of a creation
abbrev pub SetReadsEach : Setting → List Fact → List (List ℕ) → Exs → Type 0
SetReadsEach s k set no_exs = Unit {0}
SetReadsEach s k set (and_ex e es) = SetReads s k [] set e × SetReadsEach s k set es

-- ---- the law

-- where no read is found unset, each is of one that is set
pub record ReadsAreSet : Type 0 where
  pub expression :
      (s : Setting) (k : List Fact) (n set : List (List ℕ)) (e : Ex) → unset s k n set e ≡ [] → SetReads s k n set e
  pub arguments :
      (s : Setting) (k : List Fact) (n set : List (List ℕ)) (es : Exs)
      → unset_in s k n set es ≡ [] → SetReadsIn s k n set es

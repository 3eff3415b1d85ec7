-- What holds of the other forms of expressions without faults.
use Rattle.std.specs.Prelude.{◌≡◌, ◌⊎◌, ℕ, true, false, List, ◌++◌, Option, Some, None}
use Rattle.eif_base.specs.declared.code.Code.TheVariants as code
use Rattle.eif_base.specs.declared.place.Place.{Place}
use Rattle.eif_base.specs.Numbering.{is_among}
use Rattle.eif_tree.specs.declared.tree.Literal.{Literal}
use Rattle.eif_tree.specs.declared.tree.NameAt.{NameAt}
use Rattle.eif_tree.specs.declared.tree.Op.{Op}
use Rattle.eif_tree.specs.declared.tree.Op.TheVariants as op
use Rattle.eif_tree.specs.Tree.{TypeT, Ex, literal, void_value, current_value, result_value, creation, test, paren, unary, binary, Exs}
use Rattle.eif_system.specs.WrittenTypes.{type_mark}
use Rattle.eif_classes.specs.Constraints.{class_in}
use Rattle.eif_classes.specs.KernelNumbers.{is_basic}
use Rattle.eif_classes.specs.Resolution.{own_type, actuals_in}
use Rattle.eif_classes.specs.Signatures.{Signature, signature, with_actuals}
use Rattle.eif_classes.specs.Types.{TyT, none_type, attached_form}
use Rattle.eif_rules.specs.UniverseRules.{is_detachable}
use Rattle.eif_body_rules.specs.CallRules.{Argument}
use Rattle.eif_body_rules.specs.Conditions.{goes_on, at_right}
use Rattle.eif_body_rules.specs.CreationRules.{Creation, of_written, created_line, creator_name, is_deferred, is_creator}
use Rattle.eif_body_rules.specs.ExpressionTypes.{judge, judge_all, facts, told_by_test}
use Rattle.eif_body_rules.specs.Facts.{Fact, usable_test}
use Rattle.eif_body_rules.specs.OperatorRules.{integer, boolean, character, string, literal_type}
use Rattle.eif_body_rules.specs.Settings.{Setting, fits, entity_of}
use Rattle.eif_body_rules.specs.TestRules.{local_names, test_names, local_type, bound_local}
use Rattle.eif_valid_bodies.specs.Valid.{Valid}
use Rattle.eif_valid_bodies.specs.ValidCalls.{IsCalled}

-- ---- operators

-- both operands conform to the type
abbrev pub AreBoth : Setting → TyT → TyT → TyT → Type 0
AreBoth s t a b = (fits s a t ≡ true) × (fits s b t ≡ true)

-- the types of the operands and of the result
abbrev pub Operands : Setting → Op → TyT → TyT → TyT → Type 0
Operands s op.Plus a b t = (AreBoth s string a b × (t ≡ string)) ⊎ (AreBoth s integer a b × (t ≡ integer))
Operands s op.Minus a b t = AreBoth s integer a b × (t ≡ integer)
Operands s op.Times a b t = AreBoth s integer a b × (t ≡ integer)
Operands s op.Divide a b t = AreBoth s integer a b × (t ≡ integer)
Operands s op.Modulo a b t = AreBoth s integer a b × (t ≡ integer)
Operands s op.Power a b t = AreBoth s integer a b × (t ≡ integer)
Operands s op.Equal a b t = t ≡ boolean
Operands s op.NotEqual a b t = t ≡ boolean
Operands s op.Less a b t = (AreBoth s integer a b ⊎ AreBoth s character a b) × (t ≡ boolean)
Operands s op.Greater a b t = (AreBoth s integer a b ⊎ AreBoth s character a b) × (t ≡ boolean)
Operands s op.LessEqual a b t = (AreBoth s integer a b ⊎ AreBoth s character a b) × (t ≡ boolean)
Operands s op.GreaterEqual a b t = (AreBoth s integer a b ⊎ AreBoth s character a b) × (t ≡ boolean)
Operands s o a b t = AreBoth s boolean a b × (t ≡ boolean)

abbrev pub Operand : Setting → Op → TyT → TyT → Type 0
Operand s op.Not a t = (fits s a boolean ≡ true) × (t ≡ boolean)
Operand s o a t = (fits s a integer ≡ true) × (t ≡ integer)

pub record ValidUnary (s : Setting) (k : List Fact) (n : List (List ℕ)) (o : Op) (e : Ex) (t : TyT) : Type 0 where
  pub operand : TyT
  pub operand_valid : Valid (judge s k n e) operand
  pub types : Operand s o operand t

-- the right operand is judged where the left one has told what it tells
pub record ValidBinary
    (s : Setting) (k : List Fact) (n : List (List ℕ)) (o : Op) (left right : Ex) (t : TyT)
    : Type 0 where
  pub first : TyT
  pub second : TyT
  pub left_valid : Valid (judge s k n left) first
  pub right_valid : Valid (judge s (at_right o k (facts s k n (goes_on o) left)) (n ++ test_names left) right) second
  pub types : Operands s o first second t

-- ---- object tests

-- the name denotes nothing
pub record IsFree (s : Setting) (k : List Fact) (x : List ℕ) : Type 0 where
  pub no_test : usable_test k x ≡ None
  pub no_entity : entity_of s x ≡ None
  pub no_feature : signature s.universe s.line x ≡ None

-- nor has an earlier test in the same whole expression the name
abbrev pub IsFreeLocal : Setting → List Fact → List (List ℕ) → Option NameAt → Type 0
IsFreeLocal s k earlier None = Unit {0}
IsFreeLocal s k earlier (Some local) = IsFree s k local.name × (is_among earlier local.name ≡ false)

-- the written type lacks the mark detachable
abbrev pub IsUnmarked : Option TypeT → Type 0
IsUnmarked None = Unit {0}
IsUnmarked (Some t) = is_detachable (type_mark t) ≡ false

pub record ValidTest
    (s : Setting) (k : List Fact) (n : List (List ℕ)) (p : Place) (w : Option TypeT) (local : Option NameAt) (e : Ex)
    (t : TyT)
    : Type 0 where
  pub tested : TyT
  pub tested_valid : Valid (judge s k (n ++ local_names local) e) tested
  pub free : IsFreeLocal s k n local
  pub unmarked : IsUnmarked w
  pub told :
      facts s k n true (test p w local e) ≡ told_by_test s e (bound_local p local (local_type s w (Some tested)))
  pub is : t ≡ boolean

-- ---- creations

-- the class may have instances, and has that creator, which takes the arguments
pub record IsCreated (s : Setting) (c : Creation) (args : List Argument) : Type 0 where
  pub class : ℕ
  pub creator : List ℕ
  pub signed : Signature
  pub class_is : class_in c.type ≡ Some class
  pub unmarked : c.is_marked ≡ false
  pub effective : is_deferred s class ≡ false
  pub reference : is_basic class ≡ false
  pub named : creator_name s c ≡ Some creator
  pub is_one : is_creator s (created_line s c) creator ≡ true
  pub found : signature s.universe (created_line s c) creator ≡ Some signed
  pub called : IsCalled s args (with_actuals (actuals_in c.type) signed)

pub record ValidCreation
    (s : Setting) (k : List Fact) (n : List (List ℕ)) (p : Place) (w : TypeT) (x : Option NameAt) (args : Exs) (t : TyT)
    : Type 0 where
  pub given : List Argument
  pub args_valid : Valid (judge_all s k n args) given
  pub created : IsCreated s (of_written s code.Vgce p w x) given
  pub is : t ≡ attached_form (of_written s code.Vgce p w x).type

-- ---- the laws

pub record ValidLeaves : Type 0 where
  pub value :
      (s : Setting) (k : List Fact) (n : List (List ℕ)) (p : Place) (x : Literal) (t : TyT)
      → Valid (judge s k n (literal p x)) t → t ≡ literal_type x
  pub void :
      (s : Setting) (k : List Fact) (n : List (List ℕ)) (p : Place) (t : TyT)
      → Valid (judge s k n (void_value p)) t → t ≡ none_type
  pub current :
      (s : Setting) (k : List Fact) (n : List (List ℕ)) (p : Place) (t : TyT)
      → Valid (judge s k n (current_value p)) t → t ≡ own_type s.number s.text
  pub result :
      (s : Setting) (k : List Fact) (n : List (List ℕ)) (p : Place) (t : TyT)
      → Valid (judge s k n (result_value p)) t → s.result ≡ Some t

pub record ValidNodes : Type 0 where
  pub creation_of :
      (s : Setting) (k : List Fact) (n : List (List ℕ)) (p : Place) (w : TypeT) (x : Option NameAt) (args : Exs)
      (t : TyT)
      → Valid (judge s k n (creation p w x args)) t → ValidCreation s k n p w x args t
  pub test_of :
      (s : Setting) (k : List Fact) (n : List (List ℕ)) (p : Place) (w : Option TypeT) (local : Option NameAt) (e : Ex)
      (t : TyT)
      → Valid (judge s k n (test p w local e)) t → ValidTest s k n p w local e t
  pub within :
      (s : Setting) (k : List Fact) (n : List (List ℕ)) (p : Place) (e : Ex) (t : TyT)
      → Valid (judge s k n (paren p e)) t → Valid (judge s k n e) t
  pub of_one :
      (s : Setting) (k : List Fact) (n : List (List ℕ)) (p : Place) (o : Op) (e : Ex) (t : TyT)
      → Valid (judge s k n (unary p o e)) t → ValidUnary s k n o e t
  pub of_two :
      (s : Setting) (k : List Fact) (n : List (List ℕ)) (p : Place) (o : Op) (q : Place) (left right : Ex) (t : TyT)
      → Valid (judge s k n (binary p o q left right)) t → ValidBinary s k n o left right t

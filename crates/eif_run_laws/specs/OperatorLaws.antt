-- Laws of literals and operators: on operands that fit they do not go wrong, and give a value of their type.
use Rattle.std.specs.Prelude.{◌≡◌, ◌⊎◌, ℕ, ℤ, Bool, List, Option, Some}
use Rattle.eif_tree.specs.declared.tree.Literal.{Literal}
use Rattle.eif_tree.specs.declared.tree.Literal.TheVariants as lit
use Rattle.eif_tree.specs.declared.tree.Op.{Op}
use Rattle.eif_tree.specs.declared.tree.Op.TheVariants as op
use Rattle.eif_classes.specs.KernelNumbers.{string_number}
use Rattle.eif_classes.specs.Types.{TyT}
use Rattle.eif_meaning.specs.Values.{Value, integer, boolean, character, Object, Seen, State}
use Rattle.eif_meaning.specs.System.{System}
use Rattle.eif_meaning.specs.Objects.{object_of}
use Rattle.eif_meaning.specs.KernelTypes.{integer_type, boolean_type, character_type, string_type}
use Rattle.eif_meaning.specs.Operators.{operate, operate_one}
use Rattle.eif_meaning.specs.Evaluation.{evaluate_literal}
use Rattle.eif_run_laws.specs.Holders.{Fits, IsHeap, Gives}
use Rattle.eif_run_laws.specs.SystemLaws.{TypeLaws}
use Rattle.eif_run_laws.specs.Steps.{Safe, heap_of, Extends}

-- ---- literals

abbrev pub literal_type : Literal → TyT
literal_type (lit.Int n) = integer_type
literal_type (lit.Char n) = character_type
literal_type (lit.Text bytes) = string_type
literal_type (lit.Bool b) = boolean_type

-- a step ends in a state that extends the first one, and gives a value of the type
abbrev pub EndsIn : System → TyT → State → State → Option Seen → Type 0
EndsIn system t s u r = Extends system s u × Gives system (heap_of u) t r

abbrev pub LiteralsGive : Type 0
LiteralsGive =
    (system : System) → TypeLaws system → (x : Literal) (s : State) → IsHeap system (heap_of s)
    → Safe (evaluate_literal x s) (EndsIn system (literal_type x) s)

-- ---- operators

-- both operands fit the type
abbrev pub BothFit : System → List Object → TyT → Value → Value → Type 0
BothFit system h t v w = Fits system h t v × Fits system h t w

-- operands of the kinds that an operator takes, and the type of what it then gives
abbrev pub OperandsFit : System → List Object → Op → Value → Value → TyT → Type 0
OperandsFit system h op.Plus v w t =
    (BothFit system h string_type v w × (t ≡ string_type)) ⊎ (BothFit system h integer_type v w
    × (t ≡ integer_type))
OperandsFit system h op.Minus v w t = BothFit system h integer_type v w × (t ≡ integer_type)
OperandsFit system h op.Times v w t = BothFit system h integer_type v w × (t ≡ integer_type)
OperandsFit system h op.Divide v w t = BothFit system h integer_type v w × (t ≡ integer_type)
OperandsFit system h op.Modulo v w t = BothFit system h integer_type v w × (t ≡ integer_type)
OperandsFit system h op.Power v w t = BothFit system h integer_type v w × (t ≡ integer_type)
OperandsFit system h op.Equal v w t = t ≡ boolean_type
OperandsFit system h op.NotEqual v w t = t ≡ boolean_type
OperandsFit system h op.Less v w t =
    (BothFit system h integer_type v w ⊎ BothFit system h character_type v w) × (t ≡ boolean_type)
OperandsFit system h op.Greater v w t =
    (BothFit system h integer_type v w ⊎ BothFit system h character_type v w) × (t ≡ boolean_type)
OperandsFit system h op.LessEqual v w t =
    (BothFit system h integer_type v w ⊎ BothFit system h character_type v w) × (t ≡ boolean_type)
OperandsFit system h op.GreaterEqual v w t =
    (BothFit system h integer_type v w ⊎ BothFit system h character_type v w) × (t ≡ boolean_type)
OperandsFit system h op.And v w t = BothFit system h boolean_type v w × (t ≡ boolean_type)
OperandsFit system h op.Or v w t = BothFit system h boolean_type v w × (t ≡ boolean_type)
OperandsFit system h op.Xor v w t = BothFit system h boolean_type v w × (t ≡ boolean_type)
OperandsFit system h _ v w t = ⊥

-- the one operand of `not`, or of a sign
abbrev pub OperandFits : System → List Object → Op → Value → TyT → Type 0
OperandFits system h op.Not v t = Fits system h boolean_type v × (t ≡ boolean_type)
OperandFits system h op.Plus v t = Fits system h integer_type v × (t ≡ integer_type)
OperandFits system h op.Minus v t = Fits system h integer_type v × (t ≡ integer_type)
OperandFits system h _ v t = ⊥

pub record OperatorsGive : Type 0 where
  pub two :
      (system : System) → TypeLaws system → (o : Op) (v w : Value) (t : TyT) (s : State)
      → IsHeap system (heap_of s)
      → OperandsFit system (heap_of s) o v w t → Safe (operate o v w s) (EndsIn system t s)
  pub one :
      (system : System) → TypeLaws system → (o : Op) (v : Value) (t : TyT) (s : State)
      → IsHeap system (heap_of s)
      → OperandFits system (heap_of s) o v t → Safe (operate_one o v s) (EndsIn system t s)

-- ---- values of the kernel

-- what fits a basic class is a basic value
pub record BasicValues : Type 0 where
  pub integers :
      (system : System) → TypeLaws system → (h : List Object) (v : Value) → IsHeap system h
      → Fits system h integer_type v → (n : ℤ) × (v ≡ integer n)
  pub booleans :
      (system : System) → TypeLaws system → (h : List Object) (v : Value) → IsHeap system h
      → Fits system h boolean_type v → (b : Bool) × (v ≡ boolean b)
  pub characters :
      (system : System) → TypeLaws system → (h : List Object) (v : Value) → IsHeap system h
      → Fits system h character_type v → (n : ℕ) × (v ≡ character n)
  -- and what fits STRING is an object of STRING
  pub strings :
      (system : System) → TypeLaws system → (h : List Object) (v : Value)
      → Fits system h string_type v
      → (o : Object) × (object_of h v ≡ Some o) × (o.made.class_number ≡ string_number)

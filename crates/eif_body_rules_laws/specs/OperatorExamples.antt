-- The rules of operators. Above each example stands its class text, in one line of the first file, or the
-- instructions in such a text; a second text is the second file.
use Rattle.std.specs.Prelude.{◌≡◌, true, false, [], ◌∷◌}
use Rattle.eif_base.specs.declared.code.Code.TheVariants as code
use Rattle.eif_tree.specs.declared.tree.Op.TheVariants as op
use Rattle.eif_tree.specs.Tree.{void_value, paren, unary, call, ClassT}
use Rattle.eif_body_rules_laws.specs.PlacedTexts.{at, int, character, text, truth, value, apply, operation, breach, alone, f_does}

-- print (1 + True)
abbrev pub sum_b : ClassT
sum_b = f_does
    (call (apply (at 22) "print" (operation (int (at 29) 1) (at 31) op.Plus (truth (at 33) true) ∷ []))
    ∷ [])

-- print (1 + 2 = 3 and "a" + "b" /= "c")
abbrev pub sums_b : ClassT
sums_b = f_does
    (call
    (apply (at 22) "print"
    (operation
    (operation (operation (int (at 29) 1) (at 31) op.Plus (int (at 33) 2)) (at 35) op.Equal
    (int (at 37) 3)) (at 39) op.And
    (operation (operation (text (at 43) "a") (at 47) op.Plus (text (at 49) "b")) (at 53)
    op.NotEqual (text (at 56) "c")) ∷ [])) ∷ [])

-- print (1 \\ "a")
abbrev pub modulo_b : ClassT
modulo_b = f_does
    (call (apply (at 22) "print" (operation (int (at 29) 1) (at 31) op.Modulo (text (at 34) "a") ∷ []))
    ∷ [])

-- print (- "a")
abbrev pub sign_b : ClassT
sign_b = f_does (call (apply (at 22) "print" (unary (at 29) op.Minus (text (at 31) "a") ∷ [])) ∷ [])

-- print (- 1 * 2 // 3 \\ 4 ^ 5 - 6)
abbrev pub integers_b : ClassT
integers_b = f_does
    (call
    (apply (at 22) "print"
    (operation
    (operation
    (operation
    (operation (unary (at 29) op.Minus (int (at 31) 1)) (at 33) op.Times (int (at 35) 2))
    (at 37) op.Divide (int (at 40) 3)) (at 42) op.Modulo
    (operation (int (at 45) 4) (at 47) op.Power (int (at 49) 5))) (at 51) op.Minus
    (int (at 53) 6) ∷ [])) ∷ [])

-- print (1 < 'a')
abbrev pub order_b : ClassT
order_b = f_does
    (call (apply (at 22) "print" (operation (int (at 29) 1) (at 31) op.Less (character (at 33) 97) ∷ []))
    ∷ [])

-- print (1 <= 2 and 'a' > 'b')
abbrev pub orders_b : ClassT
orders_b = f_does
    (call
    (apply (at 22) "print"
    (operation (operation (int (at 29) 1) (at 31) op.LessEqual (int (at 34) 2)) (at 36) op.And
    (operation (character (at 40) 97) (at 44) op.Greater (character (at 46) 98)) ∷ [])) ∷ [])

-- print (1 = "a" or Void /= True)
abbrev pub equality_b : ClassT
equality_b = f_does
    (call
    (apply (at 22) "print"
    (operation (operation (int (at 29) 1) (at 31) op.Equal (text (at 33) "a")) (at 37) op.Or
    (operation (void_value (at 40)) (at 45) op.NotEqual (truth (at 48) true)) ∷ [])) ∷ [])

-- print (not 1)
abbrev pub negation_b : ClassT
negation_b = f_does (call (apply (at 22) "print" (unary (at 29) op.Not (int (at 33) 1) ∷ [])) ∷ [])

-- print (True and then 1)
abbrev pub conjunction_b : ClassT
conjunction_b = f_does
    (call
    (apply (at 22) "print" (operation (truth (at 29) true) (at 34) op.AndThen (int (at 43) 1) ∷ []))
    ∷ [])

-- print (1 implies True)
abbrev pub implication_b : ClassT
implication_b = f_does
    (call
    (apply (at 22) "print" (operation (int (at 29) 1) (at 31) op.Implies (truth (at 39) true) ∷ []))
    ∷ [])

-- print (not True xor (True implies False or else True))
abbrev pub conditions_b : ClassT
conditions_b = f_does
    (call
    (apply (at 22) "print"
    (operation (unary (at 29) op.Not (truth (at 33) true)) (at 38) op.Xor
    (paren (at 42)
    (operation (truth (at 43) true) (at 48) op.Implies
    (operation (truth (at 56) false) (at 62) op.OrElse (truth (at 70) true)))) ∷ [])) ∷ [])

-- print (Void and True)
abbrev pub void_b : ClassT
void_b = f_does
    (call
    (apply (at 22) "print" (operation (void_value (at 29)) (at 34) op.And (truth (at 38) true) ∷ []))
    ∷ [])

-- print (nope + True)
abbrev pub untyped_b : ClassT
untyped_b = f_does
    (call
    (apply (at 22) "print"
    (operation (value (at 29) "nope") (at 34) op.Plus (truth (at 36) true) ∷ [])) ∷ [])

-- operands
pub record OperandExamples : Type 0 where
  -- XOPR.1
  pub sum : alone sum_b ≡ breach "b" "f" code.Xopr 1 (at 31) "+" ∷ []
  -- kept
  pub sums : alone sums_b ≡ []
  -- its text
  pub modulo : alone modulo_b ≡ breach "b" "f" code.Xopr 1 (at 31) "\\\\" ∷ []
  -- unary
  pub sign : alone sign_b ≡ breach "b" "f" code.Xopr 1 (at 29) "-" ∷ []
  -- kept
  pub integers : alone integers_b ≡ []
  -- of two kinds
  pub order : alone order_b ≡ breach "b" "f" code.Xopr 1 (at 31) "<" ∷ []
  -- kept
  pub orders : alone orders_b ≡ []
  -- kept
  pub equality : alone equality_b ≡ []
  -- not
  pub negation : alone negation_b ≡ breach "b" "f" code.Xopr 1 (at 29) "not" ∷ []
  -- its text with one space
  pub conjunction : alone conjunction_b ≡ breach "b" "f" code.Xopr 1 (at 34) "and then" ∷ []
  -- the left operand
  pub implication : alone implication_b ≡ breach "b" "f" code.Xopr 1 (at 31) "implies" ∷ []
  -- kept
  pub conditions : alone conditions_b ≡ []
  -- NONE
  pub void : alone void_b ≡ breach "b" "f" code.Xopr 1 (at 34) "and" ∷ []
  -- judged where both operands are typed
  pub untyped : alone untyped_b ≡ breach "b" "f" code.Veen 1 (at 29) "nope" ∷ []

-- Operators. INTEGER has 64 bits with a sign, and wraps.
use Rattle.std.specs.Prelude.{ℤ, pos, negsuc, Bool, true, false, not, ◌&&◌, ◌||◌, ◌==◌, if◌then◌else◌, ◌++◌, Option, Some, None, int_lt, int_le, int_rem}
use Rattle.std.specs.Bool.{beq}
use Rattle.std.specs.Int.{w64, int_wrapping_add, int_wrapping_sub, int_wrapping_mul, int_wrapping_div, int_wrapping_neg, int_wrapping_pow}
use Rattle.std.specs.Ordering.{int_eq}
use Rattle.eif_tree.specs.declared.tree.Op.{Op}
use Rattle.eif_tree.specs.declared.tree.Op.TheVariants as op
use Rattle.eif_meaning.specs.Values.{Value, void, integer, boolean, character, reference, Seen, no_feature, Does, ◌>>=◌, fail, stop}
use Rattle.eif_meaning.specs.Operands.{give_integer, give_boolean, give_string, bytes_or_stop, as_integer, as_boolean, as_character, as_bytes, if_integer}

-- ---- two operands

-- basic values are equal by kind and value, references by identity; Void equals Void alone
abbrev pub same_value : Value → Value → Bool
same_value void void = true
same_value (integer m) (integer n) = int_eq m n
same_value (boolean a) (boolean b) = beq a b
same_value (character m) (character n) = m == n
same_value (reference r) (reference q) = r == q
same_value _ _ = false

-- two INTEGERs
abbrev pub with_integers : Value → Value → (ℤ → ℤ → Does (Option Seen)) → Does (Option Seen)
with_integers v w f = as_integer v (λ m. as_integer w (λ n. f m n))

-- two BOOLEANs
abbrev pub with_booleans : Value → Value → (Bool → Bool → Bool) → Does (Option Seen)
with_booleans v w f = as_boolean v (λ a. as_boolean w (λ b. give_boolean (f a b)))

-- two INTEGERs, or two CHARACTERs by their codes
abbrev pub compare : Value → Value → (ℤ → ℤ → Bool) → Does (Option Seen)
compare v w f =
    if_integer v (λ m. as_integer w (λ n. give_boolean (f m n)))
    (as_character v (λ m. as_character w (λ n. give_boolean (f (pos m) (pos n)))))

-- two INTEGERs, or two STRINGs, whose bytes together are a new one
abbrev pub add : Value → Value → Does (Option Seen)
add v w =
    if_integer v (λ m. as_integer w (λ n. give_integer (int_wrapping_add w64 m n)))
    (as_bytes v (λ a. as_bytes w (λ b. bytes_or_stop (a ++ b) give_string)))

-- a zero divisor is a stop
abbrev pub divide_by : (ℤ → ℤ → ℤ) → ℤ → ℤ → Does (Option Seen)
divide_by f m n = if int_eq n (pos 0) then stop else give_integer (f m n)

-- a negative exponent is a stop; 0 ^ 0 is 1
abbrev pub power : ℤ → ℤ → Does (Option Seen)
power m (pos n) = give_integer (int_wrapping_pow w64 m n)
power m (negsuc n) = stop

-- both operands are evaluated; `//` cuts towards zero, and `\\` has the sign of the dividend
abbrev pub operate : Op → Value → Value → Does (Option Seen)
operate op.Plus v w = add v w
operate op.Minus v w = with_integers v w (λ m n. give_integer (int_wrapping_sub w64 m n))
operate op.Times v w = with_integers v w (λ m n. give_integer (int_wrapping_mul w64 m n))
operate op.Divide v w = with_integers v w (divide_by (int_wrapping_div w64))
operate op.Modulo v w = with_integers v w (divide_by int_rem)
operate op.Power v w = with_integers v w power
operate op.Equal v w = give_boolean (same_value v w)
operate op.NotEqual v w = give_boolean (not (same_value v w))
operate op.Less v w = compare v w int_lt
operate op.Greater v w = compare v w (λ m n. int_lt n m)
operate op.LessEqual v w = compare v w int_le
operate op.GreaterEqual v w = compare v w (λ m n. int_le n m)
operate op.And v w = with_booleans v w ◌&&◌
operate op.Or v w = with_booleans v w ◌||◌
operate op.Xor v w = with_booleans v w (λ a b. not (beq a b))
operate _ v w = fail no_feature

-- ---- one operand

-- a negative number wraps too
abbrev pub operate_one : Op → Value → Does (Option Seen)
operate_one op.Plus v = as_integer v give_integer
operate_one op.Minus v = as_integer v (λ n. give_integer (int_wrapping_neg w64 n))
operate_one op.Not v = as_boolean v (λ b. give_boolean (not b))
operate_one _ v = fail no_feature

-- ---- a right operand that may be left out

-- the left value with which the right operand is evaluated; none where it always is
abbrev pub asks_right : Op → Option Bool
asks_right op.AndThen = Some true
asks_right op.OrElse = Some false
asks_right op.Implies = Some true
asks_right _ = None

-- what such an operator gives without its right operand
abbrev pub without_right : Op → Bool
without_right op.AndThen = false
without_right _ = true

-- the left value is there, and the right operand is a step; where it is evaluated by the left value, it decides
abbrev pub operate_with : Option Bool → Op → Value → Does Seen → Does (Option Seen)
operate_with None o v right = right >>= (λ w. operate o v w.value)
operate_with (Some t) o v right =
    as_boolean v (λ b. if beq b t then (right >>= (λ w. as_boolean w.value give_boolean))
    else give_boolean (without_right o))

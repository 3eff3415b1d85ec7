-- What conditions tell: the facts where an expression is true, and where it is false.
use Rattle.std.specs.Prelude.{ℕ, Bool, true, false, not, if◌then◌else◌, List, [], ◌∷◌, ◌++◌, Option, Some, None}
use Rattle.eif_tree.specs.declared.tree.Op.{Op}
use Rattle.eif_tree.specs.declared.tree.Op.TheVariants as op
use Rattle.eif_tree.specs.Tree.{Ex, void_value, unqualified, paren, no_exs}
use Rattle.eif_body_rules.specs.Facts.{Fact}

-- ---- what is compared with Void, or tested. Parentheses don't matter

abbrev pub is_void : Ex → Bool
is_void (void_value p) = true
is_void (paren p e) = is_void e
is_void _ = false

-- the expression is a name
abbrev pub name_in : Ex → Option (List ℕ)
name_in (unqualified p x no_exs) = Some x
name_in (paren p e) = name_in e
name_in _ = None

abbrev pub if_testable : (List ℕ → Bool) → Option (List ℕ) → List (List ℕ)
if_testable testable None = []
if_testable testable (Some x) = if testable x then x ∷ [] else []

-- the testable name that an expression is
unfoldable pub tested_name : (List ℕ → Bool) → Ex → List (List ℕ)
tested_name testable e = if_testable testable (name_in e)

-- the testable name that is compared with Void
unfoldable pub compared_name : (List ℕ → Bool) → Ex → Ex → List (List ℕ)
compared_name testable left right =
    if is_void right then tested_name testable left
    else if is_void left then tested_name testable right
    else []

-- the operator, where it has that value, tells that the name that is compared with Void is attached
abbrev pub excludes_void : Op → Bool → Bool
excludes_void op.NotEqual b = b
excludes_void op.Equal b = not b
excludes_void _ b = false

-- ---- operands

-- the right operand may be left out
abbrev pub is_short : Op → Bool
is_short op.AndThen = true
is_short op.OrElse = true
is_short op.Implies = true
is_short _ = false

-- the value of the left operand with which the right one is evaluated
abbrev pub goes_on : Op → Bool
goes_on op.OrElse = false
goes_on _ = true

-- the operator, where it has that value, tells the facts of both operands
abbrev pub tells_both : Op → Bool → Bool
tells_both op.And b = b
tells_both op.AndThen b = b
tells_both op.Or b = not b
tells_both op.OrElse b = not b
tells_both op.Implies b = not b
tells_both _ b = false

-- the value that the left operand has then; the right one has that of the operator
abbrev pub left_value : Op → Bool → Bool
left_value op.Implies b = not b
left_value _ b = b

-- what is known in the right operand, by what the left one tells
abbrev pub at_right : Op → List Fact → List Fact → List Fact
at_right o k by_left = if is_short o then k ++ by_left else k

-- ---- what is told in all, by what operands tell

-- a negation turns what its operand tells; another unary operator tells nothing
abbrev pub told_by_unary : {A : Type 0} → Op → List A → List A
told_by_unary op.Not by_operand = by_operand
told_by_unary _ by_operand = []

-- by the facts of both operands
abbrev pub told_by_operands : {A : Type 0} → Op → Bool → List A → List A
told_by_operands o b by_operands = if tells_both o b then by_operands else []

-- the testable name that the operator, where it has that value, tells to be attached
abbrev pub told_by_void : (List ℕ → Bool) → Op → Bool → Ex → Ex → List (List ℕ)
told_by_void testable o b left right = if excludes_void o b then compared_name testable left right else []

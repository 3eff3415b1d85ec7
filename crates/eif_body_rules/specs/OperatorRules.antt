-- The rules of operators: the types of operands and of results.
use Rattle.std.specs.Prelude.{ℕ, ◌&&◌, ◌||◌, Bool, if◌then◌else◌, List, codes}
use Rattle.eif_base.specs.declared.code.Code.TheVariants as code
use Rattle.eif_base.specs.declared.place.Place.{Place}
use Rattle.eif_tree.specs.declared.tree.Literal.{Literal}
use Rattle.eif_tree.specs.declared.tree.Literal.TheVariants as is
use Rattle.eif_tree.specs.declared.tree.Mark.TheVariants.{Attached}
use Rattle.eif_tree.specs.declared.tree.Op.{Op}
use Rattle.eif_tree.specs.declared.tree.Op.TheVariants as op
use Rattle.eif_classes.specs.KernelNumbers.{integer_number, boolean_number, character_number, string_number}
use Rattle.eif_classes.specs.Types.{TyT, class_type, no_actuals}
use Rattle.eif_body_rules.specs.Judgements.{Judged, fine, broken}
use Rattle.eif_body_rules.specs.Settings.{Setting, fault, fits}

-- ---- types of the kernel's classes

abbrev pub of_kernel : ℕ → TyT
of_kernel k = class_type k Attached no_actuals

abbrev pub integer : TyT
integer = of_kernel integer_number

abbrev pub boolean : TyT
boolean = of_kernel boolean_number

abbrev pub character : TyT
character = of_kernel character_number

abbrev pub string : TyT
string = of_kernel string_number

-- a literal has its class
abbrev pub literal_type : Literal → TyT
literal_type (is.Int i) = integer
literal_type (is.Char i) = character
literal_type (is.Text i) = string
literal_type (is.Bool i) = boolean

-- ---- operators

-- with one space, however it is written
abbrev pub operator_text : Op → List ℕ
operator_text op.Plus = codes "+"
operator_text op.Minus = codes "-"
operator_text op.Times = codes "*"
operator_text op.Divide = codes "//"
operator_text op.Modulo = codes "\\\\"
operator_text op.Power = codes "^"
operator_text op.Equal = codes "="
operator_text op.NotEqual = codes "/="
operator_text op.Less = codes "<"
operator_text op.Greater = codes ">"
operator_text op.LessEqual = codes "<="
operator_text op.GreaterEqual = codes ">="
operator_text op.Not = codes "not"
operator_text op.And = codes "and"
operator_text op.AndThen = codes "and then"
operator_text op.Or = codes "or"
operator_text op.OrElse = codes "or else"
operator_text op.Xor = codes "xor"
operator_text op.Implies = codes "implies"

-- XOPR.1: the operands aren't of the operator's types
abbrev pub result_where : Setting → Op → Place → Bool → TyT → Judged TyT
result_where s o q b t = if b then fine t else broken (fault s code.Xopr 1 q (operator_text o))

-- both operands conform to the type
abbrev pub are_both : Setting → TyT → TyT × TyT → Bool
are_both s t (a, b) = fits s a t && fits s b t

-- integers give one, and two strings a new one
abbrev pub sum_rule : Setting → Place → TyT × TyT → Judged TyT
sum_rule s q ts = if are_both s string ts then fine string else result_where s op.Plus q (are_both s integer ts) integer

-- two integers or two characters
abbrev pub order_rule : Setting → Op → Place → TyT × TyT → Judged TyT
order_rule s o q ts = result_where s o q (are_both s integer ts || are_both s character ts) boolean

-- of a binary operator, which stands at q
unfoldable pub binary_rule : Setting → Op → Place → TyT × TyT → Judged TyT
binary_rule s op.Plus q ts = sum_rule s q ts
binary_rule s op.Minus q ts = result_where s op.Minus q (are_both s integer ts) integer
binary_rule s op.Times q ts = result_where s op.Times q (are_both s integer ts) integer
binary_rule s op.Divide q ts = result_where s op.Divide q (are_both s integer ts) integer
binary_rule s op.Modulo q ts = result_where s op.Modulo q (are_both s integer ts) integer
binary_rule s op.Power q ts = result_where s op.Power q (are_both s integer ts) integer
binary_rule s op.Equal q ts = fine boolean
binary_rule s op.NotEqual q ts = fine boolean
binary_rule s op.Less q ts = order_rule s op.Less q ts
binary_rule s op.Greater q ts = order_rule s op.Greater q ts
binary_rule s op.LessEqual q ts = order_rule s op.LessEqual q ts
binary_rule s op.GreaterEqual q ts = order_rule s op.GreaterEqual q ts
binary_rule s o q ts = result_where s o q (are_both s boolean ts) boolean

-- of a unary operator, which stands at q
unfoldable pub unary_rule : Setting → Op → Place → TyT → Judged TyT
unary_rule s op.Not q t = result_where s op.Not q (fits s t boolean) boolean
unary_rule s o q t = result_where s o q (fits s t integer) integer

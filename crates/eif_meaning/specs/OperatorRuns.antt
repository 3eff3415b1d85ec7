-- Runs that show what operators give.
use Rattle.std.specs.Prelude.{◌≡◌, ℕ, negsuc, true, false, [], ◌∷◌, codes}
use Rattle.eif_tree.specs.declared.tree.Literal.{Literal}
use Rattle.eif_tree.specs.declared.tree.Literal.TheVariants as lit
use Rattle.eif_tree.specs.declared.tree.Op.{Op}
use Rattle.eif_tree.specs.declared.tree.Op.TheVariants as op
use Rattle.eif_tree.specs.Tree.{TypeT, Ex, paren}
use Rattle.eif_system.specs.TreeForms.{nowhere}
use Rattle.eif_meaning.specs.Values.{no_feature}
use Rattle.eif_meaning.specs.Run.{Ran, finished, went_wrong}
use Rattle.eif_meaning.specs.BodyTexts.{plain, number, text, letter, truth, nobody, the, one, two, set, show}
use Rattle.eif_meaning.specs.RunSystems.{has, fixed, making, run_alone, run_making, run_body}

-- shows the value of an expression
abbrev pub shown : Ex → Ran
shown e = run_body 10 (show e ∷ [])

-- of an operator
abbrev pub result_of : Op → Ex → Ex → Ran
result_of o l r = shown (two o l r)

-- -1
abbrev pub minus : ℕ → Ex
minus n = one op.Minus (number n)

-- the least INTEGER, which has no literal, as an operand
abbrev pub least : Ex
least = paren nowhere (two op.Minus (minus 9223372036854775807) (number 1))

-- shows the value of an expression beside a constant `k`
abbrev pub with_constant : TypeT → Literal → Ex → Ran
with_constant t x e = run_alone 10 (making [] (show e ∷ []) ∷ fixed "k" t x ∷ [])

-- with 10 levels and turns
abbrev pub OperatorRuns : Type 0
OperatorRuns =
    -- sums wrap; a quotient is cut towards zero, and a remainder has the sign of the dividend
    (result_of op.Plus (number 9223372036854775807) (number 1) ≡ finished (codes "-9223372036854775808"))
    × (result_of op.Minus (minus 9223372036854775807) (number 2) ≡ finished (codes "9223372036854775807"))
    × (result_of op.Times (number 4294967296) (number 4294967296) ≡ finished (codes "0"))
    × (result_of op.Divide (minus 7) (number 2) ≡ finished (codes "-3"))
    × (result_of op.Divide least (minus 1) ≡ finished (codes "-9223372036854775808"))
    × (shown (one op.Minus least) ≡ finished (codes "-9223372036854775808"))
    × (result_of op.Modulo least (minus 1) ≡ finished (codes "0"))
    × (result_of op.Modulo (minus 7) (number 2) ≡ finished (codes "-1"))
    × (result_of op.Modulo (number 7) (minus 2) ≡ finished (codes "1"))
    × (result_of op.Power (minus 2) (number 3) ≡ finished (codes "-8"))
    × (result_of op.Power (number 0) (number 0) ≡ finished (codes "1"))
    × (result_of op.Power (number 2) (number 64) ≡ finished (codes "0"))
    × (result_of op.Times (number 6) (number 7) ≡ finished (codes "42"))
    × (shown (one op.Plus (number 3)) ≡ finished (codes "3"))
    -- an operand in parentheses
    × (result_of op.Times (paren nowhere (two op.Plus (number 1) (number 2))) (number 4) ≡ finished (codes "12"))
    -- comparisons
    × (result_of op.Less (minus 1) (number 0) ≡ finished (codes "True"))
    × (result_of op.LessEqual (number 1) (number 1) ≡ finished (codes "True"))
    × (result_of op.GreaterEqual (number 0) (number 1) ≡ finished (codes "False"))
    × (result_of op.Greater (letter 98) (letter 97) ≡ finished (codes "True"))
    × (result_of op.Less (number 1) (number 1) ≡ finished (codes "False"))
    -- an INTEGER and a CHARACTER are not compared
    × (result_of op.Less (number 1) (letter 98) ≡ went_wrong no_feature [])
    -- BOOLEANs
    × (result_of op.And (truth false) (truth true) ≡ finished (codes "False"))
    × (result_of op.Or (truth true) (truth false) ≡ finished (codes "True"))
    × (result_of op.Xor (truth true) (truth false) ≡ finished (codes "True"))
    × (shown (one op.Not (truth true)) ≡ finished (codes "False"))
    -- equal by kind and value, references by identity; a literal is a new STRING each time, also a constant's
    × (result_of op.Equal (number 1) (number 1) ≡ finished (codes "True"))
    × (result_of op.Equal (number 65) (letter 65) ≡ finished (codes "False"))
    × (result_of op.NotEqual (number 0) nobody ≡ finished (codes "True"))
    × (result_of op.NotEqual nobody nobody ≡ finished (codes "False"))
    × (result_of op.Equal (text "a") (text "a") ≡ finished (codes "False"))
    × (run_making 10 (has "s" (plain "string") ∷ []) (set "s" (text "a") ∷ show (two op.Equal (the "s") (the "s")) ∷ [])
    ≡ finished (codes "True"))
    × (with_constant (plain "string") (lit.Text (codes "k")) (two op.Equal (the "k") (the "k"))
    ≡ finished (codes "False"))
    × (with_constant (plain "integer") (lit.Int (negsuc 1)) (the "k") ≡ finished (codes "-2"))

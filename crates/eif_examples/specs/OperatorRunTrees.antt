-- The trees of the runs of operators, and of those that are stopped.
use Rattle.std.specs.Prelude.{negsuc, true, false, List, [], ◌∷◌, codes}
use Rattle.eif_tree.specs.declared.tree.Literal.{Literal}
use Rattle.eif_tree.specs.declared.tree.Literal.TheVariants as lit
use Rattle.eif_tree.specs.declared.tree.Op.TheVariants as op
use Rattle.eif_tree.specs.Tree.{TypeT, Ex, Ins, paren, ClassT}
use Rattle.eif_system.specs.TreeForms.{nowhere}
use Rattle.eif_meaning.specs.BodyTexts.{plain, generic, number, text, letter, truth, nobody, the, dot, dot_with, one, two, set, show, make, make_by}
use Rattle.eif_meaning.specs.OperatorRuns as runs
use Rattle.eif_meaning.specs.OperatorRuns.{minus}
use Rattle.eif_meaning.specs.RunSystems.{has, fixed, app, making}
use Rattle.eif_meaning.specs.StoppedRuns.{shows_item, puts, minus_one, greatest, least}
use Rattle.eif_examples.specs.RunClasses.{making_alone, body_alone, shown}

-- class APP create make feature make do print (..) end k: T = .. end
abbrev pub with_constant : TypeT → Literal → Ex → ClassT
with_constant t x e = app (making [] (show e ∷ []) ∷ fixed "k" t x ∷ [])

-- class APP create make feature make do print ("a") print (..) end end
abbrev pub shows_after : Ex → ClassT
shows_after e = body_alone (show (text "a") ∷ show e ∷ [])

-- class APP create make feature make local a: ARRAY [INTEGER] do print ("a") .. end end
abbrev pub with_array : Ins → Ins → ClassT
with_array makes last =
    making_alone (has "a" (generic "array" (plain "integer" ∷ [])) ∷ []) (show (text "a") ∷ makes ∷ last ∷ [])

-- class APP create make feature make local a: ARRAY [INTEGER] do print ("a") create a.make_filled (7, ..) .. end end
abbrev pub fills : Ex → Ex → Ins → ClassT
fills lo up last = with_array (make_by "a" "make_filled" (number 7 ∷ lo ∷ up ∷ [])) last

-- from 3 to 4
abbrev pub fills_two : Ins → ClassT
fills_two last = fills (number 3) (number 4) last

-- with none of their places
abbrev pub sparse_operator_run_trees : List ClassT
sparse_operator_run_trees =
    shown (two op.Plus (number 9223372036854775807) (number 1))
    ∷ shown (two op.Minus (minus 9223372036854775807) (number 2))
    ∷ shown (two op.Times (number 4294967296) (number 4294967296))
    ∷ shown (two op.Divide (minus 7) (number 2))
    ∷ shown (two op.Divide runs.least (minus 1))
    ∷ shown (one op.Minus runs.least)
    ∷ shown (two op.Modulo runs.least (minus 1))
    ∷ shown (two op.Modulo (minus 7) (number 2))
    ∷ shown (two op.Modulo (number 7) (minus 2))
    ∷ shown (two op.Power (minus 2) (number 3))
    ∷ shown (two op.Power (number 0) (number 0))
    ∷ shown (two op.Power (number 2) (number 64))
    ∷ shown (two op.Times (number 6) (number 7))
    ∷ shown (one op.Plus (number 3))
    ∷ shown (two op.Times (paren nowhere (two op.Plus (number 1) (number 2))) (number 4))
    ∷ shown (two op.Less (minus 1) (number 0))
    ∷ shown (two op.LessEqual (number 1) (number 1))
    ∷ shown (two op.GreaterEqual (number 0) (number 1))
    ∷ shown (two op.Greater (letter 98) (letter 97))
    ∷ shown (two op.Less (number 1) (number 1))
    ∷ shown (two op.Less (number 1) (letter 98))
    ∷ shown (two op.And (truth false) (truth true))
    ∷ shown (two op.Or (truth true) (truth false))
    ∷ shown (two op.Xor (truth true) (truth false))
    ∷ shown (one op.Not (truth true))
    ∷ shown (two op.Equal (number 1) (number 1))
    ∷ shown (two op.Equal (number 65) (letter 65))
    ∷ shown (two op.NotEqual (number 0) nobody)
    ∷ shown (two op.NotEqual nobody nobody)
    ∷ shown (two op.Equal (text "a") (text "a"))
    ∷ making_alone (has "s" (plain "string") ∷ []) (set "s" (text "a") ∷ show (two op.Equal (the "s") (the "s")) ∷ [])
    ∷ with_constant (plain "string") (lit.Text (codes "k")) (two op.Equal (the "k") (the "k"))
    ∷ with_constant (plain "integer") (lit.Int (negsuc 1)) (the "k")
    ∷ shows_after (two op.Divide (number 1) (number 0))
    ∷ shows_after (two op.Modulo (number 1) (number 0))
    ∷ shows_after (two op.Power (number 2) minus_one)
    ∷ shows_after (dot_with (text "b") "item" (number 0 ∷ []))
    ∷ shows_after (dot_with (text "b") "item" (number 1 ∷ []))
    ∷ shows_after (dot_with (text "b") "item" (number 2 ∷ []))
    ∷ fills_two (shows_item (number 2))
    ∷ fills_two (shows_item (number 3))
    ∷ fills_two (shows_item (number 4))
    ∷ fills_two (shows_item (number 5))
    ∷ fills_two (shows_item minus_one)
    ∷ fills_two (puts (number 2))
    ∷ fills_two (puts (number 4))
    ∷ fills_two (puts (number 5))
    ∷ with_array (make "a") (shows_item (number 0))
    ∷ fills (number 4) (number 3) (show (dot (the "a") "count"))
    ∷ fills (number 5) (number 3) (show (dot (the "a") "count"))
    ∷ fills (number 1) (number 16777217) (show (dot (the "a") "lower"))
    ∷ fills least greatest (show (dot (the "a") "count"))
    ∷ []

-- The trees of the runs of the order of evaluation, and of object tests.
use Rattle.std.specs.Prelude.{true, false, List, [], ◌∷◌, ◌++◌}
use Rattle.eif_tree.specs.declared.tree.Op.TheVariants as op
use Rattle.eif_tree.specs.Tree.{Ex, Ins, ClassT}
use Rattle.eif_meaning.specs.BodyTexts.{plain, maybe, number, text, truth, nobody, me, the, apply, dot, dot_with, new, is_there, is_a, two, set, perform, show, make_by, when}
use Rattle.eif_meaning.specs.OrderRuns.{say, said, itself, takes_two, stops, tells_early, creates_argument}
use Rattle.eif_meaning.specs.RunSystems.{has, field, parent, class, heir, app, making}
use Rattle.eif_meaning.specs.TestRuns.{shows_if, has_two, is_integer}
use Rattle.eif_examples.specs.RunClasses.{making_alone, body_alone, shown}

-- class APP create make feature make local a: ANY do .. end say .. itself .. takes_two .. end
abbrev pub saying : List Ins → ClassT
saying body = app (making (has "a" (plain "any") ∷ []) body ∷ say ∷ itself ∷ takes_two ∷ [])

-- class APP create make feature make local x: detachable ANY do x := .. .. end end
abbrev pub with_value : Ex → List Ins → ClassT
with_value e body = making_alone (has "x" (maybe "any") ∷ []) (set "x" e ∷ body)

-- class APP create make feature make do print (..) print (..) print (y) end end
abbrev pub binds : Ex → Ex → ClassT
binds e f = body_alone (show e ∷ show f ∷ show (the "y") ∷ [])

-- with none of their places
abbrev pub sparse_order_run_trees : List ClassT
sparse_order_run_trees =
    saying (perform (apply "takes_two" (said 2 ∷ said 3 ∷ [])) ∷ [])
    ∷ saying (perform (dot_with (the "itself") "takes_two" (said 2 ∷ said 3 ∷ [])) ∷ [])
    ∷ saying (perform (apply "nope" (said 2 ∷ [])) ∷ [])
    ∷ saying (perform (dot_with me "takes_two" (said 2 ∷ [])) ∷ [])
    ∷ saying (make_by "a" "default_create" (said 2 ∷ []) ∷ [])
    ∷ saying (show (dot_with nobody "nope" (said 2 ∷ [])) ∷ [])
    ∷ saying (show (two op.Minus (said 1) (said 2)) ∷ [])
    ∷ saying (show (two op.Equal (said 1) (said 2)) ∷ [])
    ∷ shown (two op.AndThen (truth false) stops)
    ∷ shown (two op.OrElse (truth true) stops)
    ∷ shown (two op.Implies (truth false) stops)
    ∷ shown (two op.AndThen (truth true) stops)
    ∷ shown (two op.OrElse (truth false) stops)
    ∷ shown (two op.Implies (truth true) stops)
    ∷ shown (two op.And (truth false) stops)
    ∷ shown (two op.Or (truth true) stops)
    ∷ shown (two op.AndThen (truth true) (truth true))
    ∷ shown (two op.OrElse (truth false) (truth false))
    ∷ shown (two op.Implies (truth true) (truth false))
    ∷ shown (two op.And (truth true) (truth false))
    ∷ shown (two op.Or (truth false) (truth true))
    ∷ shown (two op.Xor (truth true) (truth true))
    ∷ tells_early
    ++ creates_argument
    ++ saying (when (truth true) (show (said 1) ∷ []) (show (said 2) ∷ []) ∷ [])
    ∷ saying (when (truth false) (show (said 1) ∷ []) (show (said 2) ∷ []) ∷ [])
    ∷ shown (is_there "y" nobody)
    ∷ shown (is_there "y" (number 1))
    ∷ shown (is_a (maybe "any") "y" nobody)
    ∷ shown (is_a (plain "any") "y" (number 1))
    ∷ shown (is_a (plain "integer") "y" (number 1))
    ∷ shown (is_a (plain "boolean") "y" (number 1))
    ∷ with_value (new (plain "h")) (show (is_a (plain "p") "y" (the "x")) ∷ [])
    ∷ class "p" (field "f" (maybe "any") ∷ [])
    ∷ heir (parent "p" ∷ []) (class "h" [])
    ∷ with_value (new (plain "p")) (show (is_a (plain "h") "y" (the "x")) ∷ [])
    ∷ with_value (text "s") (shows_if (is_a (plain "string") "y" (the "x")) (dot (the "y") "count"))
    ∷ with_value (text "s") (shows_if (is_there "y" (the "x")) (dot (the "y") "count"))
    ∷ with_value (text "s") (shows_if (is_there "y" (the "x")) (dot (the "y") "out"))
    ∷ with_value (new (plain "h")) (shows_if (is_a (plain "p") "y" (the "x")) (dot (the "y") "f"))
    ∷ with_value (text "st") (show (two op.AndThen (is_a (plain "string") "y" (the "x")) has_two) ∷ [])
    ∷ binds (is_integer (text "s")) (is_integer (text "s"))
    ∷ binds (is_integer (number 1)) (is_integer (text "s"))
    ∷ binds (is_integer (number 1)) (is_integer (number 2))
    ∷ []

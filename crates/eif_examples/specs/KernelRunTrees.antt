-- The trees of the runs of the kernel, and of those whose bounds count.
use Rattle.std.specs.Prelude.{pos, true, false, List, [], ◌∷◌, ◌++◌}
use Rattle.eif_tree.specs.declared.tree.Literal.TheVariants as lit
use Rattle.eif_tree.specs.declared.tree.Op.TheVariants as op
use Rattle.eif_tree.specs.Tree.{Ex, Ins, DeclT, ClassT}
use Rattle.eif_meaning.specs.BodyTexts.{plain, generic, number, text, letter, truth, nobody, me, the, parents_own, dot, dot_with, one, two, set, perform, show, make, make_by, until}
use Rattle.eif_meaning.specs.BoundedRuns as bounded
use Rattle.eif_meaning.specs.KernelRuns.{out_of, appends, shows_item, shows_bounds}
use Rattle.eif_meaning.specs.RunSystems.{has, field, fixed, parent, redefining, class, heir, app, making}
use Rattle.eif_examples.specs.RunClasses.{making_alone, body_alone, shown}

-- class APP inherit ANY redefine out end create make feature make do .. end out: T .. end
abbrev pub prints_current : DeclT → List Ins → ClassT
prints_current d body = heir (redefining "out" (parent "any") ∷ []) (app (making [] body ∷ d ∷ []))

-- class APP create make feature make local s: STRING t: STRING do s := "ab" t := s .. end end
abbrev pub with_string : List Ins → ClassT
with_string body =
    making_alone (has "s" (plain "string") ∷ has "t" (plain "string") ∷ [])
    (set "s" (text "ab") ∷ set "t" (the "s") ∷ body)

-- class APP create make feature make local a: ARRAY [INTEGER] do create a.make_filled (7, 3, 5) a.put (8, 4) .. end end
abbrev pub with_array : List Ins → ClassT
with_array body =
    making_alone (has "a" (generic "array" (plain "integer" ∷ [])) ∷ [])
    (make_by "a" "make_filled" (number 7 ∷ number 3 ∷ number 5 ∷ [])
    ∷ perform (dot_with (the "a") "put" (number 8 ∷ number 4 ∷ [])) ∷ body)

-- class APP create make feature make local a: ARRAY [INTEGER] do create a .. end end
abbrev pub with_unfilled : List Ins → ClassT
with_unfilled body = making_alone (has "a" (generic "array" (plain "integer" ∷ [])) ∷ []) (make "a" ∷ body)

-- class APP create make feature make do x := .. end x: INTEGER k: INTEGER = 2 end
abbrev pub sets_x : Ex → ClassT
sets_x e =
    app (making [] (set "x" e ∷ [])
    ∷ field "x" (plain "integer")
    ∷ fixed "k" (plain "integer") (lit.Int (pos 2))
    ∷ [])

-- class APP create make feature make local i: INTEGER j: INTEGER do .. end end
abbrev pub with_turns : List Ins → ClassT
with_turns body = making_alone (has "i" (plain "integer") ∷ has "j" (plain "integer") ∷ []) body

-- with none of their places
abbrev pub sparse_kernel_run_trees : List ClassT
sparse_kernel_run_trees =
    shown (number 120)
    ∷ shown (one op.Minus (number 5))
    ∷ shown (truth true)
    ∷ shown (letter 99)
    ∷ shown (text "abc")
    ∷ shown nobody
    ∷ shown me
    ∷ shown (dot (number 7) "out")
    ∷ shown (dot (letter 99) "code")
    ∷ prints_current (out_of (plain "string") (text "o")) (show me ∷ show (dot me "out") ∷ [])
    ∷ prints_current (field "out" (plain "string")) (set "out" (text "f") ∷ show me ∷ [])
    ∷ prints_current (field "out" (plain "string")) (show me ∷ [])
    ∷ prints_current (out_of (plain "integer") (number 1)) (show me ∷ [])
    ∷ with_string (appends (text "c") ∷ show (the "t") ∷ show (dot (the "t") "count") ∷ [])
    ∷ with_string (appends (the "s") ∷ show (the "s") ∷ [])
    ∷ with_string (set "s" (two op.Plus (the "s") (text "c")) ∷ show (the "s") ∷ show (the "t") ∷ [])
    ∷ with_string (perform (dot (the "s") "make_empty") ∷ show (dot (the "t") "is_empty") ∷ show (the "t") ∷ [])
    ∷ with_string (show (dot_with (the "s") "item" (number 2 ∷ [])) ∷ [])
    ∷ with_string (show (dot (the "s") "out") ∷ show (two op.Equal (dot (the "s") "out") (the "s")) ∷ [])
    ∷ with_string (appends (number 1) ∷ [])
    ∷ with_string (appends nobody ∷ [])
    ∷ with_string (show (dot_with (the "s") "item" (truth true ∷ [])) ∷ [])
    ∷ with_array (shows_item 3 ∷ shows_item 4 ∷ shows_item 5 ∷ [])
    ∷ with_array shows_bounds
    ∷ with_array (perform (dot_with (the "a") "make_filled" (number 9 ∷ number 1 ∷ number 0 ∷ [])) ∷ shows_bounds)
    ∷ with_array (show (the "a") ∷ [])
    ∷ with_unfilled shows_bounds
    ∷ body_alone []
    ∷ app bounded.calls_itself
    ∷ app bounded.prints_levels
    ∷ shown (number 1)
    ∷ prints_current bounded.out_function (show me ∷ [])
    ∷ prints_current bounded.out_field (set "out" (text "f") ∷ show me ∷ [])
    ∷ sets_x (the "x")
    ∷ sets_x (the "k")
    ∷ making_alone (has "a" (plain "any") ∷ []) (make "a" ∷ [])
    ∷ heir (redefining "make" (parent "p") ∷ []) (app (making [] (perform parents_own ∷ []) ∷ []))
    ∷ class "p" (making [] [] ∷ [])
    ∷ with_turns (bounded.turns 3)
    ∷ with_turns (bounded.turns 4)
    ∷ with_turns (bounded.turns 3 ++ bounded.turns 3)
    ∷ with_turns (bounded.twice (bounded.turns 3))
    ∷ body_alone (until [] (truth true) (show (text "t") ∷ []) ∷ [])
    ∷ body_alone (until [] (truth false) (show (text "t") ∷ []) ∷ [])
    ∷ []

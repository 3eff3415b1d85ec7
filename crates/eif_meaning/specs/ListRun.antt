-- A run of a list whose cells are generic: four strings are put into it, and the sum of their lengths is printed.
use Rattle.std.specs.Prelude.{◌≡◌, [], ◌∷◌, None, codes}
use Rattle.eif_tree.specs.declared.tree.Op.TheVariants as op
use Rattle.eif_tree.specs.Tree.{TypeT, DeclT, ClassT}
use Rattle.eif_meaning.specs.Run.{finished}
use Rattle.eif_meaning.specs.BodyTexts.{plain, generic, maybe_generic, number, text, nobody, answer, the, apply, dot, dot_with, is_there, two, set, perform, show, make_by, when, until}
use Rattle.eif_meaning.specs.RunSystems.{has, field, does_with, gives_by, class, formal, over, app, making, run_of}

-- LINK [G], with an item and the next cell
abbrev pub link : ClassT
link = over (formal "g" None ∷ []) (class "link" (
    field "item" (plain "g")
    ∷ field "next" (maybe_generic "link" (plain "g" ∷ []))
    ∷ does_with "make" (has "v" (plain "g") ∷ []) [] (set "item" (the "v") ∷ [])
    ∷ does_with "set_next" (has "n" (maybe_generic "link" (plain "g" ∷ [])) ∷ []) [] (set "next" (the "n") ∷ [])
    ∷ []))

-- LINK [STRING]
abbrev pub cell : TypeT
cell = generic "link" (plain "string" ∷ [])

-- puts "one" and the texts of 0, 1 and 2, and prints the sum
abbrev pub fills : DeclT
fills = making (has "i" (plain "integer") ∷ []) (
    make_by "head" "make" (text "one" ∷ [])
    ∷ until (set "i" (number 0) ∷ []) (two op.GreaterEqual (the "i") (number 3))
    (perform (apply "push" (dot (the "i") "out" ∷ [])) ∷ set "i" (two op.Plus (the "i") (number 1)) ∷ [])
    ∷ show (the "total")
    ∷ [])

-- a new cell in front of the others
abbrev pub push : DeclT
push = does_with "push" (has "s" (plain "string") ∷ []) (has "l" cell ∷ []) (
    make_by "l" "make" (the "s" ∷ [])
    ∷ perform (dot_with (the "l") "set_next" (the "head" ∷ []))
    ∷ set "head" (the "l")
    ∷ [])

-- adds the length of an item, and goes on to the next cell
abbrev pub total : DeclT
total = gives_by "total" (plain "integer") (has "c" (maybe_generic "link" (plain "string" ∷ [])) ∷ []) (
    until (set "c" (the "head") ∷ []) (two op.Equal (the "c") nobody)
    (when (is_there "d" (the "c")) (
    set "result" (two op.Plus answer (dot (dot (the "d") "item") "count"))
    ∷ set "c" (dot (the "d") "next")
    ∷ [])
    (set "c" nobody ∷ [])
    ∷ [])
    ∷ [])

-- 3 and three times 1
abbrev pub ListRun : Type 0
ListRun = run_of 10 (app (field "head" cell ∷ fills ∷ push ∷ total ∷ []) ∷ link ∷ []) ≡ finished (codes "6")

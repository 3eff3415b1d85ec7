-- Runs and their bounds: levels of calls, and turns of loops.
use Prim.Native.String.{String}
use Rattle.std.specs.Prelude.{◌≡◌, ℕ, pos, true, false, List, [], ◌∷◌, ◌++◌, codes}
use Rattle.eif_tree.specs.declared.tree.Op.TheVariants as op
use Rattle.eif_tree.specs.declared.tree.Literal.TheVariants as lit
use Rattle.eif_tree.specs.Tree.{Ex, Ins, DeclT}
use Rattle.eif_meaning.specs.Run.{Ran, finished, unfinished}
use Rattle.eif_meaning.specs.BodyTexts.{plain, number, text, truth, me, the, parents_own, two, set, perform, show, make, until}
use Rattle.eif_meaning.specs.RunSystems.{has, field, fixed, does, gives, parent, redefining, class, heir, app, making, run_of, run_alone, run_making, run_body}

-- calls itself
abbrev pub calls_itself : List DeclT
calls_itself = making [] (perform (the "make") ∷ []) ∷ []

-- from the root on, whatever the bound
abbrev pub EndlessIsCutOff : Type 0
EndlessIsCutOff = (n : ℕ) → run_alone n calls_itself ≡ unfinished []

-- prints a letter at each level from the second on
abbrev pub prints_levels : List DeclT
prints_levels =
    making [] (perform (the "again") ∷ []) ∷ does "again" (show (text "a") ∷ perform (the "again") ∷ []) ∷ []

-- prints Current, whose class has its own `out`
abbrev pub prints_current : ℕ → DeclT → List Ins → Ran
prints_current n d before =
    run_of n (heir (redefining "out" (parent "any") ∷ []) (app (making [] (before ++ show me ∷ []) ∷ d ∷ [])) ∷ [])

-- `out` as a function
abbrev pub out_function : DeclT
out_function = gives "out" (plain "string") (set "result" (text "o") ∷ [])

-- `out` as a field
abbrev pub out_field : DeclT
out_field = field "out" (plain "string")

-- sets a field `x` by the value of an expression, beside a constant `k`
abbrev pub sets_x : ℕ → Ex → Ran
sets_x n e =
    run_alone n (making [] (set "x" e ∷ [])
    ∷ field "x" (plain "integer")
    ∷ fixed "k" (plain "integer") (lit.Int (pos 2))
    ∷ [])

-- calls the parent's `make`
abbrev pub calls_parent : ℕ → Ran
calls_parent n =
    run_of n (heir (redefining "make" (parent "p") ∷ []) (app (making [] (perform parents_own ∷ []) ∷ []))
    ∷ class "p" (making [] [] ∷ []) ∷ [])

-- creates an ANY
abbrev pub creates : ℕ → Ran
creates n = run_making n (has "a" (plain "any") ∷ []) (make "a" ∷ [])

-- x := x + 1
abbrev pub counts : String → Ins
counts x = set x (two op.Plus (the x) (number 1))

-- prints 0 to k - 1
abbrev pub turns : ℕ → List Ins
turns k =
    until (set "i" (number 0) ∷ []) (two op.Equal (the "i") (number k)) (show (the "i") ∷ counts "i" ∷ []) ∷ []

-- does it twice, in a loop
abbrev pub twice : List Ins → List Ins
twice body = until [] (two op.Equal (the "j") (number 2)) (counts "j" ∷ body) ∷ []

-- with these locals, and at most 3 levels and turns
abbrev pub run_turns : List Ins → Ran
run_turns body = run_making 3 (has "i" (plain "integer") ∷ has "j" (plain "integer") ∷ []) body

-- with the bounds that are given
abbrev pub BoundedRuns : Type 0
BoundedRuns =
    -- the root's call has level 1, and what it calls level 2
    (run_body 0 [] ≡ unfinished [])
    × (run_body 1 [] ≡ finished [])
    × EndlessIsCutOff
    × (run_alone 3 prints_levels ≡ unfinished [])
    × (run_alone 5 prints_levels ≡ unfinished (codes "aa"))
    -- `print` has a level, and the `out` that it calls one more; the read of a field has none
    × (run_body 2 (show (number 1) ∷ []) ≡ unfinished [])
    × (run_body 3 (show (number 1) ∷ []) ≡ finished (codes "1"))
    × (prints_current 2 out_function [] ≡ unfinished [])
    × (prints_current 3 out_function [] ≡ finished (codes "o"))
    × (prints_current 2 out_field (set "out" (text "f") ∷ []) ≡ finished (codes "f"))
    × (sets_x 1 (the "x") ≡ finished [])
    -- a constant has one, a creation has one, and so has Precursor
    × (sets_x 1 (the "k") ≡ unfinished [])
    × (sets_x 2 (the "k") ≡ finished [])
    × (creates 1 ≡ unfinished [])
    × (creates 2 ≡ finished [])
    × (calls_parent 1 ≡ unfinished [])
    × (calls_parent 2 ≡ finished [])
    -- turns are counted in each execution of a loop
    × (run_turns (turns 3) ≡ finished (codes "012"))
    × (run_turns (turns 4) ≡ unfinished (codes "012"))
    × (run_turns (turns 3 ++ turns 3) ≡ finished (codes "012012"))
    × (run_turns (twice (turns 3)) ≡ finished (codes "012012"))
    × (run_body 5 (until [] (truth true) (show (text "t") ∷ []) ∷ []) ≡ finished [])
    × (run_body 5 (until [] (truth false) (show (text "t") ∷ []) ∷ []) ≡ unfinished (codes "ttttt"))

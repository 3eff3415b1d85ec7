-- The trees of the runs that go wrong.
use Prim.Native.String.{String}
use Rattle.std.specs.Prelude.{true, List, [], ◌∷◌, ◌++◌}
use Rattle.eif_tree.specs.declared.tree.Op.TheVariants as op
use Rattle.eif_tree.specs.Tree.{ClassT}
use Rattle.eif_meaning.specs.BodyTexts.{plain, number, text, truth, nobody, answer, the, apply, dot, new, new_by, is_there, one, two, parents_own, set, perform, show, when, until}
use Rattle.eif_meaning.specs.RunSystems.{has, field, does_with, app, making}
use Rattle.eif_meaning.specs.WrongRuns.{noisy, calls_on_void_loudly, shows_field, shows_function, calls_with_one, calls_deferred, creates_deferred}
use Rattle.eif_examples.specs.RunClasses.{making_alone, body_alone, shown}

-- class APP create make feature make local s: T do s := 1 print (s.f) end end
abbrev pub shows_through : String → String → ClassT
shows_through class_name query =
    making_alone (has "s" (plain class_name) ∷ []) (set "s" (number 1) ∷ show (dot (the "s") query) ∷ [])

-- with none of their places
abbrev pub sparse_wrong_run_trees : List ClassT
sparse_wrong_run_trees =
    app calls_on_void_loudly
    ∷ shown (dot nobody "out")
    ∷ app shows_field
    ∷ making_alone (has "s" (plain "string") ∷ []) (show (the "s") ∷ [])
    ∷ app (shows_function (set "result" answer ∷ []))
    ∷ app (shows_function (show (text "f") ∷ []))
    ∷ shown (the "nope")
    ∷ making_alone (has "i" (plain "integer") ∷ []) (show (apply "i" (number 1 ∷ [])) ∷ [])
    ∷ app (calls_with_one (perform (the "f") ∷ []))
    ∷ app (calls_with_one (perform (apply "f" (number 1 ∷ [])) ∷ []))
    ∷ shows_through "string" "count"
    ∷ shows_through "nope" "out"
    ∷ body_alone (perform parents_own ∷ [])
    ∷ calls_deferred
    ++ creates_deferred
    ++ shown (new (plain "integer"))
    ∷ shown (new_by (plain "any") "nope" [])
    ∷ app (field "s" (plain "string") ∷ making [] (show (new_by (plain "app") "s" []) ∷ []) ∷ [])
    ∷ app (making [] (show (the "noisy") ∷ []) ∷ noisy ∷ [])
    ∷ body_alone (when (apply "print" (number 1 ∷ [])) [] [] ∷ [])
    ∷ app (calls_with_one (set "i" (the "loud") ∷ []))
    ∷ app (calls_with_one (when (is_there "y" (number 1)) (set "y" (the "loud") ∷ []) [] ∷ []))
    ∷ app (calls_with_one (set "loud" (the "loud") ∷ []))
    ∷ shown (two op.Plus (number 1) (truth true))
    ∷ shown (one op.Not (number 1))
    ∷ shown (two op.AndThen (number 1) (truth true))
    ∷ shown (two op.Less (number 1) nobody)
    ∷ body_alone (when (number 1) [] [] ∷ [])
    ∷ body_alone (until [] nobody [] ∷ [])
    ∷ app []
    ∷ app (does_with "make" (has "i" (plain "integer") ∷ []) [] [] ∷ [])
    ∷ []

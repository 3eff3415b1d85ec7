-- Runs that go wrong.
use Prim.Native.String.{String}
use Rattle.std.specs.Prelude.{◌≡◌, true, List, [], ◌∷◌, codes}
use Rattle.eif_tree.specs.declared.tree.Op.TheVariants as op
use Rattle.eif_tree.specs.Tree.{Ex, Ins, DeclT, ClassT}
use Rattle.eif_meaning.specs.Values.{void_target, unset, no_feature, not_boolean}
use Rattle.eif_meaning.specs.System.{system_of}
use Rattle.eif_meaning.specs.Run.{Ran, unfinished, went_wrong, run}
use Rattle.eif_meaning.specs.BodyTexts.{plain, maybe, number, text, truth, nobody, answer, the, apply, dot, dot_with, new, new_by, is_there, one, two, parents_own, set, perform, show, make, make_as, when, until}
use Rattle.eif_meaning.specs.RunSystems.{has, field, later, does, does_with, gives, parent, class, heir, marked_deferred, app, making, run_of, run_alone, run_making, run_body}

-- prints "l", and gives a STRING
abbrev pub loud : DeclT
loud = gives "loud" (plain "string") (show (text "l") ∷ set "result" (text "s") ∷ [])

-- prints "n", and gives nothing
abbrev pub noisy : DeclT
noisy = does "noisy" (show (text "n") ∷ [])

-- calls on Void with an argument that prints
abbrev pub calls_on_void_loudly : List DeclT
calls_on_void_loudly =
    making (has "x" (maybe "app") ∷ []) (perform (dot_with (the "x") "put" (the "loud" ∷ [])) ∷ [])
    ∷ does_with "put" (has "s" (plain "string") ∷ []) [] []
    ∷ loud ∷ []

-- shows a STRING field that no one set
abbrev pub shows_field : List DeclT
shows_field = field "s" (plain "string") ∷ making [] (show (the "s") ∷ []) ∷ []

-- shows what the function `f` with this body gives
abbrev pub shows_function : List Ins → List DeclT
shows_function body = making [] (show (the "f") ∷ []) ∷ gives "f" (plain "string") body ∷ []

-- calls `f (1)` with this body
abbrev pub calls_with_one : List Ins → List DeclT
calls_with_one body =
    making [] (perform (apply "f" (number 1 ∷ [])) ∷ [])
    ∷ does_with "f" (has "i" (plain "integer") ∷ []) [] body
    ∷ loud ∷ []

-- calls a deferred feature that its class, which is not marked, has not made effective
abbrev pub calls_deferred : List ClassT
calls_deferred =
    app (making (has "b" (plain "b") ∷ []) (make_as (plain "c") "b" ∷ perform (dot (the "b") "f") ∷ []) ∷ [])
    ∷ marked_deferred (class "b" (later "f" ∷ []))
    ∷ heir (parent "b" ∷ []) (class "c" [])
    ∷ []

-- creates a class that is marked deferred
abbrev pub creates_deferred : List ClassT
creates_deferred =
    app (making (has "b" (plain "b") ∷ []) (make "b" ∷ []) ∷ []) ∷ marked_deferred (class "b" []) ∷ []

-- shows a query of 1 through a local `s` of a class
abbrev pub shows_through : String → String → Ran
shows_through class_name query =
    run_making 10 (has "s" (plain class_name) ∷ []) (set "s" (number 1) ∷ show (dot (the "s") query) ∷ [])

-- shows the value of an expression
abbrev pub shows : Ex → Ran
shows e = run_body 10 (show e ∷ [])

-- with 10 levels and turns, where no other bound is given
abbrev pub WrongRuns : Type 0
WrongRuns =
    -- a target that is Void is told after the arguments were evaluated
    (run_alone 10 calls_on_void_loudly ≡ went_wrong void_target (codes "l"))
    × (shows (dot nobody "out") ≡ went_wrong void_target [])
    -- a field, a local and `Result` are read before they are set; a function ends without a `Result`
    × (run_alone 10 shows_field ≡ went_wrong unset [])
    × (run_making 10 (has "s" (plain "string") ∷ []) (show (the "s") ∷ []) ≡ went_wrong unset [])
    × (run_alone 10 (shows_function (set "result" answer ∷ [])) ≡ went_wrong unset [])
    × (run_alone 10 (shows_function (show (text "f") ∷ [])) ≡ went_wrong unset (codes "f"))
    -- a missing name, a local with an argument, a wrong count, which is told before a call past the bound
    × (shows (the "nope") ≡ went_wrong no_feature [])
    × (run_making 10 (has "i" (plain "integer") ∷ []) (show (apply "i" (number 1 ∷ [])) ∷ [])
    ≡ went_wrong no_feature [])
    × (run_alone 10 (calls_with_one (perform (the "f") ∷ [])) ≡ went_wrong no_feature [])
    × (run_alone 2 (calls_with_one (perform (the "f") ∷ [])) ≡ went_wrong no_feature [])
    × (run_alone 2 (calls_with_one (perform (apply "f" (number 1 ∷ [])) ∷ [])) ≡ unfinished [])
    -- a name of the seen class that the object's class has not, a seen class that is not there, and Precursor where no
    -- parent has a version
    × (shows_through "string" "count" ≡ went_wrong no_feature [])
    × (shows_through "nope" "out" ≡ went_wrong no_feature [])
    × (run_body 10 (perform parents_own ∷ []) ≡ went_wrong no_feature [])
    -- a deferred binding; creations of a deferred class, of INTEGER, by a missing creator and by a field
    × (run_of 10 calls_deferred ≡ went_wrong no_feature [])
    × (run_of 10 creates_deferred ≡ went_wrong no_feature [])
    × (shows (new (plain "integer")) ≡ went_wrong no_feature [])
    × (shows (new_by (plain "any") "nope" []) ≡ went_wrong no_feature [])
    × (run_alone 10 (field "s" (plain "string") ∷ making [] (show (new_by (plain "app") "s" []) ∷ []) ∷ [])
    ≡ went_wrong no_feature [])
    -- a call without result is used as a value, which is told after it ran
    × (run_alone 10 (making [] (show (the "noisy") ∷ []) ∷ noisy ∷ []) ≡ went_wrong no_feature (codes "n"))
    × (run_body 10 (when (apply "print" (number 1 ∷ [])) [] [] ∷ []) ≡ went_wrong no_feature (codes "1"))
    -- a source is evaluated, and then its target is an argument, a bound test local or a routine
    × (run_alone 10 (calls_with_one (set "i" (the "loud") ∷ [])) ≡ went_wrong no_feature (codes "l"))
    × (run_alone 10 (calls_with_one (when (is_there "y" (number 1)) (set "y" (the "loud") ∷ []) [] ∷ []))
    ≡ went_wrong no_feature (codes "l"))
    × (run_alone 10 (calls_with_one (set "loud" (the "loud") ∷ [])) ≡ went_wrong no_feature (codes "l"))
    -- operands of other kinds
    × (shows (two op.Plus (number 1) (truth true)) ≡ went_wrong no_feature [])
    × (shows (one op.Not (number 1)) ≡ went_wrong no_feature [])
    × (shows (two op.AndThen (number 1) (truth true)) ≡ went_wrong no_feature [])
    × (shows (two op.Less (number 1) nobody) ≡ went_wrong no_feature [])
    -- a condition and an exit that give no BOOLEAN
    × (run_body 10 (when (number 1) [] [] ∷ []) ≡ went_wrong not_boolean [])
    × (run_body 10 (until [] nobody [] ∷ []) ≡ went_wrong not_boolean [])
    -- a root class or procedure that is not there, or takes arguments; a root class that is not created
    × (run_of 10 [] ≡ went_wrong no_feature [])
    × (run_alone 10 [] ≡ went_wrong no_feature [])
    × (run_alone 10 (does_with "make" (has "i" (plain "integer") ∷ []) [] [] ∷ []) ≡ went_wrong no_feature [])
    × (run 10 (system_of []) (codes "integer") (codes "out") ≡ went_wrong no_feature [])

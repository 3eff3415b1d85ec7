-- Runs of object tests.
use Rattle.std.specs.Prelude.{◌≡◌, List, [], ◌∷◌, codes}
use Rattle.eif_tree.specs.declared.tree.Op.TheVariants as op
use Rattle.eif_tree.specs.Tree.{Ex, Ins}
use Rattle.eif_meaning.specs.Values.{no_feature}
use Rattle.eif_meaning.specs.Run.{Ran, finished, went_wrong}
use Rattle.eif_meaning.specs.BodyTexts.{plain, maybe, number, text, nobody, the, dot, new, is_there, is_a, two, set, show, when}
use Rattle.eif_meaning.specs.RunSystems.{has, field, parent, class, heir, app, making, run_of, run_body}

-- says whether a test holds
abbrev pub says : Ex → Ran
says e = run_body 10 (show e ∷ [])

-- with a local `x: detachable ANY` that has a value, and beside it P and its heir H
abbrev pub with_value : Ex → List Ins → Ran
with_value e body =
    run_of 10 (app (making (has "x" (maybe "any") ∷ []) (set "x" e ∷ body) ∷ [])
    ∷ class "p" (field "f" (maybe "any") ∷ [])
    ∷ heir (parent "p" ∷ []) (class "h" [])
    ∷ [])

-- where `x` passes a test, a query of its local is shown
abbrev pub shows_if : Ex → Ex → List Ins
shows_if e shown = when e (show shown ∷ []) [] ∷ []

-- `y` is bound by the tests, and then shown
abbrev pub binds : Ex → Ex → Ran
binds e f = run_body 10 (show e ∷ show f ∷ show (the "y") ∷ [])

-- y.count = 2
abbrev pub has_two : Ex
has_two = two op.Equal (dot (the "y") "count") (number 2)

-- attached {INTEGER} e as y
abbrev pub is_integer : Ex → Ex
is_integer e = is_a (plain "integer") "y" e

-- with 10 levels and turns
abbrev pub TestRuns : Type 0
TestRuns =
    -- Void fits no type; without a written type any other value will do
    (says (is_there "y" nobody) ≡ finished (codes "False"))
    × (says (is_there "y" (number 1)) ≡ finished (codes "True"))
    × (says (is_a (maybe "any") "y" nobody) ≡ finished (codes "False"))
    -- basic values are objects of their classes
    × (says (is_a (plain "any") "y" (number 1)) ≡ finished (codes "True"))
    × (says (is_a (plain "integer") "y" (number 1)) ≡ finished (codes "True"))
    × (says (is_a (plain "boolean") "y" (number 1)) ≡ finished (codes "False"))
    -- an heir conforms to its parent, and not the other way round
    × (with_value (new (plain "h")) (show (is_a (plain "p") "y" (the "x")) ∷ []) ≡ finished (codes "True"))
    × (with_value (new (plain "p")) (show (is_a (plain "h") "y" (the "x")) ∷ []) ≡ finished (codes "False"))
    -- the local is the tested value, seen under the written type, or else under that of the tested expression
    × (with_value (text "s") (shows_if (is_a (plain "string") "y" (the "x")) (dot (the "y") "count"))
    ≡ finished (codes "1"))
    × (with_value (text "s") (shows_if (is_there "y" (the "x")) (dot (the "y") "count"))
    ≡ went_wrong no_feature [])
    × (with_value (text "s") (shows_if (is_there "y" (the "x")) (dot (the "y") "out")) ≡ finished (codes "s"))
    × (with_value (new (plain "h")) (shows_if (is_a (plain "p") "y" (the "x")) (dot (the "y") "f"))
    ≡ finished (codes "Void"))
    -- in the right operand
    × (with_value (text "st") (show (two op.AndThen (is_a (plain "string") "y" (the "x")) has_two) ∷ [])
    ≡ finished (codes "True"))
    -- a test that does not hold binds nothing, and leaves an earlier binding
    × (binds (is_integer (text "s")) (is_integer (text "s")) ≡ went_wrong no_feature (codes "FalseFalse"))
    × (binds (is_integer (number 1)) (is_integer (text "s")) ≡ finished (codes "TrueFalse1"))
    × (binds (is_integer (number 1)) (is_integer (number 2)) ≡ finished (codes "TrueTrue2"))

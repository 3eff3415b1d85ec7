-- Runs that show what `Precursor` calls.
use Prim.Native.String.{String}
use Rattle.std.specs.Prelude.{◌≡◌, ℕ, List, [], ◌∷◌, None, codes}
use Rattle.eif_tree.specs.declared.tree.Op.TheVariants as op
use Rattle.eif_tree.specs.Tree.{Ex, precursor, DeclT, ClassT}
use Rattle.eif_tree.specs.View.{exs_from}
use Rattle.eif_system.specs.TreeForms.{nowhere}
use Rattle.eif_meaning.specs.Values.{no_feature}
use Rattle.eif_meaning.specs.Run.{finished, went_wrong}
use Rattle.eif_meaning.specs.BodyTexts.{plain, number, the, apply, dot, parents_own, own_of, two, set, show, make}
use Rattle.eif_meaning.specs.RunSystems.{has, field, gives, gives_with, parent, renaming, redefining, class, heir, app, making, run_of}

-- a function that gives the value of an expression
abbrev pub teller : String → Ex → DeclT
teller n e = gives n (plain "integer") (set "result" e ∷ [])

-- what Precursor gives, and a number
abbrev pub own_and : ℕ → Ex
own_and n = two op.Plus parents_own (number n)

-- `f` by Precursor along two parents; the topmost one calls `g`, which the root redefines
abbrev pub chain : List ClassT
chain =
    heir (redefining "g" (redefining "f" (parent "q")) ∷ [])
    (app (making [] (show (the "f") ∷ []) ∷ teller "f" (own_and 100) ∷ teller "g" (number 7) ∷ []))
    ∷ heir (redefining "f" (parent "p") ∷ []) (class "q" (teller "f" (own_and 10) ∷ []))
    ∷ class "p" (teller "f" (the "g") ∷ teller "g" (number 1) ∷ [])
    ∷ []

-- `f` by the Precursor of one of two parents
abbrev pub of_two : String → List ClassT
of_two n =
    heir (redefining "f" (parent "p") ∷ redefining "f" (parent "q") ∷ [])
    (app (making [] (show (the "f") ∷ []) ∷ teller "f" (own_of n) ∷ []))
    ∷ class "p" (teller "f" (number 1) ∷ []) ∷ class "q" (teller "f" (number 2) ∷ []) ∷ []

-- f (i: INTEGER): INTEGER
abbrev pub teller_with : Ex → DeclT
teller_with e = gives_with "f" (has "i" (plain "integer") ∷ []) (plain "integer") (set "result" e ∷ [])

-- Precursor (i + 1) of a version that takes its argument ten times
abbrev pub hands_on : List ClassT
hands_on =
    heir (redefining "f" (parent "p") ∷ []) (app (making [] (show (apply "f" (number 1 ∷ [])) ∷ [])
    ∷ teller_with (precursor nowhere None (exs_from (two op.Plus (the "i") (number 1) ∷ []))) ∷ []))
    ∷ class "p" (teller_with (two op.Times (the "i") (number 10)) ∷ [])
    ∷ []

-- R has Q's `f`, which calls P's by Precursor, as `g`, and an `f` of its own
abbrev pub renamed_version : List ClassT
renamed_version =
    app (making (has "r" (plain "r") ∷ [])
    (make "r" ∷ show (dot (the "r") "g") ∷ show (dot (the "r") "f") ∷ []) ∷ [])
    ∷ class "p" (teller "f" (number 1) ∷ [])
    ∷ heir (redefining "f" (parent "p") ∷ []) (class "q" (teller "f" (own_and 10) ∷ []))
    ∷ heir (renaming "f" "g" (parent "q") ∷ []) (class "r" (teller "f" (number 5) ∷ []))
    ∷ []

-- the parent's `f` is a field, which the rules don't let a class redefine so
abbrev pub of_field : List ClassT
of_field =
    heir (redefining "f" (parent "p") ∷ [])
    (app (making [] (show (the "f") ∷ []) ∷ teller "f" parents_own ∷ []))
    ∷ class "p" (field "f" (plain "integer") ∷ [])
    ∷ []

-- with 10 levels and turns
abbrev pub PrecursorRuns : Type 0
PrecursorRuns =
    -- a parent's version on Current
    (run_of 10 chain ≡ finished (codes "117"))
    -- of the parent that is named
    × (run_of 10 (of_two "p") ≡ finished (codes "1"))
    × (run_of 10 (of_two "q") ≡ finished (codes "2"))
    -- with arguments of its own
    × (run_of 10 hands_on ≡ finished (codes "20"))
    -- by the name of the body where it is declared, also on an object whose class has it under another one
    × (run_of 10 renamed_version ≡ finished (codes "115"))
    -- a field is no version that it can run
    × (run_of 10 of_field ≡ went_wrong no_feature [])

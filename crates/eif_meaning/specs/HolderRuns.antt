-- Runs that show how fields, locals and `Result` begin, and how long they last.
use Prim.Native.String.{String}
use Rattle.std.specs.Prelude.{◌≡◌, List, [], ◌∷◌, map, None, codes}
use Rattle.eif_tree.specs.declared.tree.Op.TheVariants as op
use Rattle.eif_tree.specs.Tree.{Ins, GroupT, DeclT, ClassT}
use Rattle.eif_system.specs.TreeForms.{parent_clause}
use Rattle.eif_meaning.specs.Values.{unset, no_feature}
use Rattle.eif_meaning.specs.Run.{Ran, finished, went_wrong}
use Rattle.eif_meaning.specs.BodyTexts.{plain, maybe, generic, number, text, the, dot, is_there, two, set, perform, show, make, when}
use Rattle.eif_meaning.specs.RunSystems.{has, field, does_with, gives, gives_by, class, heir, formal, over, app, making, run_of, run_alone, run_making}

-- an INTEGER, a BOOLEAN, a CHARACTER and a detachable STRING
abbrev pub four_locals : List GroupT
four_locals =
    has "i" (plain "integer") ∷ has "b" (plain "boolean")
    ∷ has "c" (plain "character") ∷ has "s" (maybe "string") ∷ []

-- the same as fields
abbrev pub four_fields : List DeclT
four_fields =
    field "i" (plain "integer") ∷ field "b" (plain "boolean")
    ∷ field "c" (plain "character") ∷ field "s" (maybe "string") ∷ []

-- shows all four, the CHARACTER by its code
abbrev pub shows_four : List Ins
shows_four = map show (the "i" ∷ the "b" ∷ dot (the "c") "code" ∷ the "s" ∷ [])

-- shows what a function gives
abbrev pub shows_f : DeclT → Ran
shows_f d = run_alone 10 (making [] (show (the "f") ∷ []) ∷ d ∷ [])

-- i := i + 1, and shows it
abbrev pub counts : List Ins
counts = set "i" (two op.Plus (the "i") (number 1)) ∷ show (the "i") ∷ []

-- calls a procedure twice
abbrev pub calls_twice : DeclT → List DeclT → Ran
calls_twice d decls = run_alone 10 (making [] (perform (the "f") ∷ perform (the "f") ∷ []) ∷ d ∷ decls)

-- with a local `y` that is a test local too
abbrev pub hides : List Ins → Ran
hides body =
    run_making 10 (has "y" (plain "integer") ∷ [])
    (when (is_there "y" (text "t")) body [] ∷ show (the "y") ∷ [])

-- CELL [G]; of type G are a field, a function that gives its local, and one with an empty body
abbrev pub cell : ClassT
cell = over (formal "g" None ∷ []) (class "cell" (
    field "item" (plain "g")
    ∷ gives_by "local_item" (plain "g") (has "x" (plain "g") ∷ []) (set "result" (the "x") ∷ [])
    ∷ gives "nothing" (plain "g") []
    ∷ []))

-- NUMBERS inherits CELL [INTEGER]
abbrev pub numbers : ClassT
numbers = heir (parent_clause (generic "cell" (plain "integer" ∷ [])) ∷ []) (class "numbers" [])

-- shows a query of a new NUMBERS
abbrev pub shows_query : String → Ran
shows_query query =
    run_of 10 (app (making (has "n" (plain "numbers") ∷ []) (make "n" ∷ show (dot (the "n") query) ∷ []) ∷ [])
    ∷ cell ∷ numbers ∷ [])

-- with 10 levels and turns
abbrev pub HolderRuns : Type 0
HolderRuns =
    -- how they begin
    (run_making 10 four_locals shows_four ≡ finished (codes "0False0Void"))
    × (run_alone 10 (making [] shows_four ∷ four_fields) ≡ finished (codes "0False0Void"))
    × (shows_f (gives "f" (plain "integer") []) ≡ finished (codes "0"))
    × (shows_f (gives "f" (maybe "string") []) ≡ finished (codes "Void"))
    -- a field begins by its type in the class of the object, where G is INTEGER
    × (shows_query "item" ≡ finished (codes "0"))
    -- a local and `Result` begin by their types in the class of the body, where G is a formal
    × (shows_query "local_item" ≡ went_wrong unset [])
    × (shows_query "nothing" ≡ went_wrong unset [])
    -- a local begins anew in each call, and a field stays
    × (calls_twice (does_with "f" [] (has "i" (plain "integer") ∷ []) counts) [] ≡ finished (codes "11"))
    × (calls_twice (does_with "f" [] [] counts) (field "i" (plain "integer") ∷ []) ≡ finished (codes "12"))
    -- a bound test local hides a local of its name, and cannot be assigned
    × (hides (show (the "y") ∷ []) ≡ finished (codes "tt"))
    × (hides (set "y" (number 1) ∷ []) ≡ went_wrong no_feature [])

-- Runs of generic classes: the actuals of the frame stand for formals.
use Prim.Native.String.{String}
use Rattle.std.specs.Prelude.{◌≡◌, List, [], ◌∷◌, map, Some, None, codes}
use Rattle.eif_tree.specs.Tree.{TypeT, Ex, DeclT, ClassT}
use Rattle.eif_system.specs.TreeForms.{parent_clause}
use Rattle.eif_meaning.specs.Values.{unset}
use Rattle.eif_meaning.specs.Run.{Ran, finished, went_wrong}
use Rattle.eif_meaning.specs.BodyTexts.{plain, maybe, generic, number, text, nobody, the, dot, dot_with, new, new_by, is_a, set, show, make_by}
use Rattle.eif_meaning.specs.RunSystems.{has, field, does, does_with, gives, gives_with, class, heir, formal, over, app, making, run_of}

-- CELL [T]
abbrev pub cell_of : TypeT → TypeT
cell_of t = generic "cell" (t ∷ [])

-- whether the argument is of a type
abbrev pub tests : String → TypeT → DeclT
tests n t = gives_with n (has "x" (maybe "any") ∷ []) (plain "boolean") (set "result" (is_a t "y" (the "x")) ∷ [])

-- CELL [G] with tests of G and of CELL [G], and a copy of its own type
abbrev pub cell : ClassT
cell = over (formal "g" None ∷ []) (class "cell" (
    field "item" (plain "g")
    ∷ field "spare" (maybe "g")
    ∷ does_with "make" (has "v" (plain "g") ∷ []) [] (set "item" (the "v") ∷ [])
    ∷ does "leave_empty" []
    ∷ tests "suits" (plain "g")
    ∷ tests "is_alike" (cell_of (plain "g"))
    ∷ gives "twin" (cell_of (plain "g")) (make_by "result" "make" (the "item" ∷ []) ∷ [])
    ∷ []))

-- NAMES inherits CELL [STRING]
abbrev pub names : ClassT
names = heir (parent_clause (cell_of (plain "string")) ∷ []) (class "names" [])

-- ROWS [H] inherits CELL [ARRAY [H]]
abbrev pub rows : ClassT
rows =
    over (formal "h" None ∷ [])
    (heir (parent_clause (cell_of (generic "array" (plain "h" ∷ []))) ∷ []) (class "rows" []))

-- creates a local of the type by `make` with a value, and shows expressions
abbrev pub with_cell : TypeT → Ex → List Ex → Ran
with_cell t e es =
    run_of 10 (app (making (has "c" t ∷ []) (make_by "c" "make" (e ∷ []) ∷ map show es) ∷ [])
    ∷ cell ∷ names ∷ rows ∷ [])

-- CELL [STRING]
abbrev pub strings : TypeT
strings = cell_of (plain "string")

-- CELL [INTEGER]
abbrev pub integers : TypeT
integers = cell_of (plain "integer")

-- c.suits (e)
abbrev pub suits : Ex → Ex
suits e = dot_with (the "c") "suits" (e ∷ [])

-- c.is_alike (e)
abbrev pub is_alike : Ex → Ex
is_alike e = dot_with (the "c") "is_alike" (e ∷ [])

-- an ARRAY with one value
abbrev pub array_of : TypeT → Ex → Ex
array_of t e = new_by (generic "array" (t ∷ [])) "make_filled" (e ∷ number 1 ∷ number 1 ∷ [])

-- BOX [COUNTED] with a new one
abbrev pub new_box : Ex
new_box = new_by (generic "box" (plain "counted" ∷ [])) "make" (new (plain "counted") ∷ [])

-- BOX [G -> COUNTED] calls through its constraint
abbrev pub boxes : List ClassT
boxes =
    app (making [] (show (dot new_box "size") ∷ []) ∷ [])
    ∷ over (formal "g" (Some (plain "counted")) ∷ []) (class "box" (
    field "item" (plain "g")
    ∷ does_with "make" (has "v" (plain "g") ∷ []) [] (set "item" (the "v") ∷ [])
    ∷ gives "size" (plain "integer") (set "result" (dot (the "item") "size") ∷ [])
    ∷ []))
    ∷ class "counted" (gives "size" (plain "integer") (set "result" (number 6) ∷ []) ∷ [])
    ∷ []

-- with 10 levels and turns
abbrev pub GenericRuns : Type 0
GenericRuns =
    -- in a test
    (with_cell strings (text "s") (suits (text "t") ∷ suits (number 1) ∷ suits nobody ∷ [])
    ≡ finished (codes "TrueFalseFalse"))
    × (with_cell integers (number 1) (suits (text "t") ∷ suits (number 1) ∷ []) ≡ finished (codes "FalseTrue"))
    × (with_cell (cell_of (plain "any")) (number 1) (suits (text "t") ∷ suits (number 1) ∷ [])
    ≡ finished (codes "TrueTrue"))
    -- in the type of a creation
    × (with_cell strings (text "s") (dot (dot (the "c") "twin") "item" ∷ is_alike (dot (the "c") "twin") ∷ [])
    ≡ finished (codes "sTrue"))
    × (with_cell strings (text "s") (is_alike (new_by integers "make" (number 1 ∷ [])) ∷ [])
    ≡ finished (codes "False"))
    -- an heir gives the formals of its parent their actuals
    × (with_cell (plain "names") (text "s") (suits (text "t") ∷ suits (number 1) ∷ is_alike (the "c") ∷ [])
    ≡ finished (codes "TrueFalseTrue"))
    × (with_cell (generic "rows" (plain "integer" ∷ [])) (array_of (plain "integer") (number 1))
    (suits (array_of (plain "integer") (number 2)) ∷ suits (array_of (plain "string") (text "s")) ∷ [])
    ≡ finished (codes "TrueFalse"))
    -- types whose actuals differ in a mark alone do not conform
    × (with_cell strings (text "s") (is_alike (new_by (cell_of (maybe "string")) "make" (text "t" ∷ [])) ∷ [])
    ≡ finished (codes "False"))
    -- in an object of the generic class itself a field of a detachable formal begins as Void, and one of a plain
    -- formal is unset, whatever the actual
    × (with_cell integers (number 1) (dot (the "c") "spare" ∷ []) ≡ finished (codes "Void"))
    × (with_cell strings (text "s") (dot (new_by integers "leave_empty" []) "item" ∷ []) ≡ went_wrong unset [])
    × (run_of 10 boxes ≡ finished (codes "6"))

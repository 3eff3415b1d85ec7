-- The trees of the first runs, of those of generic classes, of how fields and locals begin, of branches, and of a list.
use Prim.Native.String.{String}
use Rattle.std.specs.Prelude.{true, false, List, [], ◌∷◌, ◌++◌, map}
use Rattle.eif_tree.specs.Tree.{TypeT, Ex, Ins, DeclT, ClassT}
use Rattle.eif_meaning.specs.BodyTexts.{plain, maybe, generic, number, text, truth, nobody, the, dot, new_by, is_there, set, perform, show, make, make_by, when}
use Rattle.eif_meaning.specs.FirstRuns as first
use Rattle.eif_meaning.specs.GenericRuns.{cell_of, cell, names, rows, strings, integers, suits, is_alike, array_of, boxes}
use Rattle.eif_meaning.specs.HolderRuns as holder
use Rattle.eif_meaning.specs.InstructionRuns.{second_if, without_else, stopping_check, wrong_claims}
use Rattle.eif_meaning.specs.ListRun as list
use Rattle.eif_meaning.specs.RunSystems.{has, field, does_with, gives, app, making}
use Rattle.eif_examples.specs.RunClasses.{making_alone, body_alone}

-- class APP create make feature make local c: T do create c.make (..) print (..) print (..) end end
abbrev pub with_cell : TypeT → Ex → List Ex → ClassT
with_cell t e es = making_alone (has "c" t ∷ []) (make_by "c" "make" (e ∷ []) ∷ map show es)

-- class APP create make feature make do print (f) end f: T do end end
abbrev pub shows_f : DeclT → ClassT
shows_f d = app (making [] (show (the "f") ∷ []) ∷ d ∷ [])

-- class APP create make feature make do f f end f do .. end .. end
abbrev pub calls_twice : DeclT → List DeclT → ClassT
calls_twice d decls = app (making [] (perform (the "f") ∷ perform (the "f") ∷ []) ∷ d ∷ decls)

-- class APP create make feature make local y: INTEGER do if attached "t" as y then .. else end print (y) end end
abbrev pub hides : List Ins → ClassT
hides body =
    making_alone (has "y" (plain "integer") ∷ [])
    (when (is_there "y" (text "t")) body [] ∷ show (the "y") ∷ [])

-- class APP create make feature make local n: NUMBERS do create n print (n.f) end end
abbrev pub shows_query : String → ClassT
shows_query query =
    making_alone (has "n" (plain "numbers") ∷ []) (make "n" ∷ show (dot (the "n") query) ∷ [])

-- with none of their places
abbrev pub sparse_generic_run_trees : List ClassT
sparse_generic_run_trees =
    first.calls_on_void
    ++ first.prints_unset_field
    ++ first.calls_missing_feature
    ++ first.prints_sum
    ++ first.calls_renamed_feature
    ++ cell
    ∷ names
    ∷ rows
    ∷ with_cell strings (text "s") (suits (text "t") ∷ suits (number 1) ∷ suits nobody ∷ [])
    ∷ with_cell integers (number 1) (suits (text "t") ∷ suits (number 1) ∷ [])
    ∷ with_cell (cell_of (plain "any")) (number 1) (suits (text "t") ∷ suits (number 1) ∷ [])
    ∷ with_cell strings (text "s") (dot (dot (the "c") "twin") "item" ∷ is_alike (dot (the "c") "twin") ∷ [])
    ∷ with_cell strings (text "s") (is_alike (new_by integers "make" (number 1 ∷ [])) ∷ [])
    ∷ with_cell (plain "names") (text "s") (suits (text "t") ∷ suits (number 1) ∷ is_alike (the "c") ∷ [])
    ∷ with_cell (generic "rows" (plain "integer" ∷ [])) (array_of (plain "integer") (number 1))
    (suits (array_of (plain "integer") (number 2)) ∷ suits (array_of (plain "string") (text "s")) ∷ [])
    ∷ with_cell strings (text "s") (is_alike (new_by (cell_of (maybe "string")) "make" (text "t" ∷ [])) ∷ [])
    ∷ with_cell integers (number 1) (dot (the "c") "spare" ∷ [])
    ∷ with_cell strings (text "s") (dot (new_by integers "leave_empty" []) "item" ∷ [])
    ∷ boxes
    ++ making_alone holder.four_locals holder.shows_four
    ∷ app (making [] holder.shows_four ∷ holder.four_fields)
    ∷ shows_f (gives "f" (plain "integer") [])
    ∷ shows_f (gives "f" (maybe "string") [])
    ∷ holder.cell
    ∷ holder.numbers
    ∷ shows_query "item"
    ∷ shows_query "local_item"
    ∷ shows_query "nothing"
    ∷ calls_twice (does_with "f" [] (has "i" (plain "integer") ∷ []) holder.counts) []
    ∷ calls_twice (does_with "f" [] [] holder.counts) (field "i" (plain "integer") ∷ [])
    ∷ hides (show (the "y") ∷ [])
    ∷ hides (set "y" (number 1) ∷ [])
    ∷ body_alone (second_if (truth true) ∷ second_if (truth false) ∷ [])
    ∷ body_alone (second_if (number 1) ∷ [])
    ∷ body_alone (without_else ∷ show (text "k") ∷ [])
    ∷ body_alone (stopping_check ∷ show (text "k") ∷ [])
    ∷ body_alone (wrong_claims ∷ show (text "k") ∷ [])
    ∷ list.link
    ∷ app (field "head" list.cell ∷ list.fills ∷ list.push ∷ list.total ∷ [])
    ∷ []

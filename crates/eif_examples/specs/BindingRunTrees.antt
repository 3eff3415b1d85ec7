-- The trees of the runs that show which version of a feature is called.
use Prim.Native.String.{String}
use Rattle.std.specs.Prelude.{List, [], ◌∷◌, ◌++◌}
use Rattle.eif_tree.specs.Tree.{Ins, DeclT, ParentT, ClassT}
use Rattle.eif_meaning.specs.BindingRuns as binding
use Rattle.eif_meaning.specs.BodyTexts.{plain, the, dot, perform, show, make_as}
use Rattle.eif_meaning.specs.PrecursorRuns as precursor
use Rattle.eif_meaning.specs.RunSystems.{has, field, parent, renaming, redefining, selecting, heir, app}
use Rattle.eif_examples.specs.RunClasses.{making_alone}

-- class APP create make feature make local x: T do create {U} x .. end end
abbrev pub with_object : String → String → Ins → ClassT
with_object seen made last =
    making_alone (has "x" (plain seen) ∷ []) (make_as (plain made) "x" ∷ last ∷ [])

-- class APP create make feature make local x: T do create {U} x x.f end end
abbrev pub calls_through : String → String → String → ClassT
calls_through seen made procedure = with_object seen made (perform (dot (the "x") procedure))

-- class APP create make feature make local b: B do create {C} b b.f end end
abbrev pub calls_f : ClassT
calls_f =
    making_alone (has "b" (plain "b") ∷ []) (make_as (plain "c") "b" ∷ perform (dot (the "b") "f") ∷ [])

-- class APP inherit .. create make feature .. end
abbrev pub root_heir : List ParentT → List DeclT → ClassT
root_heir parents decls = heir parents (app decls)

-- with none of their places
abbrev pub sparse_binding_run_trees : List ClassT
sparse_binding_run_trees =
    calls_f
    ∷ binding.effective_b
    ∷ binding.deferred_b
    ∷ binding.class_c (redefining "f" (parent "b")) (binding.shower "f" 2)
    ∷ binding.class_c (renaming "f" "g" (parent "b")) (binding.shower "f" 2)
    ∷ binding.class_c (parent "b") (binding.shower "f" 3)
    ∷ binding.class_c (renaming "f" "g" (parent "b")) (binding.shower "g" 3)
    ∷ root_heir (binding.as_one ∷ selecting "two" binding.as_two ∷ []) binding.both_versions
    ∷ root_heir (selecting "one" binding.as_one ∷ binding.as_two ∷ []) binding.both_versions
    ∷ binding.calls_own
    ∷ root_heir (binding.as_h ∷ selecting "f" (parent "p") ∷ []) (binding.fills_and_shows ∷ [])
    ∷ root_heir (selecting "h" binding.as_h ∷ parent "p" ∷ []) (binding.fills_and_shows ∷ [])
    ∷ binding.fills_own
    ∷ root_heir (binding.new_f ∷ []) (binding.sets_f ∷ field "f" (plain "string") ∷ [])
    ∷ root_heir (binding.new_f ∷ []) (binding.calls_show ∷ binding.fixed_f ∷ [])
    ∷ binding.shows_own
    ∷ binding.creates_renamed
    ++ binding.diamond
    ++ calls_through "a" "d" "f"
    ∷ calls_through "a" "e" "f"
    ∷ calls_through "b" "d" "f1"
    ∷ calls_through "c" "d" "f2"
    ∷ calls_through "b" "e" "f1"
    ∷ calls_through "a" "d" "call_f"
    ∷ calls_through "c" "d" "call_f"
    ∷ calls_through "a" "e" "call_f"
    ∷ with_object "a" "d" (show (the "x"))
    ∷ binding.renamed_out
    ∷ with_object "d" "d" (show (the "x"))
    ∷ with_object "d" "d" (show (dot (the "x") "old_out"))
    ∷ with_object "d" "d" (show (dot (the "x") "out"))
    ∷ precursor.chain
    ++ precursor.of_two "p"
    ++ precursor.of_two "q"
    ++ precursor.hands_on
    ++ precursor.renamed_version
    ++ precursor.of_field

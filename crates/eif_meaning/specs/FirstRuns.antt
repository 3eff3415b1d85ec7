-- Five small systems: a call on Void, a field that is unset, a missing feature, a sum, and a renamed feature.
use Rattle.std.specs.Prelude.{◌≡◌, List, [], ◌∷◌, codes}
use Rattle.eif_tree.specs.declared.tree.Op.TheVariants as op
use Rattle.eif_tree.specs.Tree.{ClassT}
use Rattle.eif_meaning.specs.Values.{void_target, unset, no_feature}
use Rattle.eif_meaning.specs.Run.{finished, went_wrong}
use Rattle.eif_meaning.specs.BodyTexts.{plain, maybe, number, nobody, the, apply, dot, dot_with, two, perform, show, make, make_as}
use Rattle.eif_meaning.specs.RunSystems.{has, field, does, does_with, parent, renaming, class, heir, app, making, run_of}

-- hands on Void as a target
abbrev pub calls_on_void : List ClassT
calls_on_void =
    app (making [] (perform (apply "run" (nobody ∷ [])) ∷ [])
    ∷ does_with "run" (has "x" (maybe "a") ∷ []) [] (perform (dot_with (the "x") "put" (nobody ∷ [])) ∷ [])
    ∷ [])
    ∷ class "a" (field "ok" (plain "boolean") ∷ does_with "put" (has "x" (maybe "any") ∷ []) [] [] ∷ [])
    ∷ []

-- reads a field before it is set
abbrev pub prints_unset_field : List ClassT
prints_unset_field = app (field "name" (plain "string") ∷ making [] (show (the "name") ∷ []) ∷ []) ∷ []

-- calls what ANY has not
abbrev pub calls_missing_feature : List ClassT
calls_missing_feature =
    app (making (has "a" (plain "any") ∷ []) (make "a" ∷ perform (dot (the "a") "nope") ∷ []) ∷ []) ∷ []

-- prints 1 + 2
abbrev pub prints_sum : List ClassT
prints_sum = app (making [] (show (two op.Plus (number 1) (number 2)) ∷ []) ∷ []) ∷ []

-- calls `f` of a B on a C, where it is named `g`
abbrev pub calls_renamed_feature : List ClassT
calls_renamed_feature =
    app (making (has "b" (plain "b") ∷ []) (make_as (plain "c") "b" ∷ perform (dot (the "b") "f") ∷ []) ∷ [])
    ∷ class "b" (does "f" (show (number 1) ∷ []) ∷ [])
    ∷ heir (renaming "f" "g" (parent "b") ∷ []) (class "c" (does "f" (show (number 2) ∷ []) ∷ []))
    ∷ []

-- each with 10 levels and turns
abbrev pub FirstRuns : Type 0
FirstRuns =
    (run_of 10 calls_on_void ≡ went_wrong void_target [])
    × (run_of 10 prints_unset_field ≡ went_wrong unset [])
    × (run_of 10 calls_missing_feature ≡ went_wrong no_feature [])
    × (run_of 10 prints_sum ≡ finished (codes "3"))
    × (run_of 10 calls_renamed_feature ≡ finished (codes "1"))

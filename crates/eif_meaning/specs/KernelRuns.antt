-- Runs of the kernel: texts, strings and arrays.
use Rattle.std.specs.Prelude.{◌≡◌, ℕ, Bool, true, List, [], ◌∷◌, map, flat_map, replicate, is_some, codes}
use Rattle.std.specs.Option.{option_and_then}
use Rattle.eif_tree.specs.declared.tree.Op.TheVariants as op
use Rattle.eif_tree.specs.Members.{declared_names}
use Rattle.eif_tree.specs.Tree.{TypeT, Ex, Ins, DeclT, ClassT}
use Rattle.eif_system.specs.Kernel.{kernel}
use Rattle.eif_system.specs.Universe.{class_number}
use Rattle.eif_meaning.specs.Values.{unset, no_feature}
use Rattle.eif_meaning.specs.KernelBodies.{built_in_body}
use Rattle.eif_meaning.specs.Run.{Ran, finished, went_wrong}
use Rattle.eif_meaning.specs.BodyTexts.{plain, generic, number, text, letter, truth, nobody, me, the, dot, dot_with, one, two, set, perform, show, make, make_by}
use Rattle.eif_meaning.specs.RunSystems.{has, field, gives, parent, redefining, heir, app, making, run_of, run_making, run_body}

-- of each routine of the kernel, whether its body is built in
abbrev pub built_in_flags : ClassT → List Bool
built_in_flags c =
    map (λ n. is_some (option_and_then (λ k. built_in_body k n.name) (class_number kernel c.name)))
    (declared_names c)

-- shows the value of an expression
abbrev pub shown : Ex → Ran
shown e = run_body 10 (show e ∷ [])

-- prints Current, whose class has its own `out`
abbrev pub prints_current : DeclT → List Ins → Ran
prints_current d body =
    run_of 10 (heir (redefining "out" (parent "any") ∷ []) (app (making [] body ∷ d ∷ [])) ∷ [])

-- a function `out` of the type
abbrev pub out_of : TypeT → Ex → DeclT
out_of t e = gives "out" t (set "result" e ∷ [])

-- with locals `s` and `t` that are one STRING, at first "ab"
abbrev pub with_string : List Ins → Ran
with_string body =
    run_making 10 (has "s" (plain "string") ∷ has "t" (plain "string") ∷ [])
    (set "s" (text "ab") ∷ set "t" (the "s") ∷ body)

-- s.append (e)
abbrev pub appends : Ex → Ins
appends e = perform (dot_with (the "s") "append" (e ∷ []))

-- with a local `a` that has 7 from 3 to 5, and then 8 at 4
abbrev pub with_array : List Ins → Ran
with_array body =
    run_making 10 (has "a" (generic "array" (plain "integer" ∷ [])) ∷ [])
    (make_by "a" "make_filled" (number 7 ∷ number 3 ∷ number 5 ∷ [])
    ∷ perform (dot_with (the "a") "put" (number 8 ∷ number 4 ∷ [])) ∷ body)

-- with a local `a` that was not filled
abbrev pub with_unfilled : List Ins → Ran
with_unfilled body = run_making 10 (has "a" (generic "array" (plain "integer" ∷ [])) ∷ []) (make "a" ∷ body)

-- shows the item of an index
abbrev pub shows_item : ℕ → Ins
shows_item i = show (dot_with (the "a") "item" (number i ∷ []))

-- shows the size and the bounds of `a`
abbrev pub shows_bounds : List Ins
shows_bounds = show (dot (the "a") "count") ∷ show (dot (the "a") "lower") ∷ show (dot (the "a") "upper") ∷ []

-- with 10 levels and turns
abbrev pub KernelRuns : Type 0
KernelRuns =
    (flat_map built_in_flags kernel ≡ replicate 15 true)
    -- texts; of any other object the name of its class
    × (shown (number 120) ≡ finished (codes "120"))
    × (shown (one op.Minus (number 5)) ≡ finished (codes "-5"))
    × (shown (truth true) ≡ finished (codes "True"))
    × (shown (letter 99) ≡ finished (codes "c"))
    × (shown (text "abc") ≡ finished (codes "abc"))
    × (shown nobody ≡ finished (codes "Void"))
    × (shown me ≡ finished (codes "app"))
    × (shown (dot (number 7) "out") ≡ finished (codes "7"))
    × (shown (dot (letter 99) "code") ≡ finished (codes "99"))
    -- an `out` of its own: a function, a field, one that is unset, and one that gives no STRING
    × (prints_current (out_of (plain "string") (text "o")) (show me ∷ show (dot me "out") ∷ [])
    ≡ finished (codes "oo"))
    × (prints_current (field "out" (plain "string")) (set "out" (text "f") ∷ show me ∷ [])
    ≡ finished (codes "f"))
    × (prints_current (field "out" (plain "string")) (show me ∷ []) ≡ went_wrong unset [])
    × (prints_current (out_of (plain "integer") (number 1)) (show me ∷ []) ≡ went_wrong no_feature [])
    -- a STRING is changed where it is; a sum is a new one
    × (with_string (appends (text "c") ∷ show (the "t") ∷ show (dot (the "t") "count") ∷ [])
    ≡ finished (codes "abc3"))
    × (with_string (appends (the "s") ∷ show (the "s") ∷ []) ≡ finished (codes "abab"))
    × (with_string (set "s" (two op.Plus (the "s") (text "c")) ∷ show (the "s") ∷ show (the "t") ∷ [])
    ≡ finished (codes "abcab"))
    × (with_string (perform (dot (the "s") "make_empty") ∷ show (dot (the "t") "is_empty") ∷ show (the "t") ∷ [])
    ≡ finished (codes "True"))
    × (with_string (show (dot_with (the "s") "item" (number 2 ∷ [])) ∷ []) ≡ finished (codes "b"))
    -- its `out` is a new STRING
    × (with_string (show (dot (the "s") "out") ∷ show (two op.Equal (dot (the "s") "out") (the "s")) ∷ [])
    ≡ finished (codes "abFalse"))
    -- `append` takes a STRING alone, and `item` an INTEGER
    × (with_string (appends (number 1) ∷ []) ≡ went_wrong no_feature [])
    × (with_string (appends nobody ∷ []) ≡ went_wrong no_feature [])
    × (with_string (show (dot_with (the "s") "item" (truth true ∷ [])) ∷ []) ≡ went_wrong no_feature [])
    -- an ARRAY, which may be filled again
    × (with_array (shows_item 3 ∷ shows_item 4 ∷ shows_item 5 ∷ []) ≡ finished (codes "787"))
    × (with_array shows_bounds ≡ finished (codes "335"))
    × (with_array (perform (dot_with (the "a") "make_filled" (number 9 ∷ number 1 ∷ number 0 ∷ [])) ∷ shows_bounds)
    ≡ finished (codes "010"))
    × (with_array (show (the "a") ∷ []) ≡ finished (codes "array"))
    -- one that was not filled is empty, and begins at 0
    × (with_unfilled shows_bounds ≡ finished (codes "00-1"))

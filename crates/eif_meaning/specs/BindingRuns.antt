-- Runs that show which version of a feature is called.
use Prim.Native.String.{String}
use Rattle.std.specs.Prelude.{◌≡◌, ℕ, List, [], ◌∷◌, codes}
use Rattle.eif_tree.specs.declared.tree.Literal.TheVariants as lit
use Rattle.eif_tree.specs.Tree.{Ex, Ins, DeclT, ParentT, ClassT}
use Rattle.eif_meaning.specs.Run.{Ran, finished}
use Rattle.eif_meaning.specs.BodyTexts.{plain, maybe, number, text, the, dot, set, perform, show, make_as}
use Rattle.eif_meaning.specs.RunSystems.{has, field, fixed, later, does, gives, parent, renaming, redefining, selecting, class, heir, marked_deferred, app, making, run_of}

-- a procedure that prints a number
abbrev pub shower : String → ℕ → DeclT
shower n i = does n (show (number i) ∷ [])

-- calls `f` of a B on a C, which has these classes
abbrev pub calls_f : List ClassT → Ran
calls_f classes =
    run_of 10 (app (making (has "b" (plain "b") ∷ [])
    (make_as (plain "c") "b" ∷ perform (dot (the "b") "f") ∷ []) ∷ []) ∷ classes)

-- B with an effective `f`
abbrev pub effective_b : ClassT
effective_b = class "b" (shower "f" 1 ∷ [])

-- B with a deferred `f`
abbrev pub deferred_b : ClassT
deferred_b = marked_deferred (class "b" (later "f" ∷ []))

-- C by a clause and a declaration
abbrev pub class_c : ParentT → DeclT → ClassT
class_c p d = heir (p ∷ []) (class "c" (d ∷ []))

-- P with a routine and a caller of it
abbrev pub calls_own : ClassT
calls_own = class "p" (shower "f" 1 ∷ does "call_f" (perform (the "f") ∷ []) ∷ [])

-- P with a field and a routine that sets it
abbrev pub fills_own : ClassT
fills_own = class "p" (field "f" (maybe "string") ∷ does "fill" (set "f" (text "p") ∷ []) ∷ [])

-- P's `f` is a function, which it shows
abbrev pub shows_own : ClassT
shows_own = class "p" (gives "f" (plain "string") [] ∷ does "show_f" (show (the "f") ∷ []) ∷ [])

-- a root class with these clauses and features beside an ancestor
abbrev pub run_heir : List ParentT → List DeclT → ClassT → Ran
run_heir parents decls p = run_of 10 (heir parents (app decls) ∷ p ∷ [])

-- P's `f` as `one`
abbrev pub as_one : ParentT
as_one = renaming "f" "one" (parent "p")

-- as `two`, redefined
abbrev pub as_two : ParentT
as_two = redefining "two" (renaming "f" "two" (parent "p"))

-- as `h`
abbrev pub as_h : ParentT
as_h = renaming "f" "h" (parent "p")

-- redefined
abbrev pub new_f : ParentT
new_f = redefining "f" (parent "p")

-- calls P's `show_f`
abbrev pub calls_show : DeclT
calls_show = making [] (perform (the "show_f") ∷ [])

-- sets `f`, and calls it
abbrev pub sets_f : DeclT
sets_f = making [] (set "f" (text "a") ∷ perform (the "show_f") ∷ [])

-- fills, and shows `f` and `h`
abbrev pub fills_and_shows : DeclT
fills_and_shows = making [] (perform (the "fill") ∷ show (the "f") ∷ show (the "h") ∷ [])

-- calls P's caller, and then both versions by their names; `two` prints 2
abbrev pub both_versions : List DeclT
both_versions =
    making [] (perform (the "call_f") ∷ perform (the "one") ∷ perform (the "two") ∷ []) ∷ shower "two" 2 ∷ []

-- `f` as a constant
abbrev pub fixed_f : DeclT
fixed_f = fixed "f" (plain "string") (lit.Text (codes "k"))

-- creates a C, which has `default_create` of ANY as `start`, and one of its own
abbrev pub creates_renamed : List ClassT
creates_renamed =
    app (making (has "c" (plain "c") ∷ []) (make_as (plain "c") "c" ∷ []) ∷ [])
    ∷ heir (redefining "start" (renaming "default_create" "start" (parent "any")) ∷ [])
    (class "c" (shower "start" 1 ∷ shower "default_create" 2 ∷ []))
    ∷ []

-- A with an `f` and a caller of it; B has it as `f1` and C as `f2`, and both redefine it; D and E inherit it by both,
-- where D selects B's and E selects C's
abbrev pub diamond : List ClassT
diamond =
    class "a" (shower "f" 1 ∷ does "call_f" (perform (the "f") ∷ []) ∷ [])
    ∷ heir (redefining "f1" (renaming "f" "f1" (parent "a")) ∷ []) (class "b" (shower "f1" 11 ∷ []))
    ∷ heir (redefining "f2" (renaming "f" "f2" (parent "a")) ∷ []) (class "c" (shower "f2" 22 ∷ []))
    ∷ heir (selecting "f1" (parent "b") ∷ parent "c" ∷ []) (class "d" [])
    ∷ heir (parent "b" ∷ selecting "f2" (parent "c") ∷ []) (class "e" [])
    ∷ []

-- with a local `x` of a class that has an object of another, beside these classes
abbrev pub with_object : String → String → Ins → List ClassT → Ran
with_object seen made last classes =
    run_of 10 (app (making (has "x" (plain seen) ∷ []) (make_as (plain made) "x" ∷ last ∷ []) ∷ []) ∷ classes)

-- calls a procedure of an object of one class of the diamond through another
abbrev pub calls_through : String → String → String → Ran
calls_through seen made procedure = with_object seen made (perform (dot (the "x") procedure)) diamond

-- D has ANY's `out` as `old_out`, and an `out` of its own
abbrev pub renamed_out : ClassT
renamed_out =
    heir (renaming "out" "old_out" (parent "any") ∷ [])
    (class "d" (gives "out" (plain "string") (set "result" (text "new") ∷ []) ∷ []))

-- shows an expression about an object `x` of D
abbrev pub shows_of_d : Ex → Ran
shows_of_d e = with_object "d" "d" (show e) (renamed_out ∷ [])

-- with 10 levels and turns
abbrev pub BindingRuns : Type 0
BindingRuns =
    -- the version of the object's class, by the name that the feature has there
    (calls_f (effective_b ∷ class_c (redefining "f" (parent "b")) (shower "f" 2) ∷ []) ≡ finished (codes "2"))
    × (calls_f (effective_b ∷ class_c (renaming "f" "g" (parent "b")) (shower "f" 2) ∷ [])
    ≡ finished (codes "1"))
    × (calls_f (deferred_b ∷ class_c (parent "b") (shower "f" 3) ∷ []) ≡ finished (codes "3"))
    × (calls_f (deferred_b ∷ class_c (renaming "f" "g" (parent "b")) (shower "g" 3) ∷ [])
    ≡ finished (codes "3"))
    -- a replicated routine: the parent's text calls the selected one
    × (run_heir (as_one ∷ selecting "two" as_two ∷ []) both_versions calls_own ≡ finished (codes "212"))
    × (run_heir (selecting "one" as_one ∷ as_two ∷ []) both_versions calls_own ≡ finished (codes "112"))
    -- a replicated field: the parent's text sets the selected one
    × (run_heir (as_h ∷ selecting "f" (parent "p") ∷ []) (fills_and_shows ∷ []) fills_own
    ≡ finished (codes "pVoid"))
    × (run_heir (selecting "h" as_h ∷ parent "p" ∷ []) (fills_and_shows ∷ []) fills_own
    ≡ finished (codes "Voidp"))
    -- a function that is redeclared as a field, and as a constant
    × (run_heir (new_f ∷ []) (sets_f ∷ field "f" (plain "string") ∷ []) shows_own ≡ finished (codes "a"))
    × (run_heir (new_f ∷ []) (calls_show ∷ fixed_f ∷ []) shows_own ≡ finished (codes "k"))
    -- a creation without a creator's name runs what the class has for ANY's `default_create`
    × (run_of 10 creates_renamed ≡ finished (codes "1"))
    -- features that a class inherits by two parents: through A the selected version
    × (calls_through "a" "d" "f" ≡ finished (codes "11"))
    × (calls_through "a" "e" "f" ≡ finished (codes "22"))
    -- through B and C the one that has their name
    × (calls_through "b" "d" "f1" ≡ finished (codes "11"))
    × (calls_through "c" "d" "f2" ≡ finished (codes "22"))
    × (calls_through "b" "e" "f1" ≡ finished (codes "11"))
    -- A's text calls the selected version, whichever class it is called through
    × (calls_through "a" "d" "call_f" ≡ finished (codes "11"))
    × (calls_through "c" "d" "call_f" ≡ finished (codes "11"))
    × (calls_through "a" "e" "call_f" ≡ finished (codes "22"))
    -- what both have from ANY is one feature
    × (with_object "a" "d" (show (the "x")) diamond ≡ finished (codes "d"))
    -- `print` asks for ANY's `out`, by the name that the class has for it
    × (shows_of_d (the "x") ≡ finished (codes "d"))
    × (shows_of_d (dot (the "x") "old_out") ≡ finished (codes "d"))
    × (shows_of_d (dot (the "x") "out") ≡ finished (codes "new"))

-- Systems that break no rule of the language, with their runs. Each has the root app.make.
use Rattle.std.specs.Prelude.{◌≡◌, [], ◌∷◌, List, ℕ, None, codes}
use Rattle.eif_base.specs.declared.root.Root.{Root}
use Rattle.eif_meaning.specs.BodyTexts.{plain, maybe, generic, maybe_generic, number, text, nobody, me, answer, the, apply, dot, dot_with, is_there, two, parents_own, set, perform, show, make_by, when, until, name}
use Rattle.eif_meaning.specs.Run.{finished}
use Rattle.eif_meaning.specs.RunSystems.{has, field, does, does_with, gives_by, parent, renaming, redefining, selecting, class, heir, formal, over, app, making, run_of}
use Rattle.eif_spelled_trees.specs.SpelledTrees.{AreSpelled}
use Rattle.eif_system.specs.TreeForms.{created_by}
use Rattle.eif_tree.specs.declared.tree.Op.TheVariants as op
use Rattle.eif_tree.specs.Tree.{TypeT, DeclT, ClassT}
use Rattle.eif_valid_systems.specs.ValidSystems.{IsValidSystem}

abbrev pub app_make : Root
app_make = record { class_name = codes "app"; procedure_name = codes "make" }

-- ---- a generic list

--   class LINK [G]
--   create make
--   feature
--     item: G
--     next: detachable LINK [G]
--     make (v: G) do item := v end
--     set_next (n: detachable LINK [G]) do next := n end
--   end
abbrev pub link : ClassT
link = record (over (formal "g" None ∷ []) (class "link" (
    field "item" (plain "g")
    ∷ field "next" (maybe_generic "link" (plain "g" ∷ []))
    ∷ does_with "make" (has "v" (plain "g") ∷ []) [] (set "item" (the "v") ∷ [])
    ∷ does_with "set_next" (has "n" (maybe_generic "link" (plain "g" ∷ [])) ∷ []) [] (set "next" (the "n") ∷ [])
    ∷ []))) { creators = created_by (name "make" ∷ []) }

-- LINK [STRING]
abbrev pub cell : TypeT
cell = generic "link" (plain "string" ∷ [])

--     make
--       local
--         i: INTEGER
--       do
--         create head.make ("one")
--         from i := 0 until i >= 3 loop
--           push (i.out)
--           i := i + 1
--         end
--         print (total)
--       end
abbrev pub fills : DeclT
fills = making (has "i" (plain "integer") ∷ []) (
    make_by "head" "make" (text "one" ∷ [])
    ∷ until (set "i" (number 0) ∷ []) (two op.GreaterEqual (the "i") (number 3))
    (perform (apply "push" (dot (the "i") "out" ∷ [])) ∷ set "i" (two op.Plus (the "i") (number 1)) ∷ [])
    ∷ show (the "total")
    ∷ [])

--     push (s: STRING)
--       local
--         l: LINK [STRING]
--       do
--         create l.make (s)
--         l.set_next (head)
--         head := l
--       end
abbrev pub push : DeclT
push = does_with "push" (has "s" (plain "string") ∷ []) (has "l" cell ∷ []) (
    make_by "l" "make" (the "s" ∷ [])
    ∷ perform (dot_with (the "l") "set_next" (the "head" ∷ []))
    ∷ set "head" (the "l")
    ∷ [])

--     total: INTEGER
--       local
--         c: detachable LINK [STRING]
--       do
--         from c := head until c = Void loop
--           if attached c as d then
--             Result := Result + d.item.count
--             c := d.next
--           else
--             c := Void
--           end
--         end
--       end
abbrev pub total : DeclT
total = gives_by "total" (plain "integer") (has "c" (maybe_generic "link" (plain "string" ∷ [])) ∷ []) (
    until (set "c" (the "head") ∷ []) (two op.Equal (the "c") nobody)
    (when (is_there "d" (the "c")) (
    set "result" (two op.Plus answer (dot (dot (the "d") "item") "count"))
    ∷ set "c" (dot (the "d") "next")
    ∷ [])
    (set "c" nobody ∷ [])
    ∷ [])
    ∷ [])

--   class APP create make feature head: LINK [STRING] .. end
abbrev pub list_system : List ClassT
list_system = link ∷ app (field "head" cell ∷ fills ∷ push ∷ total ∷ []) ∷ []

-- ---- an heir

--   class Z feature f do print (1) end end
--   class B inherit Z redefine f end feature f do Precursor print (2) end end
--   class C inherit Z rename f as g end end
--   class APP
--   inherit
--     B select f end
--     C
--   create make
--   feature
--     make local z: Z do z := Current z.f g end
--   end
abbrev pub heir_system : List ClassT
heir_system =
    class "z" (does "f" (show (number 1) ∷ []) ∷ [])
    ∷ heir (redefining "f" (parent "z") ∷ []) (class "b" (does "f" (perform parents_own ∷ show (number 2) ∷ []) ∷ []))
    ∷ heir (renaming "f" "g" (parent "z") ∷ []) (class "c" [])
    ∷ heir (selecting "f" (parent "b") ∷ parent "c" ∷ [])
    (app (does_with "make" [] (has "z" (plain "z") ∷ [])
    (set "z" me ∷ perform (dot (the "z") "f") ∷ perform (the "g") ∷ []) ∷ []))
    ∷ []

-- ---- a local that is tested in a loop

--   class APP create make feature make
--     local
--       s: detachable STRING
--     do
--       from s := "ab" until s = Void loop
--         if s /= Void then print (s.count) end
--         if attached s as t then print (t.count) end
--         s := Void
--       end
--     end
--   end
abbrev pub tested_system : List ClassT
tested_system =
    app (making (has "s" (maybe "string") ∷ []) (
    until (set "s" (text "ab") ∷ []) (two op.Equal (the "s") nobody) (
    when (two op.NotEqual (the "s") nobody) (show (dot (the "s") "count") ∷ []) []
    ∷ when (is_there "t" (the "s")) (show (dot (the "t") "count") ∷ []) []
    ∷ set "s" nobody
    ∷ [])
    ∷ []) ∷ [])
    ∷ []

-- ---- the law

-- it has the form of class texts, breaks no rule, and its run with that bound prints these bytes
pub record IsValidExample (given : List ClassT) (n : ℕ) (bytes : List ℕ) : Type 0 where
  pub spelled : AreSpelled given
  pub valid : IsValidSystem given app_make
  pub run : run_of n given ≡ finished bytes

pub record ExamplesAreValid : Type 0 where
  pub list : IsValidExample list_system 10 (codes "6")
  pub heir : IsValidExample heir_system 10 (codes "121")
  pub tested : IsValidExample tested_system 10 (codes "22")

-- Pairs of classes that keep all rules. Above each class stands its text.
use Rattle.std.specs.Prelude.{◌≡◌, List, [], ◌∷◌, Some, None, codes, ℕ}
use Rattle.eif_base.specs.declared.place.Place.{Place}
use Rattle.eif_tree.specs.declared.tree.Mark.TheVariants.{Plain, Detachable}
use Rattle.eif_tree.specs.declared.tree.Op.TheVariants as op
use Rattle.eif_tree.specs.Tree.{void_value, result_value, test, assign, call, no_clients, ClassT}
use Rattle.eif_tree.specs.View.{inss_from}
use Rattle.eif_system.specs.TreeForms.{spot, bare_class, parent_clause, procedure, attribute_of}
use Rattle.eif_body_rules.specs.BodyRules.{body_faults}
use Rattle.eif_body_rules_laws.specs.PlacedTexts.{name, written, plain, maybe, int, text, value, apply, dot, parent_version, operation, make, branch, if_true, repeat, group, routine_of, formal, creators, features}

-- the lengths of the lines of LINK
abbrev pub link_lines : List ℕ
link_lines = 15 ∷ 12 ∷ 8 ∷ 10 ∷ 28 ∷ 14 ∷ 7 ∷ 16 ∷ 8 ∷ 36 ∷ 7 ∷ 16 ∷ 8 ∷ 4 ∷ []

abbrev pub in_link : ℕ → ℕ → Place
in_link line column = spot 0 link_lines line column

--   class LINK [G]
--   create make
--   feature
--     item: G
--     next: detachable LINK [G]
--     make (v: G)
--       do
--         item := v
--       end
--     set_next (n: detachable LINK [G])
--       do
--         next := n
--       end
--   end
abbrev pub class_link : ClassT
class_link =
    record (bare_class (in_link 1 7) (codes "link")) {
      formals = formal (in_link 1 13) "g" None ∷ [];
      creators = creators no_clients (name (in_link 2 8) "make" ∷ []) ∷ [];
      features =
          features no_clients
          (attribute_of (name (in_link 4 3) "item") (plain (in_link 4 9) "g")
          ∷ attribute_of (name (in_link 5 3) "next")
          (written (in_link 5 9) (in_link 5 20) Detachable "link" (plain (in_link 5 26) "g" ∷ []))
          ∷ routine_of (name (in_link 6 3) "make")
          (group (name (in_link 6 9) "v" ∷ []) (plain (in_link 6 12) "g") ∷ []) None []
          (assign (name (in_link 8 7) "item") (value (in_link 8 15) "v") ∷ [])
          ∷ routine_of (name (in_link 10 3) "set_next")
          (group (name (in_link 10 13) "n" ∷ [])
          (written (in_link 10 16) (in_link 10 27) Detachable "link" (plain (in_link 10 33) "g" ∷ []))
          ∷ []) None [] (assign (name (in_link 12 7) "next") (value (in_link 12 15) "n") ∷ []) ∷ [])
          ∷ [];
    }

-- the lengths of the lines of APP
abbrev pub app_lines : List ℕ
app_lines =
    10
    ∷ 12
    ∷ 8
    ∷ 22
    ∷ 7
    ∷ 10
    ∷ 17
    ∷ 7
    ∷ 31
    ∷ 11
    ∷ 15
    ∷ 12
    ∷ 15
    ∷ 11
    ∷ 21
    ∷ 19
    ∷ 10
    ∷ 20
    ∷ 8
    ∷ 19
    ∷ 10
    ∷ 23
    ∷ 7
    ∷ 24
    ∷ 24
    ∷ 16
    ∷ 8
    ∷ 17
    ∷ 10
    ∷ 34
    ∷ 7
    ∷ 11
    ∷ 18
    ∷ 12
    ∷ 17
    ∷ 11
    ∷ 32
    ∷ 42
    ∷ 22
    ∷ 13
    ∷ 20
    ∷ 12
    ∷ 10
    ∷ 8
    ∷ 4 ∷ []

abbrev pub in_app : ℕ → ℕ → Place
in_app line column = spot 1 app_lines line column

--   class APP
--   create make
--   feature
--     head: LINK [STRING]
--     make
--       local
--         i: INTEGER
--       do
--         create head.make ("one")
--         from
--           i := 0
--         until
--           i >= 3
--         loop
--           push (i.out)
--           i := i + 1
--         end
--         print (total)
--       end
--     push (s: STRING)
--       local
--         l: LINK [STRING]
--       do
--         create l.make (s)
--         l.set_next (head)
--         head := l
--       end
--     total: INTEGER
--       local
--         c: detachable LINK [STRING]
--       do
--         from
--           c := head
--         until
--           c = Void
--         loop
--           if attached c as d then
--             Result := Result + d.item.count
--             c := d.next
--           else
--             c := Void
--           end
--         end
--       end
--   end
abbrev pub class_app : ClassT
class_app =
    record (bare_class (in_app 1 7) (codes "app")) {
      creators = creators no_clients (name (in_app 2 8) "make" ∷ []) ∷ [];
      features =
          features no_clients
          (attribute_of (name (in_app 4 3) "head")
          (written (in_app 4 9) (in_app 4 9) Plain "link" (plain (in_app 4 15) "string" ∷ []))
          ∷ routine_of (name (in_app 5 3) "make") [] None
          (group (name (in_app 7 7) "i" ∷ []) (plain (in_app 7 10) "integer") ∷ [])
          (make (in_app 9 7) None (name (in_app 9 14) "head") (Some (name (in_app 9 19) "make"))
          (text (in_app 9 25) "one" ∷ [])
          ∷ repeat (assign (name (in_app 11 9) "i") (int (in_app 11 14) 0) ∷ []) []
          (operation (value (in_app 13 9) "i") (in_app 13 11) op.GreaterEqual (int (in_app 13 14) 3))
          (call
          (apply (in_app 15 9) "push"
          (dot (value (in_app 15 15) "i") (in_app 15 17) "out" [] ∷ []))
          ∷ assign (name (in_app 16 9) "i")
          (operation (value (in_app 16 14) "i") (in_app 16 16) op.Plus (int (in_app 16 18) 1))
          ∷ []) None
          ∷ call (apply (in_app 18 7) "print" (value (in_app 18 14) "total" ∷ [])) ∷ [])
          ∷ routine_of (name (in_app 20 3) "push")
          (group (name (in_app 20 9) "s" ∷ []) (plain (in_app 20 12) "string") ∷ []) None
          (group (name (in_app 22 7) "l" ∷ [])
          (written (in_app 22 10) (in_app 22 10) Plain "link" (plain (in_app 22 16) "string" ∷ []))
          ∷ [])
          (make (in_app 24 7) None (name (in_app 24 14) "l") (Some (name (in_app 24 16) "make"))
          (value (in_app 24 22) "s" ∷ [])
          ∷ call
          (dot (value (in_app 25 7) "l") (in_app 25 9) "set_next" (value (in_app 25 19) "head" ∷ []))
          ∷ assign (name (in_app 26 7) "head") (value (in_app 26 15) "l") ∷ [])
          ∷ routine_of (name (in_app 28 3) "total") [] (Some (plain (in_app 28 10) "integer"))
          (group (name (in_app 30 7) "c" ∷ [])
          (written (in_app 30 10) (in_app 30 21) Detachable "link"
          (plain (in_app 30 27) "string" ∷ [])) ∷ [])
          (repeat (assign (name (in_app 33 9) "c") (value (in_app 33 14) "head") ∷ []) []
          (operation (value (in_app 35 9) "c") (in_app 35 11) op.Equal (void_value (in_app 35 13)))
          (if_true
          (branch
          (test (in_app 37 12) None (Some (name (in_app 37 26) "d")) (value (in_app 37 21) "c"))
          (assign (name (in_app 38 11) "result")
          (operation (result_value (in_app 38 21)) (in_app 38 28) op.Plus
          (dot (dot (value (in_app 38 30) "d") (in_app 38 32) "item" []) (in_app 38 37)
          "count" []))
          ∷ assign (name (in_app 39 11) "c")
          (dot (value (in_app 39 16) "d") (in_app 39 18) "next" []) ∷ []) ∷ [])
          (Some (assign (name (in_app 41 11) "c") (void_value (in_app 41 16)) ∷ [])) ∷ []) None
          ∷ []) ∷ [])
          ∷ [];
    }

-- the lengths of the lines of C0
abbrev pub c0_lines : List ℕ
c0_lines = 9 ∷ 12 ∷ 8 ∷ 22 ∷ 15 ∷ 7 ∷ 7 ∷ 19 ∷ 8 ∷ 19 ∷ 7 ∷ 16 ∷ 8 ∷ 16 ∷ 7 ∷ 33 ∷ 29 ∷ 10 ∷ 8 ∷ 4 ∷ []

abbrev pub in_c0 : ℕ → ℕ → Place
in_c0 line column = spot 0 c0_lines line column

--   class C0
--   create make
--   feature
--     next: detachable C0
--     name: STRING
--     make
--       do
--         name := "c0"
--       end
--     set_next (n: C0)
--       do
--         next := n
--       end
--     step: INTEGER
--       do
--         if attached next as n then
--           Result := n.step + 1
--         end
--       end
--   end
abbrev pub class_c0 : ClassT
class_c0 =
    record (bare_class (in_c0 1 7) (codes "c0")) {
      creators = creators no_clients (name (in_c0 2 8) "make" ∷ []) ∷ [];
      features =
          features no_clients
          (attribute_of (name (in_c0 4 3) "next") (maybe (in_c0 4 9) (in_c0 4 20) "c0")
          ∷ attribute_of (name (in_c0 5 3) "name") (plain (in_c0 5 9) "string")
          ∷ procedure (name (in_c0 6 3) "make")
          (inss_from (assign (name (in_c0 8 7) "name") (text (in_c0 8 15) "c0") ∷ []))
          ∷ routine_of (name (in_c0 10 3) "set_next")
          (group (name (in_c0 10 13) "n" ∷ []) (plain (in_c0 10 16) "c0") ∷ []) None []
          (assign (name (in_c0 12 7) "next") (value (in_c0 12 15) "n") ∷ [])
          ∷ routine_of (name (in_c0 14 3) "step") [] (Some (plain (in_c0 14 9) "integer")) []
          (if_true
          (branch
          (test (in_c0 16 10) None (Some (name (in_c0 16 27) "n")) (value (in_c0 16 19) "next"))
          (assign (name (in_c0 17 9) "result")
          (operation (dot (value (in_c0 17 19) "n") (in_c0 17 21) "step" []) (in_c0 17 26)
          op.Plus (int (in_c0 17 28) 1)) ∷ []) ∷ []) None ∷ []) ∷ [])
          ∷ [];
    }

-- the lengths of the lines of C1
abbrev pub c1_lines : List ℕ
c1_lines = 9 ∷ 8 ∷ 5 ∷ 22 ∷ 12 ∷ 8 ∷ 16 ∷ 7 ∷ 30 ∷ 8 ∷ 4 ∷ []

abbrev pub in_c1 : ℕ → ℕ → Place
in_c1 line column = spot 1 c1_lines line column

--   class C1
--   inherit
--     C0
--       redefine step end
--   create make
--   feature
--     step: INTEGER
--       do
--         Result := Precursor + 1
--       end
--   end
abbrev pub class_c1 : ClassT
class_c1 =
    record (bare_class (in_c1 1 7) (codes "c1")) {
      parents = record (parent_clause (plain (in_c1 3 3) "c0")) { redefines = name (in_c1 4 14) "step" ∷ [] }
          ∷ [];
      creators = creators no_clients (name (in_c1 5 8) "make" ∷ []) ∷ [];
      features =
          features no_clients
          (routine_of (name (in_c1 7 3) "step") [] (Some (plain (in_c1 7 9) "integer")) []
          (assign (name (in_c1 9 7) "result")
          (operation (parent_version (in_c1 9 17) None []) (in_c1 9 27) op.Plus (int (in_c1 9 29) 1))
          ∷ []) ∷ [])
          ∷ [];
    }

pub record PairExamples : Type 0 where
  -- a list of strings
  pub list : body_faults (class_link ∷ class_app ∷ []) ≡ []
  -- a routine that adds to its precursor
  pub heir : body_faults (class_c0 ∷ class_c1 ∷ []) ≡ []

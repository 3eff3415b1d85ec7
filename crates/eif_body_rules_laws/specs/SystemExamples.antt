-- Systems worked out. A class text of several lines stands above with its lines; other texts are one line each.
use Rattle.std.specs.Prelude.{◌≡◌, List, [], ◌∷◌, Some, None, codes, ℕ}
use Rattle.eif_base.specs.declared.code.Code.TheVariants as code
use Rattle.eif_base.specs.declared.place.Place.{Place}
use Rattle.eif_tree.specs.declared.tree.Mark.TheVariants.{Plain}
use Rattle.eif_tree.specs.declared.tree.Op.TheVariants as op
use Rattle.eif_tree.specs.Tree.{void_value, test, Ins, assign, call, no_clients, ClassT}
use Rattle.eif_tree.specs.View.{inss_from}
use Rattle.eif_system.specs.TreeForms.{spot, bare_class, parent_clause, procedure, attribute_of}
use Rattle.eif_body_rules.specs.BodyRules.{body_faults}
use Rattle.eif_body_rules_laws.specs.PlacedTexts.{at, there, name, written, plain, maybe, value, apply, dot, operation, make, branch, if_true, group, routine_of, formal, clients, creators, features, declares, breach, alone}

-- the lengths of the first lines of APP, with their line feeds
abbrev pub app_lines : List ℕ
app_lines = 10 ∷ 12 ∷ 8 ∷ 7 ∷ 7 ∷ 17 ∷ 8 ∷ 24 ∷ 7 ∷ []

abbrev pub on : ℕ → ℕ → Place
on line column = spot 0 app_lines line column

-- the lengths of the lines of A
abbrev pub a_lines : List ℕ
a_lines = 8 ∷ 8 ∷ 14 ∷ 26 ∷ 7 ∷ 8 ∷ 4 ∷ []

abbrev pub on_a : ℕ → ℕ → Place
on_a line column = spot 1 a_lines line column

--   class A
--   feature
--     ok: BOOLEAN
--     put (x: detachable ANY)
--       do
--       end
--   end
abbrev pub class_a : ClassT
class_a =
    declares (on_a 1 7) "a"
    (attribute_of (name (on_a 3 3) "ok") (plain (on_a 3 7) "boolean")
    ∷ routine_of (name (on_a 4 3) "put")
    (group (name (on_a 4 8) "x" ∷ []) (maybe (on_a 4 11) (on_a 4 22) "any") ∷ []) None [] [] ∷ [])

--   class APP
--   create make
--   feature
--     make
--       do
--         run (Void)
--       end
--     run (x: detachable A)
--       do
--         ..
--       end
--   end
abbrev pub app : List Ins → ClassT
app tenth_line =
    record (bare_class (on 1 7) (codes "app")) {
      creators = creators no_clients (name (on 2 8) "make" ∷ []) ∷ [];
      features =
          features no_clients
          (procedure (name (on 4 3) "make")
          (inss_from (call (apply (on 6 7) "run" (void_value (on 6 12) ∷ [])) ∷ []))
          ∷ routine_of (name (on 8 3) "run")
          (group (name (on 8 8) "x" ∷ []) (maybe (on 8 11) (on 8 22) "a") ∷ []) None [] tenth_line ∷ [])
          ∷ [];
    }

-- ---- APP by its tenth line

-- x.put (Void)
abbrev pub may_be_void_app : ClassT
may_be_void_app = app (call (dot (value (on 10 7) "x") (on 10 9) "put" (void_value (on 10 14) ∷ [])) ∷ [])

-- if x /= Void then x.put (Void) end
abbrev pub tested_app : ClassT
tested_app = app
    (if_true
    (branch (operation (value (on 10 10) "x") (on 10 12) op.NotEqual (void_value (on 10 15)))
    (call (dot (value (on 10 25) "x") (on 10 27) "put" (void_value (on 10 32) ∷ [])) ∷ []) ∷ [])
    None ∷ [])

-- if x /= Void and x.ok then end
abbrev pub strict_app : ClassT
strict_app = app
    (if_true
    (branch
    (operation (operation (value (on 10 10) "x") (on 10 12) op.NotEqual (void_value (on 10 15)))
    (on 10 20) op.And (dot (value (on 10 24) "x") (on 10 26) "ok" [])) [] ∷ []) None ∷ [])

-- if x /= Void and then x.ok then end
abbrev pub short_app : ClassT
short_app = app
    (if_true
    (branch
    (operation (operation (value (on 10 10) "x") (on 10 12) op.NotEqual (void_value (on 10 15)))
    (on 10 20) op.AndThen (dot (value (on 10 29) "x") (on 10 31) "ok" [])) [] ∷ []) None ∷ [])

-- if {y: A} x then y.put (Void) end
abbrev pub test_local_app : ClassT
test_local_app = app
    (if_true
    (branch
    (test (on 10 10) (Some (plain (on 10 14) "a")) (Some (name (on 10 11) "y"))
    (value (on 10 17) "x"))
    (call (dot (value (on 10 24) "y") (on 10 26) "put" (void_value (on 10 31) ∷ [])) ∷ []) ∷ [])
    None ∷ [])

-- if attached {A} x as y then y.put (Void) end
abbrev pub other_spelling_app : ClassT
other_spelling_app = app
    (if_true
    (branch
    (test (on 10 10) (Some (plain (on 10 20) "a")) (Some (name (on 10 28) "y"))
    (value (on 10 23) "x"))
    (call (dot (value (on 10 35) "y") (on 10 37) "put" (void_value (on 10 42) ∷ [])) ∷ []) ∷ [])
    None ∷ [])

pub record ArgumentTestExamples : Type 0 where
  pub may_be_void : body_faults (may_be_void_app ∷ class_a ∷ [])
      ≡ breach "app" "run" code.Vuta 1 (on 10 7) "put" ∷ []
  pub tested : body_faults (tested_app ∷ class_a ∷ []) ≡ []
  pub strict : body_faults (strict_app ∷ class_a ∷ []) ≡ breach "app" "run" code.Vuta 1 (on 10 24) "ok" ∷ []
  pub short : body_faults (short_app ∷ class_a ∷ []) ≡ []
  pub test_local : body_faults (test_local_app ∷ class_a ∷ []) ≡ []
  pub other_spelling : body_faults (other_spelling_app ∷ class_a ∷ []) ≡ []

-- ---- small systems

-- the lengths of the first lines of the class below
abbrev pub array_lines : List ℕ
array_lines = 10 ∷ 12 ∷ 8 ∷ 7 ∷ 7 ∷ 8 ∷ 44 ∷ 10 ∷ 30 ∷ 7 ∷ 13 ∷ 13 ∷ []

abbrev pub on_array : ℕ → ℕ → Place
on_array line column = spot 0 array_lines line column

--   class APP
--   create make
--   feature
--     make
--       do
--       end
--     f (x: ARRAY [A]; y: ARRAY [detachable A])
--       local
--         z: ARRAY [detachable A]
--       do
--         z := y
--         z := x
--       end
--   end
abbrev pub array_app : ClassT
array_app =
    record (bare_class (on_array 1 7) (codes "app")) {
      creators = creators no_clients (name (on_array 2 8) "make" ∷ []) ∷ [];
      features =
          features no_clients
          (procedure (name (on_array 4 3) "make") (inss_from [])
          ∷ routine_of (name (on_array 7 3) "f")
          (group (name (on_array 7 6) "x" ∷ [])
          (written (on_array 7 9) (on_array 7 9) Plain "array" (plain (on_array 7 16) "a" ∷ []))
          ∷ group (name (on_array 7 20) "y" ∷ [])
          (written (on_array 7 23) (on_array 7 23) Plain "array"
          (maybe (on_array 7 30) (on_array 7 41) "a" ∷ [])) ∷ []) None
          (group (name (on_array 9 7) "z" ∷ [])
          (written (on_array 9 10) (on_array 9 10) Plain "array"
          (maybe (on_array 9 17) (on_array 9 28) "a" ∷ [])) ∷ [])
          (assign (name (on_array 11 7) "z") (value (on_array 11 12) "y")
          ∷ assign (name (on_array 12 7) "z") (value (on_array 12 12) "x") ∷ []) ∷ [])
          ∷ [];
    }

-- class K create {NONE} make feature make do end feature {NONE} h do end end
abbrev pub class_k : ClassT
class_k =
    record (bare_class (at 7) (codes "k")) {
      creators = creators (clients (name (at 17) "none" ∷ [])) (name (at 23) "make" ∷ []) ∷ [];
      features = features no_clients (procedure (name (at 36) "make") (inss_from []) ∷ [])
          ∷ features (clients (name (at 57) "none" ∷ [])) (procedure (name (at 63) "h") (inss_from []) ∷ [])
          ∷ [];
    }

-- class B [G] feature f (x: G) do print (x.out) end end
abbrev pub plain_formal_b : ClassT
plain_formal_b = record (bare_class (at 7) (codes "b")) {
  formals = formal (at 10) "g" None ∷ [];
  features =
      features no_clients
      (routine_of (name (at 21) "f") (group (name (at 24) "x" ∷ []) (plain (at 27) "g") ∷ []) None []
      (call (apply (at 33) "print" (dot (value (at 40) "x") (at 42) "out" [] ∷ [])) ∷ []) ∷ [])
      ∷ [];
}

-- class B [G -> ANY] feature f (x: G) do print (x.out) end end
abbrev pub constrained_formal_b : ClassT
constrained_formal_b = record (bare_class (at 7) (codes "b")) {
  formals = formal (at 10) "g" (Some (plain (at 15) "any")) ∷ [];
  features =
      features no_clients
      (routine_of (name (at 28) "f") (group (name (at 31) "x" ∷ []) (plain (at 34) "g") ∷ []) None []
      (call (apply (at 40) "print" (dot (value (at 47) "x") (at 49) "out" [] ∷ [])) ∷ []) ∷ [])
      ∷ [];
}

-- class APP create make feature make local k: K do create k.make k.h end end
abbrev pub hidden_features_app : ClassT
hidden_features_app = record (bare_class (there 7) (codes "app")) {
  creators = creators no_clients (name (there 18) "make" ∷ []) ∷ [];
  features =
      features no_clients
      (routine_of (name (there 31) "make") [] None
      (group (name (there 42) "k" ∷ []) (plain (there 45) "k") ∷ [])
      (make (there 50) None (name (there 57) "k") (Some (name (there 59) "make")) []
      ∷ call (dot (value (there 64) "k") (there 66) "h" []) ∷ []) ∷ [])
      ∷ [];
}

-- class P feature f (x: P): ANY do Result := x end end
abbrev pub class_p : ClassT
class_p =
    declares (at 7) "p"
    (routine_of (name (at 17) "f") (group (name (at 20) "x" ∷ []) (plain (at 23) "p") ∷ [])
    (Some (plain (at 27) "any")) [] (assign (name (at 34) "result") (value (at 44) "x") ∷ []) ∷ [])

-- class APP inherit P redefine f end create make feature make do end f (x: P): P do Result := x end end
abbrev pub redeclared_function_app : ClassT
redeclared_function_app = record (bare_class (there 7) (codes "app")) {
  parents = record (parent_clause (plain (there 19) "p")) { redefines = name (there 30) "f" ∷ [] } ∷ [];
  creators = creators no_clients (name (there 43) "make" ∷ []) ∷ [];
  features =
      features no_clients
      (procedure (name (there 56) "make") (inss_from [])
      ∷ routine_of (name (there 68) "f") (group (name (there 71) "x" ∷ []) (plain (there 74) "p") ∷ [])
      (Some (plain (there 78) "p")) [] (assign (name (there 83) "result") (value (there 93) "x") ∷ [])
      ∷ [])
      ∷ [];
}

pub record SmallSystemExamples : Type 0 where
  -- an array of attached items does not conform to one of detachable items
  pub generic_types :
      body_faults (array_app ∷ class_a ∷ [])
      ≡ breach "app" "f" code.Vbar 2 (on_array 12 12) "z" ∷ []
  -- a formal that may be detachable
  pub plain_formal : alone plain_formal_b ≡ breach "b" "f" code.Vuta 1 (at 40) "out" ∷ []
  -- a formal with an attached constraint
  pub constrained_formal : alone constrained_formal_b ≡ []
  -- creator and feature of no client
  pub hidden_features : body_faults (class_k ∷ hidden_features_app ∷ [])
      ≡ breach "app" "make" code.Vgci 4 (there 50) "make" ∷ breach "app" "make" code.Vuex 2 (there 66) "h" ∷ []
  -- a redeclared function
  pub redeclared_function : body_faults (class_p ∷ redeclared_function_app ∷ []) ≡ []

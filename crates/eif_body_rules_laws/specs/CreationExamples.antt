-- The rules of creations. Above each example stands its class text, in one line of the first file, or the
-- instructions in such a text; a second text is the second file.
use Rattle.std.specs.Prelude.{◌≡◌, true, [], ◌∷◌, Some, None, codes}
use Rattle.eif_base.specs.declared.code.Code.TheVariants as code
use Rattle.eif_tree.specs.declared.tree.Mark.TheVariants.{Plain}
use Rattle.eif_tree.specs.Tree.{call, no_clients, ClassT}
use Rattle.eif_tree.specs.View.{inss_from}
use Rattle.eif_system.specs.TreeForms.{bare_class, procedure}
use Rattle.eif_body_rules.specs.BodyRules.{body_faults}
use Rattle.eif_body_rules_laws.specs.CallExamples.{class_c}
use Rattle.eif_body_rules_laws.specs.PlacedTexts.{at, there, name, written, plain, maybe, int, text, value, apply, new, make, group, routine_of, formal, clients, creators, features, declares, breach, alone, f_does}

-- class C create make feature make do end h do end end
abbrev pub closed_class : ClassT
closed_class =
    record (bare_class (there 7) (codes "c")) {
      creators = creators no_clients (name (there 16) "make" ∷ []) ∷ [];
      features =
          features no_clients
          (procedure (name (there 29) "make") (inss_from [])
          ∷ procedure (name (there 41) "h") (inss_from []) ∷ [])
          ∷ [];
    }

-- deferred class C end
abbrev pub deferred_class : ClassT
deferred_class = record (bare_class (there 16) (codes "c")) { is_deferred = true }

-- deferred class D end
abbrev pub deferred_d : ClassT
deferred_d = record (bare_class (there 16) (codes "d")) { is_deferred = true }

-- class C3 create {NONE} make feature make do end end
abbrev pub class_c3 : ClassT
class_c3 =
    record (bare_class (there 7) (codes "c3")) {
      creators = creators (clients (name (there 18) "none" ∷ [])) (name (there 24) "make" ∷ []) ∷ [];
      features = features no_clients (procedure (name (there 37) "make") (inss_from []) ∷ []) ∷ [];
    }

-- class C4 end
abbrev pub class_c4 : ClassT
class_c4 = bare_class (there 7) (codes "c4")

-- class B [G] feature f local x: G do create x end end
abbrev pub formal_type_b : ClassT
formal_type_b = record (bare_class (at 7) (codes "b")) {
  formals = formal (at 10) "g" None ∷ [];
  features =
      features no_clients
      (routine_of (name (at 21) "f") [] None (group (name (at 29) "x" ∷ []) (plain (at 32) "g") ∷ [])
      (make (at 37) None (name (at 44) "x") None [] ∷ []) ∷ [])
      ∷ [];
}

-- class B feature f local x: detachable ANY do create {detachable ANY} x end end
abbrev pub marked_b : ClassT
marked_b = declares (at 7) "b"
    (routine_of (name (at 17) "f") [] None
    (group (name (at 25) "x" ∷ []) (maybe (at 28) (at 39) "any") ∷ [])
    (make (at 46) (Some (maybe (at 54) (at 65) "any")) (name (at 70) "x") None [] ∷ []) ∷ [])

-- class B feature f local x: detachable ANY do create x end end
abbrev pub target_marked_b : ClassT
target_marked_b = declares (at 7) "b"
    (routine_of (name (at 17) "f") [] None
    (group (name (at 25) "x" ∷ []) (maybe (at 28) (at 39) "any") ∷ [])
    (make (at 46) None (name (at 53) "x") None [] ∷ []) ∷ [])

-- class B feature f local x: C do create x end end
abbrev pub deferred_b : ClassT
deferred_b = declares (at 7) "b"
    (routine_of (name (at 17) "f") [] None (group (name (at 25) "x" ∷ []) (plain (at 28) "c") ∷ [])
    (make (at 33) None (name (at 40) "x") None [] ∷ []) ∷ [])

-- class B feature f local x: INTEGER do create x end end
abbrev pub basic_b : ClassT
basic_b = declares (at 7) "b"
    (routine_of (name (at 17) "f") [] None (group (name (at 25) "x" ∷ []) (plain (at 28) "integer") ∷ [])
    (make (at 39) None (name (at 46) "x") None [] ∷ []) ∷ [])

-- class B feature f local x: C do create x.h end end
abbrev pub no_creator_b : ClassT
no_creator_b = declares (at 7) "b"
    (routine_of (name (at 17) "f") [] None (group (name (at 25) "x" ∷ []) (plain (at 28) "c") ∷ [])
    (make (at 33) None (name (at 40) "x") (Some (name (at 42) "h")) [] ∷ []) ∷ [])

-- class B feature f local x: C do create x end end
abbrev pub no_default_creator_b : ClassT
no_default_creator_b = declares (at 7) "b"
    (routine_of (name (at 17) "f") [] None (group (name (at 25) "x" ∷ []) (plain (at 28) "c") ∷ [])
    (make (at 33) None (name (at 40) "x") None [] ∷ []) ∷ [])

-- class B feature f local x: STRING do create {ANY} x end end
abbrev pub unfit_b : ClassT
unfit_b = declares (at 7) "b"
    (routine_of (name (at 17) "f") [] None (group (name (at 25) "x" ∷ []) (plain (at 28) "string") ∷ [])
    (make (at 38) (Some (plain (at 46) "any")) (name (at 51) "x") None [] ∷ []) ∷ [])

-- class B feature f local x: ANY do create {C} x.make end end
abbrev pub creator_b : ClassT
creator_b = declares (at 7) "b"
    (routine_of (name (at 17) "f") [] None (group (name (at 25) "x" ∷ []) (plain (at 28) "any") ∷ [])
    (make (at 35) (Some (plain (at 43) "c")) (name (at 46) "x") (Some (name (at 48) "make")) [] ∷ [])
    ∷ [])

-- class B feature f local x: C do create x.make (1) end end
abbrev pub wrong_count_b : ClassT
wrong_count_b = declares (at 7) "b"
    (routine_of (name (at 17) "f") [] None (group (name (at 25) "x" ∷ []) (plain (at 28) "c") ∷ [])
    (make (at 33) None (name (at 40) "x") (Some (name (at 42) "make")) (int (at 48) 1 ∷ []) ∷ [])
    ∷ [])

-- class B feature f local x: ARRAY [STRING] do create x.make_filled (1, 0, 0) end end
abbrev pub wrong_argument_b : ClassT
wrong_argument_b = declares (at 7) "b"
    (routine_of (name (at 17) "f") [] None
    (group (name (at 25) "x" ∷ [])
    (written (at 28) (at 28) Plain "array" (plain (at 35) "string" ∷ [])) ∷ [])
    (make (at 46) None (name (at 53) "x") (Some (name (at 55) "make_filled"))
    (int (at 68) 1 ∷ int (at 71) 0 ∷ int (at 74) 0 ∷ []) ∷ []) ∷ [])

-- class B feature f local x: ARRAY [INTEGER] do create x.make_filled (1, 0, 0) end end
abbrev pub right_argument_b : ClassT
right_argument_b = declares (at 7) "b"
    (routine_of (name (at 17) "f") [] None
    (group (name (at 25) "x" ∷ [])
    (written (at 28) (at 28) Plain "array" (plain (at 35) "integer" ∷ [])) ∷ [])
    (make (at 47) None (name (at 54) "x") (Some (name (at 56) "make_filled"))
    (int (at 69) 1 ∷ int (at 72) 0 ∷ int (at 75) 0 ∷ []) ∷ []) ∷ [])

-- class B feature f local x: STRING do create {C} x.make ("a") end end
abbrev pub type_first_b : ClassT
type_first_b = declares (at 7) "b"
    (routine_of (name (at 17) "f") [] None (group (name (at 25) "x" ∷ []) (plain (at 28) "string") ∷ [])
    (make (at 38) (Some (plain (at 46) "c")) (name (at 49) "x") (Some (name (at 51) "make"))
    (text (at 57) "a" ∷ []) ∷ []) ∷ [])

-- class B feature f local x: D do create {detachable D} x.nope end end
abbrev pub mark_first_b : ClassT
mark_first_b = declares (at 7) "b"
    (routine_of (name (at 17) "f") [] None (group (name (at 25) "x" ∷ []) (plain (at 28) "d") ∷ [])
    (make (at 33) (Some (maybe (at 41) (at 52) "d")) (name (at 55) "x") (Some (name (at 57) "nope")) [] ∷ [])
    ∷ [])

-- class B feature f local x: D do create x.nope end end
abbrev pub deferred_first_b : ClassT
deferred_first_b = declares (at 7) "b"
    (routine_of (name (at 17) "f") [] None (group (name (at 25) "x" ∷ []) (plain (at 28) "d") ∷ [])
    (make (at 33) None (name (at 40) "x") (Some (name (at 42) "nope")) [] ∷ []) ∷ [])

-- class B feature f local x: C4 do create x end end
abbrev pub default_creator_b : ClassT
default_creator_b = declares (at 7) "b"
    (routine_of (name (at 17) "f") [] None (group (name (at 25) "x" ∷ []) (plain (at 28) "c4") ∷ [])
    (make (at 34) None (name (at 41) "x") None [] ∷ []) ∷ [])

-- create nope.make (huh)
abbrev pub arguments_first_b : ClassT
arguments_first_b =
    f_does (make (at 22) None (name (at 29) "nope") (Some (name (at 34) "make")) (value (at 40) "huh" ∷ []) ∷ [])

-- creation instructions
pub record InstructionExamples : Type 0 where
  -- VGCI.1
  pub formal_type : alone formal_type_b ≡ breach "b" "f" code.Vgci 1 (at 37) "g" ∷ []
  -- written with the mark detachable
  pub marked : alone marked_b ≡ breach "b" "f" code.Vgci 1 (at 46) "any" ∷ []
  -- kept, the attached form of the type of the target
  pub target_marked : alone target_marked_b ≡ []
  -- VGCI.2
  pub deferred : body_faults (deferred_b ∷ deferred_class ∷ []) ≡ breach "b" "f" code.Vgci 2 (at 33) "c" ∷ []
  -- VGCI.3
  pub basic : alone basic_b ≡ breach "b" "f" code.Vgci 3 (at 39) "integer" ∷ []
  -- VGCI.4
  pub no_creator : body_faults (no_creator_b ∷ closed_class ∷ []) ≡ breach "b" "f" code.Vgci 4 (at 33) "h" ∷ []
  -- none is named
  pub no_default_creator : body_faults (no_default_creator_b ∷ closed_class ∷ [])
      ≡ breach "b" "f" code.Vgci 4 (at 33) "default_create" ∷ []
  -- VGCI.5
  pub unfit : alone unfit_b ≡ breach "b" "f" code.Vgci 5 (at 38) "x" ∷ []
  -- kept
  pub creator : body_faults (creator_b ∷ closed_class ∷ []) ≡ []
  -- VUAR.1
  pub wrong_count : body_faults (wrong_count_b ∷ closed_class ∷ [])
      ≡ breach "b" "f" code.Vuar 1 (at 42) "make" ∷ []
  -- VUAR.2: with the actuals of the type put in
  pub wrong_argument : alone wrong_argument_b ≡ breach "b" "f" code.Vuar 2 (at 68) "make_filled" ∷ []
  -- kept
  pub right_argument : alone right_argument_b ≡ []
  -- VGCI comes before VUAR, with the C of the calls
  pub type_first : body_faults (type_first_b ∷ class_c ∷ []) ≡ breach "b" "f" code.Vgci 5 (at 38) "x" ∷ []
  -- VGCI.1 comes before VGCI.2
  pub mark_first : body_faults (mark_first_b ∷ deferred_d ∷ []) ≡ breach "b" "f" code.Vgci 1 (at 33) "d" ∷ []
  -- VGCI.2 comes before VGCI.4
  pub deferred_first : body_faults (deferred_first_b ∷ deferred_d ∷ [])
      ≡ breach "b" "f" code.Vgci 2 (at 33) "d" ∷ []
  -- kept, of a class without a creators part
  pub default_creator : body_faults (default_creator_b ∷ class_c4 ∷ []) ≡ []
  -- the arguments come before the target
  pub arguments_first : alone arguments_first_b ≡ breach "b" "f" code.Veen 1 (at 40) "huh" ∷ []

-- class B [G] feature f do print (create {G}) end end
abbrev pub new_formal_type_b : ClassT
new_formal_type_b = record (bare_class (at 7) (codes "b")) {
  formals = formal (at 10) "g" None ∷ [];
  features =
      features no_clients
      (procedure (name (at 21) "f")
      (inss_from
      (call (apply (at 26) "print" (new (at 33) (plain (at 41) "g") None [] ∷ [])) ∷ [])) ∷ [])
      ∷ [];
}

-- print (create {detachable ANY})
abbrev pub new_marked_b : ClassT
new_marked_b = f_does (call (apply (at 22) "print" (new (at 29) (maybe (at 37) (at 48) "any") None [] ∷ [])) ∷ [])

-- print (create {C})
abbrev pub new_deferred_b : ClassT
new_deferred_b = f_does (call (apply (at 22) "print" (new (at 29) (plain (at 37) "c") None [] ∷ [])) ∷ [])

-- print (create {INTEGER})
abbrev pub new_basic_b : ClassT
new_basic_b = f_does (call (apply (at 22) "print" (new (at 29) (plain (at 37) "integer") None [] ∷ [])) ∷ [])

-- print (create {C}.h)
abbrev pub new_no_creator_b : ClassT
new_no_creator_b = f_does
    (call (apply (at 22) "print" (new (at 29) (plain (at 37) "c") (Some (name (at 40) "h")) [] ∷ []))
    ∷ [])

-- print (create {C})
abbrev pub new_no_default_creator_b : ClassT
new_no_default_creator_b =
    f_does (call (apply (at 22) "print" (new (at 29) (plain (at 37) "c") None [] ∷ [])) ∷ [])

-- print (create {C}.make)
abbrev pub new_creator_b : ClassT
new_creator_b = f_does
    (call (apply (at 22) "print" (new (at 29) (plain (at 37) "c") (Some (name (at 40) "make")) [] ∷ []))
    ∷ [])

-- print (create {C3}.make)
abbrev pub new_not_available_b : ClassT
new_not_available_b = f_does
    (call (apply (at 22) "print" (new (at 29) (plain (at 37) "c3") (Some (name (at 41) "make")) [] ∷ []))
    ∷ [])

-- creation expressions
pub record ExpressionExamples : Type 0 where
  -- VGCE.1
  pub formal_type : alone new_formal_type_b ≡ breach "b" "f" code.Vgce 1 (at 33) "g" ∷ []
  -- written with the mark detachable
  pub marked : alone new_marked_b ≡ breach "b" "f" code.Vgce 1 (at 29) "any" ∷ []
  -- VGCE.2
  pub deferred : body_faults (new_deferred_b ∷ deferred_class ∷ []) ≡ breach "b" "f" code.Vgce 2 (at 29) "c" ∷ []
  -- VGCE.3
  pub basic : alone new_basic_b ≡ breach "b" "f" code.Vgce 3 (at 29) "integer" ∷ []
  -- VGCE.4
  pub no_creator : body_faults (new_no_creator_b ∷ closed_class ∷ [])
      ≡ breach "b" "f" code.Vgce 4 (at 29) "h" ∷ []
  -- none is named
  pub no_default_creator : body_faults (new_no_default_creator_b ∷ closed_class ∷ [])
      ≡ breach "b" "f" code.Vgce 4 (at 29) "default_create" ∷ []
  -- kept
  pub creator : body_faults (new_creator_b ∷ closed_class ∷ []) ≡ []
  -- VGCE.4, a creator that is available to no class
  pub not_available : body_faults (new_not_available_b ∷ class_c3 ∷ [])
      ≡ breach "b" "f" code.Vgce 4 (at 29) "make" ∷ []

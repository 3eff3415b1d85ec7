-- The rules of object tests. Above each example stands its class text, in one line of the first file, or the
-- instructions in such a text; a second text is the second file.
use Rattle.std.specs.Prelude.{◌≡◌, [], ◌∷◌, Some, None, codes}
use Rattle.eif_base.specs.declared.code.Code.TheVariants as code
use Rattle.eif_tree.specs.declared.tree.Op.TheVariants as op
use Rattle.eif_tree.specs.Tree.{current_value, test, paren, call, no_clients, ClassT}
use Rattle.eif_system.specs.TreeForms.{bare_class}
use Rattle.eif_body_rules.specs.BodyRules.{body_faults}
use Rattle.eif_body_rules_laws.specs.PlacedTexts.{at, there, name, plain, maybe, value, apply, dot, operation, make, branch, if_true, check_all, group, routine_of, ensures, creators, features, declares, breach, alone, f_does}

-- if attached Current as f then end
abbrev pub feature_b : ClassT
feature_b = f_does
    (if_true (branch (test (at 25) None (Some (name (at 45) "f")) (current_value (at 34))) [] ∷ []) None
    ∷ [])

-- class B feature f (x: ANY) do if attached x as x then end end end
abbrev pub argument_b : ClassT
argument_b = declares (at 7) "b"
    (routine_of (name (at 17) "f") (group (name (at 20) "x" ∷ []) (plain (at 23) "any") ∷ []) None []
    (if_true (branch (test (at 34) None (Some (name (at 48) "x")) (value (at 43) "x")) [] ∷ []) None
    ∷ []) ∷ [])

-- class B feature f local x: ANY do if attached Current as x then end end end
abbrev pub a_local_b : ClassT
a_local_b = declares (at 7) "b"
    (routine_of (name (at 17) "f") [] None (group (name (at 25) "x" ∷ []) (plain (at 28) "any") ∷ [])
    (if_true (branch (test (at 38) None (Some (name (at 58) "x")) (current_value (at 47))) [] ∷ [])
    None ∷ []) ∷ [])

-- if attached Current as x then if attached Current as x then end end
abbrev pub usable_b : ClassT
usable_b = f_does
    (if_true
    (branch (test (at 25) None (Some (name (at 45) "x")) (current_value (at 34)))
    (if_true (branch (test (at 55) None (Some (name (at 75) "x")) (current_value (at 64))) [] ∷ [])
    None ∷ []) ∷ []) None ∷ [])

-- if attached Current as x then end if attached Current as x then end
abbrev pub no_longer_usable_b : ClassT
no_longer_usable_b = f_does
    (if_true (branch (test (at 25) None (Some (name (at 45) "x")) (current_value (at 34))) [] ∷ []) None
    ∷ if_true (branch (test (at 59) None (Some (name (at 79) "x")) (current_value (at 68))) [] ∷ [])
    None ∷ [])

-- class B feature f local x: ANY do ensure attached Current as x end end
abbrev pub invisible_b : ClassT
invisible_b = declares (at 7) "b"
    (ensures (test (at 42) None (Some (name (at 62) "x")) (current_value (at 51)) ∷ [])
    (routine_of (name (at 17) "f") [] None (group (name (at 25) "x" ∷ []) (plain (at 28) "any") ∷ [])
    []) ∷ [])

-- check attached Current as x or attached Current as x end
abbrev pub repeated_b : ClassT
repeated_b = f_does
    (check_all
    (operation (test (at 28) None (Some (name (at 48) "x")) (current_value (at 37))) (at 50) op.Or
    (test (at 53) None (Some (name (at 73) "x")) (current_value (at 62))) ∷ []) ∷ [])

-- check attached (attached Current as x) as x end
abbrev pub nested_b : ClassT
nested_b = f_does
    (check_all
    (test (at 28) None (Some (name (at 64) "x"))
    (paren (at 37) (test (at 38) None (Some (name (at 58) "x")) (current_value (at 47)))) ∷ [])
    ∷ [])

-- check attached Current as x attached Current as x end
abbrev pub two_assertions_b : ClassT
two_assertions_b = f_does
    (check_all
    (test (at 28) None (Some (name (at 48) "x")) (current_value (at 37))
    ∷ test (at 50) None (Some (name (at 70) "x")) (current_value (at 59)) ∷ []) ∷ [])

-- class B feature f (x: BOOLEAN) local y: C do create y.make (attached x as z, attached x as z) end end
abbrev pub two_arguments_b : ClassT
two_arguments_b = declares (at 7) "b"
    (routine_of (name (at 17) "f") (group (name (at 20) "x" ∷ []) (plain (at 23) "boolean") ∷ []) None
    (group (name (at 38) "y" ∷ []) (plain (at 41) "c") ∷ [])
    (make (at 46) None (name (at 53) "y") (Some (name (at 55) "make"))
    (test (at 61) None (Some (name (at 75) "z")) (value (at 70) "x")
    ∷ test (at 78) None (Some (name (at 92) "z")) (value (at 87) "x") ∷ []) ∷ []) ∷ [])

-- class C create make feature make (a, b: BOOLEAN) do end end
abbrev pub two_arguments_c : ClassT
two_arguments_c = record (bare_class (there 7) (codes "c")) {
  creators = creators no_clients (name (there 16) "make" ∷ []) ∷ [];
  features =
      features no_clients
      (routine_of (name (there 29) "make")
      (group (name (there 35) "a" ∷ name (there 38) "b" ∷ []) (plain (there 41) "boolean") ∷ [])
      None [] [] ∷ [])
      ∷ [];
}

-- class B feature f (x, y: BOOLEAN) do f (attached x as z, attached y as z) end end
abbrev pub two_call_arguments_b : ClassT
two_call_arguments_b = declares (at 7) "b"
    (routine_of (name (at 17) "f")
    (group (name (at 20) "x" ∷ name (at 23) "y" ∷ []) (plain (at 26) "boolean") ∷ []) None []
    (call
    (apply (at 38) "f"
    (test (at 41) None (Some (name (at 55) "z")) (value (at 50) "x")
    ∷ test (at 58) None (Some (name (at 72) "z")) (value (at 67) "y") ∷ [])) ∷ []) ∷ [])

-- class B feature f (y: detachable ANY) do if attached y as z and then attached y as z then end end end
abbrev pub usable_first_b : ClassT
usable_first_b = declares (at 7) "b"
    (routine_of (name (at 17) "f") (group (name (at 20) "y" ∷ []) (maybe (at 23) (at 34) "any") ∷ []) None []
    (if_true
    (branch
    (operation (test (at 45) None (Some (name (at 59) "z")) (value (at 54) "y")) (at 61) op.AndThen
    (test (at 70) None (Some (name (at 84) "z")) (value (at 79) "y"))) [] ∷ []) None ∷ []) ∷ [])

-- class B feature f (x: BOOLEAN) do h (attached x as z).k (attached x as z) end h (b: BOOLEAN): B do create Result end
-- k (b: BOOLEAN) do end end
abbrev pub target_and_argument_b : ClassT
target_and_argument_b = declares (at 7) "b"
    (routine_of (name (at 17) "f") (group (name (at 20) "x" ∷ []) (plain (at 23) "boolean") ∷ []) None []
    (call
    (dot (apply (at 35) "h" (test (at 38) None (Some (name (at 52) "z")) (value (at 47) "x") ∷ [])) (at 55)
    "k" (test (at 58) None (Some (name (at 72) "z")) (value (at 67) "x") ∷ [])) ∷ [])
    ∷ routine_of (name (at 79) "h") (group (name (at 82) "b" ∷ []) (plain (at 85) "boolean") ∷ [])
    (Some (plain (at 95) "b")) [] (make (at 100) None (name (at 107) "result") None [] ∷ [])
    ∷ routine_of (name (at 118) "k") (group (name (at 121) "b" ∷ []) (plain (at 124) "boolean") ∷ []) None []
    [] ∷ [])

-- the local
pub record TestLocalExamples : Type 0 where
  -- VUOT.1
  pub feature : alone feature_b ≡ breach "b" "f" code.Vuot 1 (at 45) "f" ∷ []
  -- an argument
  pub argument : alone argument_b ≡ breach "b" "f" code.Vuot 1 (at 48) "x" ∷ []
  -- a local
  pub a_local : alone a_local_b ≡ breach "b" "f" code.Vuot 1 (at 58) "x" ∷ []
  -- usable there
  pub usable : alone usable_b ≡ breach "b" "f" code.Vuot 1 (at 75) "x" ∷ []
  -- kept, no longer usable
  pub no_longer_usable : alone no_longer_usable_b ≡ []
  -- kept, since the local is not visible
  pub invisible : alone invisible_b ≡ []
  -- VUOT.2
  pub repeated : alone repeated_b ≡ breach "b" "f" code.Vuot 2 (at 73) "x" ∷ []
  -- the outer test is the earlier one
  pub nested : alone nested_b ≡ breach "b" "f" code.Vuot 2 (at 58) "x" ∷ []
  -- kept, in two expressions
  pub two_assertions : alone two_assertions_b ≡ []
  -- kept, each argument of a creation instruction is a whole expression
  pub two_arguments : body_faults (two_arguments_b ∷ two_arguments_c ∷ []) ≡ []
  -- a call instruction is one expression
  pub two_call_arguments : alone two_call_arguments_b ≡ breach "b" "f" code.Vuot 2 (at 72) "z" ∷ []
  -- VUOT.1 comes before VUOT.2
  pub usable_first : alone usable_first_b ≡ breach "b" "f" code.Vuot 1 (at 84) "z" ∷ []
  -- target and arguments of a call are one expression
  pub target_and_argument : alone target_and_argument_b ≡ breach "b" "f" code.Vuot 2 (at 72) "z" ∷ []

-- if attached {detachable STRING} Current as x then print (x.count) end
abbrev pub marked_b : ClassT
marked_b = f_does
    (if_true
    (branch
    (test (at 25) (Some (maybe (at 35) (at 46) "string")) (Some (name (at 65) "x"))
    (current_value (at 54)))
    (call (apply (at 72) "print" (dot (value (at 79) "x") (at 81) "count" [] ∷ [])) ∷ []) ∷ [])
    None ∷ [])

-- if attached {detachable STRING} Current as f then end
abbrev pub local_first_b : ClassT
local_first_b = f_does
    (if_true
    (branch
    (test (at 25) (Some (maybe (at 35) (at 46) "string")) (Some (name (at 65) "f"))
    (current_value (at 54))) [] ∷ []) None ∷ [])

-- if {x: STRING} Current then print (x.count) end
abbrev pub unmarked_b : ClassT
unmarked_b = f_does
    (if_true
    (branch
    (test (at 25) (Some (plain (at 29) "string")) (Some (name (at 26) "x")) (current_value (at 37)))
    (call (apply (at 50) "print" (dot (value (at 57) "x") (at 59) "count" [] ∷ [])) ∷ []) ∷ [])
    None ∷ [])

-- if attached nope as x then print (x) end
abbrev pub no_type_b : ClassT
no_type_b = f_does
    (if_true
    (branch (test (at 25) None (Some (name (at 42) "x")) (value (at 34) "nope"))
    (call (apply (at 49) "print" (value (at 56) "x" ∷ [])) ∷ []) ∷ []) None ∷ [])

-- if attached nope as x then x end
abbrev pub instruction_b : ClassT
instruction_b = f_does
    (if_true
    (branch (test (at 25) None (Some (name (at 42) "x")) (value (at 34) "nope"))
    (call (value (at 49) "x") ∷ []) ∷ []) None ∷ [])

-- the written type
pub record WrittenTypeExamples : Type 0 where
  -- VUOT.3: the local is usable, and attached
  pub marked : alone marked_b ≡ breach "b" "f" code.Vuot 3 (at 35) "string" ∷ []
  -- VUOT.1 comes first
  pub local_first : alone local_first_b ≡ breach "b" "f" code.Vuot 1 (at 65) "f" ∷ []
  -- kept
  pub unmarked : alone unmarked_b ≡ []
  -- a read of a local without type has no type, which is no breach
  pub no_type : alone no_type_b ≡ breach "b" "f" code.Veen 1 (at 34) "nope" ∷ []
  -- XUSE.2: a local without type as an instruction
  pub instruction : alone instruction_b
      ≡ breach "b" "f" code.Veen 1 (at 34) "nope" ∷ breach "b" "f" code.Xuse 2 (at 49) "x" ∷ []

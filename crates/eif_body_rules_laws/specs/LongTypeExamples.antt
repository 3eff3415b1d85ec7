-- The rule of types with too many names. Above each example stands its class text, in one line of the first file,
-- or the instructions in such a text; a second text is the second file.
use Prim.Native.String.{String}
use Rattle.std.specs.Prelude.{◌≡◌, List, [], ◌∷◌, Some, None, ℕ, zero, suc, ◌+◌, ◌*◌}
use Rattle.eif_base.specs.declared.code.Code.TheVariants as code
use Rattle.eif_base.specs.declared.place.Place.{Place}
use Rattle.eif_tree.specs.declared.tree.Mark.TheVariants.{Plain}
use Rattle.eif_tree.specs.Tree.{TypeT, void_value, Ins, call, no_clients, ClassT}
use Rattle.eif_system.specs.TreeForms.{attribute_of}
use Rattle.eif_body_rules.specs.BodyRules.{body_faults}
use Rattle.eif_body_rules_laws.specs.PlacedTexts.{at, there, name, written, plain, value, apply, dot, new, group, routine_of, formal, declares, creators, f_does, breach}

-- ARRAY [ARRAY [.. N ..]], from that column on, with so many arrays
abbrev pub arrays : (ℕ → Place) → ℕ → ℕ → String → TypeT
arrays place column zero s = plain (place column) s
arrays place column (suc n) s =
    written (place column) (place column) Plain "array" (arrays place (column + 7) n s ∷ [])

-- class C [G] feature g: ARRAY [.. G ..] h (y: ARRAY [.. G ..]) do end end, with 50 arrays each
abbrev pub class_c : ClassT
class_c =
    record (declares (there 7) "c"
    (attribute_of (name (there 21) "g") (arrays there 24 50 "g")
    ∷ routine_of (name (there 426) "h") (group (name (there 429) "y" ∷ []) (arrays there 432 50 "g") ∷ []) None
    [] [] ∷ [])) {
      formals = formal (there 10) "g" None ∷ [];
    }

-- C [ARRAY [.. ANY ..]], with so many arrays
abbrev pub long_c : ℕ → TypeT
long_c n = written (at 23) (at 23) Plain "c" (arrays at 26 n "any" ∷ [])

-- class B feature f (x: C [ARRAY [.. ANY ..]]) do .. end end, with so many arrays
abbrev pub with_x : ℕ → List Ins → ClassT
with_x n body =
    declares (at 7) "b"
    (routine_of (name (at 17) "f") (group (name (at 20) "x" ∷ []) (long_c n) ∷ []) None [] body ∷ [])

-- in the body of such a class, whose columns are counted from 0
abbrev pub inside : ℕ → ℕ → Place
inside n column = at (35 + 8 * n + column)

-- print (x.g)
abbrev pub printed : ℕ → ClassT
printed n =
    with_x n (call (apply (inside n 0) "print" (dot (value (inside n 7) "x") (inside n 9) "g" [] ∷ [])) ∷ [])

-- x.h (Void)
abbrev pub called : ℕ → ClassT
called n = with_x n (call (dot (value (inside n 0) "x") (inside n 2) "h" (void_value (inside n 5) ∷ [])) ∷ [])

-- print (x.g), with 50 arrays
abbrev pub long_result_b : ClassT
long_result_b = printed 50

-- print (x.g), with 49 arrays
abbrev pub longest_result_b : ClassT
longest_result_b = printed 49

-- x.h (Void), with 50 arrays
abbrev pub long_argument_b : ClassT
long_argument_b = called 50

-- x.h (Void), with 49 arrays
abbrev pub longest_argument_b : ClassT
longest_argument_b = called 49

-- x.g, with 50 arrays
abbrev pub use_first_b : ClassT
use_first_b = with_x 50 (call (dot (value (inside 50 0) "x") (inside 50 2) "g" []) ∷ [])

-- class E [G] create h feature h (y: ARRAY [.. G ..]) do end end, with 50 arrays
abbrev pub class_e : ClassT
class_e =
    record (declares (there 7) "e"
    (routine_of (name (there 30) "h")
    (group (name (there 33) "y" ∷ []) (arrays there 36 50 "g") ∷ []) None [] [] ∷ [])) {
      formals = formal (there 10) "g" None ∷ [];
      creators = creators no_clients (name (there 20) "h" ∷ []) ∷ [];
    }

-- E [ARRAY [.. ANY ..]], with so many arrays
abbrev pub long_e : ℕ → TypeT
long_e n = written (at 37) (at 37) Plain "e" (arrays at 40 n "any" ∷ [])

-- class B feature f do print (create {E [ARRAY [.. ANY ..]]}.h (Void)) end end, with so many arrays
abbrev pub creates : ℕ → ClassT
creates n =
    f_does
    (call
    (apply (at 22) "print"
    (new (at 29) (long_e n) (Some (name (at (46 + 8 * n)) "h")) (void_value (at (49 + 8 * n)) ∷ []) ∷ []))
    ∷ [])

-- print (create {E [ARRAY [.. ANY ..]]}.h (Void)), with 50 arrays
abbrev pub long_creation_b : ClassT
long_creation_b = creates 50

-- print (create {E [ARRAY [.. ANY ..]]}.h (Void)), with 49 arrays
abbrev pub longest_creation_b : ClassT
longest_creation_b = creates 49

pub record LongTypeExamples : Type 0 where
  -- XLIM.7
  pub long_result : body_faults (long_result_b ∷ class_c ∷ []) ≡ breach "b" "f" code.Xlim 7 (at 442) "" ∷ []
  pub longest_result : body_faults (longest_result_b ∷ class_c ∷ []) ≡ []
  -- VUAR.2 is not judged
  pub long_argument : body_faults (long_argument_b ∷ class_c ∷ [])
      ≡ breach "b" "f" code.Xlim 7 (at 435) "" ∷ []
  -- VUAR.2
  pub longest_argument : body_faults (longest_argument_b ∷ class_c ∷ [])
      ≡ breach "b" "f" code.Vuar 2 (at 432) "h" ∷ []
  -- XUSE.2 comes first
  pub use_first : body_faults (use_first_b ∷ class_c ∷ []) ≡ breach "b" "f" code.Xuse 2 (at 437) "g" ∷ []
  -- XLIM.7, of a creation
  pub long_creation : body_faults (long_creation_b ∷ class_e ∷ []) ≡ breach "b" "f" code.Xlim 7 (at 29) "" ∷ []
  pub longest_creation : body_faults (longest_creation_b ∷ class_e ∷ [])
      ≡ breach "b" "f" code.Vuar 2 (at 441) "h" ∷ []

-- The rules of targets. Above each example stands its class text, in one line of the first file, or the
-- instructions in such a text; a second text is the second file.
use Rattle.std.specs.Prelude.{◌≡◌, [], ◌∷◌, Some, None}
use Rattle.eif_base.specs.declared.code.Code.TheVariants as code
use Rattle.eif_tree.specs.Tree.{void_value, current_value, test, assign, ClassT}
use Rattle.eif_tree.specs.View.{inss_from}
use Rattle.eif_system.specs.TreeForms.{procedure, attribute_of}
use Rattle.eif_body_rules_laws.specs.PlacedTexts.{at, name, plain, maybe, int, text, value, make, branch, if_true, group, routine_of, integer_constant, declares, breach, alone, f_does}

-- class B feature f (x: ANY) do x := x end end
abbrev pub argument_b : ClassT
argument_b = declares (at 7) "b"
    (routine_of (name (at 17) "f") (group (name (at 20) "x" ∷ []) (plain (at 23) "any") ∷ []) None []
    (assign (name (at 31) "x") (value (at 36) "x") ∷ []) ∷ [])

-- class B feature f do g := 1 end g: INTEGER do end end
abbrev pub routine_b : ClassT
routine_b = declares (at 7) "b"
    (procedure (name (at 17) "f") (inss_from (assign (name (at 22) "g") (int (at 27) 1) ∷ []))
    ∷ routine_of (name (at 33) "g") [] (Some (plain (at 36) "integer")) [] [] ∷ [])

-- class B feature f do g := 1 end g: INTEGER = 2 end
abbrev pub constant_b : ClassT
constant_b = declares (at 7) "b"
    (procedure (name (at 17) "f") (inss_from (assign (name (at 22) "g") (int (at 27) 1) ∷ []))
    ∷ integer_constant (name (at 33) "g") (Some (plain (at 36) "integer")) 2 ∷ [])

-- if attached Current as x then x := Current end
abbrev pub test_local_b : ClassT
test_local_b = f_does
    (if_true
    (branch (test (at 25) None (Some (name (at 45) "x")) (current_value (at 34)))
    (assign (name (at 52) "x") (current_value (at 57)) ∷ []) ∷ []) None ∷ [])

-- class B feature f (x: ANY) do create x end end
abbrev pub created_argument_b : ClassT
created_argument_b = declares (at 7) "b"
    (routine_of (name (at 17) "f") (group (name (at 20) "x" ∷ []) (plain (at 23) "any") ∷ []) None []
    (make (at 31) None (name (at 38) "x") None [] ∷ []) ∷ [])

-- class B feature g: ANY f: ANY local x: ANY do x := 1 g := x Result := g end end
abbrev pub variables_b : ClassT
variables_b = declares (at 7) "b"
    (attribute_of (name (at 17) "g") (plain (at 20) "any")
    ∷ routine_of (name (at 24) "f") [] (Some (plain (at 27) "any"))
    (group (name (at 37) "x" ∷ []) (plain (at 40) "any") ∷ [])
    (assign (name (at 47) "x") (int (at 52) 1)
    ∷ assign (name (at 54) "g") (value (at 59) "x")
    ∷ assign (name (at 61) "result") (value (at 71) "g") ∷ []) ∷ [])

-- class B feature f (x: INTEGER) do create x end end
abbrev pub target_first_b : ClassT
target_first_b = declares (at 7) "b"
    (routine_of (name (at 17) "f") (group (name (at 20) "x" ∷ []) (plain (at 23) "integer") ∷ []) None []
    (make (at 35) None (name (at 42) "x") None [] ∷ []) ∷ [])

-- class B feature f do f := 1 end end
abbrev pub procedure_b : ClassT
procedure_b = declares (at 7) "b"
    (procedure (name (at 17) "f") (inss_from (assign (name (at 22) "f") (int (at 27) 1) ∷ [])) ∷ [])

-- what can be a target
pub record VariableExamples : Type 0 where
  -- VBAR.1
  pub argument : alone argument_b ≡ breach "b" "f" code.Vbar 1 (at 31) "x" ∷ []
  -- a routine
  pub routine : alone routine_b ≡ breach "b" "f" code.Vbar 1 (at 22) "g" ∷ []
  -- a constant
  pub constant : alone constant_b ≡ breach "b" "f" code.Vbar 1 (at 22) "g" ∷ []
  -- a test's local
  pub test_local : alone test_local_b ≡ breach "b" "f" code.Vbar 1 (at 52) "x" ∷ []
  -- of a creation
  pub created_argument : alone created_argument_b ≡ breach "b" "f" code.Vbar 1 (at 38) "x" ∷ []
  -- kept
  pub variables : alone variables_b ≡ []
  -- VBAR comes before VGCI
  pub target_first : alone target_first_b ≡ breach "b" "f" code.Vbar 1 (at 42) "x" ∷ []
  -- a procedure
  pub procedure : alone procedure_b ≡ breach "b" "f" code.Vbar 1 (at 22) "f" ∷ []

-- class B feature f local x: STRING do x := 1 end end
abbrev pub unfit_b : ClassT
unfit_b = declares (at 7) "b"
    (routine_of (name (at 17) "f") [] None (group (name (at 25) "x" ∷ []) (plain (at 28) "string") ∷ [])
    (assign (name (at 38) "x") (int (at 43) 1) ∷ []) ∷ [])

-- class B feature f (x: STRING) do x := 1 end end
abbrev pub both_b : ClassT
both_b = declares (at 7) "b"
    (routine_of (name (at 17) "f") (group (name (at 20) "x" ∷ []) (plain (at 23) "string") ∷ []) None []
    (assign (name (at 34) "x") (int (at 39) 1) ∷ []) ∷ [])

-- class B feature g: STRING f do g := Void end end
abbrev pub unfit_attribute_b : ClassT
unfit_attribute_b = declares (at 7) "b"
    (attribute_of (name (at 17) "g") (plain (at 20) "string")
    ∷ procedure (name (at 27) "f") (inss_from (assign (name (at 32) "g") (void_value (at 37)) ∷ []))
    ∷ [])

-- class B feature f: INTEGER do Result := Void end end
abbrev pub unfit_result_b : ClassT
unfit_result_b = declares (at 7) "b"
    (routine_of (name (at 17) "f") [] (Some (plain (at 20) "integer")) []
    (assign (name (at 31) "result") (void_value (at 41)) ∷ []) ∷ [])

-- class B feature f (x: STRING) do x := nope end end
abbrev pub untyped_b : ClassT
untyped_b = declares (at 7) "b"
    (routine_of (name (at 17) "f") (group (name (at 20) "x" ∷ []) (plain (at 23) "string") ∷ []) None []
    (assign (name (at 34) "x") (value (at 39) "nope") ∷ []) ∷ [])

-- class B feature f local x: detachable STRING do x := "a" x := Void end end
abbrev pub declared_type_b : ClassT
declared_type_b = declares (at 7) "b"
    (routine_of (name (at 17) "f") [] None
    (group (name (at 25) "x" ∷ []) (maybe (at 28) (at 39) "string") ∷ [])
    (assign (name (at 49) "x") (text (at 54) "a")
    ∷ assign (name (at 58) "x") (void_value (at 63)) ∷ []) ∷ [])

-- class B feature f do g := "a" end g: INTEGER do end end
abbrev pub of_routine_b : ClassT
of_routine_b = declares (at 7) "b"
    (procedure (name (at 17) "f") (inss_from (assign (name (at 22) "g") (text (at 27) "a") ∷ []))
    ∷ routine_of (name (at 35) "g") [] (Some (plain (at 38) "integer")) [] [] ∷ [])

-- sources
pub record SourceExamples : Type 0 where
  -- VBAR.2
  pub unfit : alone unfit_b ≡ breach "b" "f" code.Vbar 2 (at 43) "x" ∷ []
  -- judged apart from VBAR.1
  pub both : alone both_b ≡ breach "b" "f" code.Vbar 1 (at 34) "x" ∷ breach "b" "f" code.Vbar 2 (at 39) "x" ∷ []
  -- of an attribute
  pub unfit_attribute : alone unfit_attribute_b ≡ breach "b" "f" code.Vbar 2 (at 37) "g" ∷ []
  -- of Result
  pub unfit_result : alone unfit_result_b ≡ breach "b" "f" code.Vbar 2 (at 41) "result" ∷ []
  -- judged where the source is typed
  pub untyped : alone untyped_b ≡ breach "b" "f" code.Veen 1 (at 39) "nope" ∷ []
  -- kept, by the declared type, whatever is known of the target
  pub declared_type : alone declared_type_b ≡ []
  -- by the result of a routine, which is no target
  pub of_routine : alone of_routine_b
      ≡ breach "b" "f" code.Vbar 1 (at 22) "g" ∷ breach "b" "f" code.Vbar 2 (at 27) "g" ∷ []

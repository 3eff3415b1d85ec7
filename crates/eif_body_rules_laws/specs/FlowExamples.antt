-- The rules of conditions, and reads of locals that are not surely set. Above each example stands its class text,
-- in one line of the first file, or the instructions in such a text; a second text is the second file.
use Rattle.std.specs.Prelude.{◌≡◌, true, List, [], ◌∷◌, Some, None, codes}
use Rattle.eif_base.specs.declared.code.Code.TheVariants as code
use Rattle.eif_tree.specs.declared.tree.Op.TheVariants as op
use Rattle.eif_tree.specs.Tree.{void_value, result_value, test, paren, unary, Ins, assign, call, no_clients, ClassT}
use Rattle.eif_tree.specs.View.{exs_from, inss_from}
use Rattle.eif_system.specs.TreeForms.{bare_class, procedure, attribute_of}
use Rattle.eif_body_rules_laws.specs.PlacedTexts.{at, name, plain, maybe, int, text, truth, value, apply, dot, operation, make, branch, if_true, repeat, check_all, group, routine_of, text_constant, deferred_of, requires, ensures, formal, features, declares, breach, alone, f_does}

-- class B feature f local x: STRING do .. end end
abbrev pub with_local : List Ins → ClassT
with_local body =
    declares (at 7) "b"
    (routine_of (name (at 17) "f") [] None (group (name (at 25) "x" ∷ []) (plain (at 28) "string") ∷ []) body
    ∷ [])

-- if 1 then elseif Void then end
abbrev pub condition_b : ClassT
condition_b = f_does (if_true (branch (int (at 25) 1) [] ∷ branch (void_value (at 39)) [] ∷ []) None ∷ [])

-- from until 1 loop end
abbrev pub exit_b : ClassT
exit_b = f_does (repeat [] [] (int (at 33) 1) [] None ∷ [])

-- class B feature f require 1 do check (2) end ensure 3 end invariant 4 end
abbrev pub assertions_b : ClassT
assertions_b = record (bare_class (at 7) (codes "b")) {
  features =
      features no_clients
      (ensures (int (at 53) 3 ∷ [])
      (requires (int (at 27) 1 ∷ [])
      (procedure (name (at 17) "f")
      (inss_from (check_all (paren (at 38) (int (at 39) 2) ∷ []) ∷ [])))) ∷ [])
      ∷ [];
  invariants = exs_from (int (at 69) 4 ∷ []);
}

-- from invariant 1 until True loop end
abbrev pub loop_invariant_b : ClassT
loop_invariant_b = f_does (repeat [] (int (at 37) 1 ∷ []) (truth (at 45) true) [] None ∷ [])

-- if nope then end
abbrev pub untyped_b : ClassT
untyped_b = f_does (if_true (branch (value (at 25) "nope") [] ∷ []) None ∷ [])

-- class B feature f (x: BOOLEAN) require x do if not x then end ensure x = x end invariant True end
abbrev pub conditions_b : ClassT
conditions_b = record (bare_class (at 7) (codes "b")) {
  features =
      features no_clients
      (ensures (operation (value (at 70) "x") (at 72) op.Equal (value (at 74) "x") ∷ [])
      (requires (value (at 40) "x" ∷ [])
      (routine_of (name (at 17) "f")
      (group (name (at 20) "x" ∷ []) (plain (at 23) "boolean") ∷ []) None []
      (if_true (branch (unary (at 48) op.Not (value (at 52) "x")) [] ∷ []) None ∷ []))) ∷ [])
      ∷ [];
  invariants = exs_from (truth (at 90) true ∷ []);
}

-- from until True loop variant True end
abbrev pub no_integer_b : ClassT
no_integer_b = f_does (repeat [] [] (truth (at 33) true) [] (Some (truth (at 51) true)) ∷ [])

-- from until True loop variant 1 end
abbrev pub integer_b : ClassT
integer_b = f_does (repeat [] [] (truth (at 33) true) [] (Some (int (at 51) 1)) ∷ [])

-- conditions
pub record ConditionExamples : Type 0 where
  -- VWBE.1
  pub condition : alone condition_b
      ≡ breach "b" "f" code.Vwbe 1 (at 25) "" ∷ breach "b" "f" code.Vwbe 1 (at 39) "" ∷ []
  -- an exit
  pub exit : alone exit_b ≡ breach "b" "f" code.Vwbe 1 (at 33) "" ∷ []
  -- assertions
  pub assertions : alone assertions_b
      ≡ breach "b" "f" code.Vwbe 1 (at 27) ""
      ∷ breach "b" "f" code.Vwbe 1 (at 38) ""
      ∷ breach "b" "f" code.Vwbe 1 (at 53) ""
      ∷ breach "b" "invariant" code.Vwbe 1 (at 69) "" ∷ []
  -- the invariant of a loop
  pub loop_invariant : alone loop_invariant_b ≡ breach "b" "f" code.Vwbe 1 (at 37) "" ∷ []
  -- judged where the condition is typed
  pub untyped : alone untyped_b ≡ breach "b" "f" code.Veen 1 (at 25) "nope" ∷ []
  -- kept
  pub conditions : alone conditions_b ≡ []
  -- VWBE.2
  pub no_integer : alone no_integer_b ≡ breach "b" "f" code.Vwbe 2 (at 51) "" ∷ []
  -- kept
  pub integer : alone integer_b ≡ []

-- print (x)
abbrev pub unset_b : ClassT
unset_b = with_local (call (apply (at 38) "print" (value (at 45) "x" ∷ [])) ∷ [])

-- class B feature f local x, y: STRING do x := "a" create y.make_empty print (x) print (y) end end
abbrev pub set_b : ClassT
set_b = declares (at 7) "b"
    (routine_of (name (at 17) "f") [] None
    (group (name (at 25) "x" ∷ name (at 28) "y" ∷ []) (plain (at 31) "string") ∷ [])
    (assign (name (at 41) "x") (text (at 46) "a")
    ∷ make (at 50) None (name (at 57) "y") (Some (name (at 59) "make_empty")) []
    ∷ call (apply (at 70) "print" (value (at 77) "x" ∷ []))
    ∷ call (apply (at 80) "print" (value (at 87) "y" ∷ [])) ∷ []) ∷ [])

-- x := x
abbrev pub in_source_b : ClassT
in_source_b = with_local (assign (name (at 38) "x") (value (at 43) "x") ∷ [])

-- if True then x := "a" end print (x)
abbrev pub one_branch_b : ClassT
one_branch_b = with_local
    (if_true (branch (truth (at 41) true) (assign (name (at 51) "x") (text (at 56) "a") ∷ []) ∷ []) None
    ∷ call (apply (at 64) "print" (value (at 71) "x" ∷ [])) ∷ [])

-- if True then x := "a" elseif True then create x.make_empty else x := "b" end print (x)
abbrev pub each_branch_b : ClassT
each_branch_b = with_local
    (if_true
    (branch (truth (at 41) true) (assign (name (at 51) "x") (text (at 56) "a") ∷ [])
    ∷ branch (truth (at 67) true)
    (make (at 77) None (name (at 84) "x") (Some (name (at 86) "make_empty")) [] ∷ []) ∷ [])
    (Some (assign (name (at 102) "x") (text (at 107) "b") ∷ []))
    ∷ call (apply (at 115) "print" (value (at 122) "x" ∷ [])) ∷ [])

-- from until True loop x := "a" end print (x)
abbrev pub loop_body_b : ClassT
loop_body_b = with_local
    (repeat [] [] (truth (at 49) true) (assign (name (at 59) "x") (text (at 64) "a") ∷ []) None
    ∷ call (apply (at 72) "print" (value (at 79) "x" ∷ [])) ∷ [])

-- from x := "a" until x = Void loop print (x) end print (x)
abbrev pub loop_start_b : ClassT
loop_start_b = with_local
    (repeat (assign (name (at 43) "x") (text (at 48) "a") ∷ []) []
    (operation (value (at 58) "x") (at 60) op.Equal (void_value (at 62)))
    (call (apply (at 72) "print" (value (at 79) "x" ∷ [])) ∷ []) None
    ∷ call (apply (at 86) "print" (value (at 93) "x" ∷ [])) ∷ [])

-- class B feature f local x: INTEGER y: detachable STRING do print (x) print (y) end end
abbrev pub self_initialising_b : ClassT
self_initialising_b = declares (at 7) "b"
    (routine_of (name (at 17) "f") [] None
    (group (name (at 25) "x" ∷ []) (plain (at 28) "integer")
    ∷ group (name (at 36) "y" ∷ []) (maybe (at 39) (at 50) "string") ∷ [])
    (call (apply (at 60) "print" (value (at 67) "x" ∷ []))
    ∷ call (apply (at 70) "print" (value (at 77) "y" ∷ [])) ∷ []) ∷ [])

-- class B [G] feature f local x: G do print (x) end end
abbrev pub formal_type_b : ClassT
formal_type_b = record (bare_class (at 7) (codes "b")) {
  formals = formal (at 10) "g" None ∷ [];
  features =
      features no_clients
      (routine_of (name (at 21) "f") [] None (group (name (at 29) "x" ∷ []) (plain (at 32) "g") ∷ [])
      (call (apply (at 37) "print" (value (at 44) "x" ∷ [])) ∷ []) ∷ [])
      ∷ [];
}

-- print (x.nope)
abbrev pub untyped_call_b : ClassT
untyped_call_b = with_local (call (apply (at 38) "print" (dot (value (at 45) "x") (at 47) "nope" [] ∷ [])) ∷ [])

-- x
abbrev pub instruction_b : ClassT
instruction_b = with_local (call (value (at 38) "x") ∷ [])

-- check x /= Void end
abbrev pub in_assertion_b : ClassT
in_assertion_b = with_local
    (check_all (operation (value (at 44) "x") (at 46) op.NotEqual (void_value (at 49)) ∷ []) ∷ [])

-- if attached "a" as x then print (x) end
abbrev pub hidden_b : ClassT
hidden_b = with_local
    (if_true
    (branch (test (at 41) None (Some (name (at 57) "x")) (text (at 50) "a"))
    (call (apply (at 64) "print" (value (at 71) "x" ∷ [])) ∷ []) ∷ []) None ∷ [])

-- from invariant x /= Void until x = Void loop print (x) variant x.count end
abbrev pub in_loop_b : ClassT
in_loop_b = with_local
    (repeat [] (operation (value (at 53) "x") (at 55) op.NotEqual (void_value (at 58)) ∷ [])
    (operation (value (at 69) "x") (at 71) op.Equal (void_value (at 73)))
    (call (apply (at 83) "print" (value (at 90) "x" ∷ [])) ∷ [])
    (Some (dot (value (at 101) "x") (at 103) "count" [])) ∷ [])

-- reads of locals
pub record LocalExamples : Type 0 where
  -- VEVI.1
  pub unset : alone unset_b ≡ breach "b" "f" code.Vevi 1 (at 45) "x" ∷ []
  -- kept
  pub set : alone set_b ≡ []
  -- in its own source
  pub in_source : alone in_source_b ≡ breach "b" "f" code.Vevi 1 (at 43) "x" ∷ []
  -- set in one branch
  pub one_branch : alone one_branch_b ≡ breach "b" "f" code.Vevi 1 (at 71) "x" ∷ []
  -- kept, set in each branch
  pub each_branch : alone each_branch_b ≡ []
  -- set in the body of a loop
  pub loop_body : alone loop_body_b ≡ breach "b" "f" code.Vevi 1 (at 79) "x" ∷ []
  -- kept, set after from
  pub loop_start : alone loop_start_b ≡ []
  -- kept, always set
  pub self_initialising : alone self_initialising_b ≡ []
  -- of a formal
  pub formal_type : alone formal_type_b ≡ breach "b" "f" code.Vevi 1 (at 44) "x" ∷ []
  -- in a call without type
  pub untyped_call : alone untyped_call_b
      ≡ breach "b" "f" code.Vuex 1 (at 47) "nope" ∷ breach "b" "f" code.Vevi 1 (at 45) "x" ∷ []
  -- which is not read as an instruction
  pub instruction : alone instruction_b ≡ breach "b" "f" code.Xuse 2 (at 38) "x" ∷ []
  -- in an assertion
  pub in_assertion : alone in_assertion_b ≡ breach "b" "f" code.Vevi 1 (at 44) "x" ∷ []
  -- hidden by a test's local
  pub hidden : alone hidden_b ≡ breach "b" "f" code.Vuot 1 (at 57) "x" ∷ []
  -- in each part of a loop
  pub in_loop : alone in_loop_b
      ≡ breach "b" "f" code.Vevi 1 (at 53) "x"
      ∷ breach "b" "f" code.Vevi 1 (at 69) "x"
      ∷ breach "b" "f" code.Vevi 1 (at 101) "x"
      ∷ breach "b" "f" code.Vevi 1 (at 90) "x" ∷ []

-- class B feature f: STRING do print (Result) Result := "a" end end
abbrev pub result_unset_b : ClassT
result_unset_b = declares (at 7) "b"
    (routine_of (name (at 17) "f") [] (Some (plain (at 20) "string")) []
    (call (apply (at 30) "print" (result_value (at 37) ∷ []))
    ∷ assign (name (at 45) "result") (text (at 55) "a") ∷ []) ∷ [])

-- class B feature f: STRING do ensure Result /= Void end end
abbrev pub result_at_end_b : ClassT
result_at_end_b = declares (at 7) "b"
    (ensures (operation (result_value (at 37)) (at 44) op.NotEqual (void_value (at 47)) ∷ [])
    (routine_of (name (at 17) "f") [] (Some (plain (at 20) "string")) [] []) ∷ [])

-- class B feature f: STRING do Result := "a" end end
abbrev pub result_set_b : ClassT
result_set_b = declares (at 7) "b"
    (routine_of (name (at 17) "f") [] (Some (plain (at 20) "string")) []
    (assign (name (at 30) "result") (text (at 40) "a") ∷ []) ∷ [])

-- class B feature f: STRING do nope end end
abbrev pub result_always_b : ClassT
result_always_b = declares (at 7) "b"
    (routine_of (name (at 17) "f") [] (Some (plain (at 20) "string")) []
    (call (value (at 30) "nope") ∷ []) ∷ [])

-- class B feature f: INTEGER do end end
abbrev pub result_self_initialising_b : ClassT
result_self_initialising_b =
    declares (at 7) "b" (routine_of (name (at 17) "f") [] (Some (plain (at 20) "integer")) [] [] ∷ [])

-- deferred class B feature f: STRING deferred end g: STRING h: STRING = "a" end
abbrev pub result_no_body_b : ClassT
result_no_body_b = record (bare_class (at 16) (codes "b")) {
  is_deferred = true;
  features =
      features no_clients
      (deferred_of (name (at 26) "f") [] (Some (plain (at 29) "string"))
      ∷ attribute_of (name (at 49) "g") (plain (at 52) "string")
      ∷ text_constant (name (at 59) "h") (Some (plain (at 62) "string")) "a" ∷ [])
      ∷ [];
}

-- Result
pub record ResultExamples : Type 0 where
  -- VEVI.1
  pub unset : alone result_unset_b ≡ breach "b" "f" code.Vevi 1 (at 37) "result" ∷ []
  -- VEVI.2: in the postcondition Result counts as set
  pub at_end : alone result_at_end_b ≡ breach "b" "f" code.Vevi 2 (at 17) "result" ∷ []
  -- kept
  pub set : alone result_set_b ≡ []
  -- judged whatever else is broken
  pub always : alone result_always_b
      ≡ breach "b" "f" code.Veen 1 (at 30) "nope" ∷ breach "b" "f" code.Vevi 2 (at 17) "result" ∷ []
  -- kept, always set
  pub self_initialising : alone result_self_initialising_b ≡ []
  -- kept, without a body
  pub no_body : alone result_no_body_b ≡ []

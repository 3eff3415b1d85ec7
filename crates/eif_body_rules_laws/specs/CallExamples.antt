-- The rules of names and calls. Above each example stands its class text, in one line of the first file, or the
-- instructions in such a text; a second text is the second file.
use Rattle.std.specs.Prelude.{◌≡◌, List, [], ◌∷◌, Some, None, codes}
use Rattle.eif_base.specs.declared.code.Code.TheVariants as code
use Rattle.eif_tree.specs.declared.tree.Op.TheVariants as op
use Rattle.eif_tree.specs.Tree.{void_value, current_value, result_value, Ins, assign, call, no_clients, ClassT}
use Rattle.eif_tree.specs.View.{exs_from, inss_from}
use Rattle.eif_system.specs.TreeForms.{bare_class, parent_clause, procedure}
use Rattle.eif_body_rules.specs.BodyRules.{body_faults}
use Rattle.eif_body_rules_laws.specs.PlacedTexts.{at, there, third, name, plain, maybe, int, text, value, apply, dot, parent_version, new, operation, make, group, routine_of, requires, ensures, clients, creators, features, declares, breach, alone, f_does}

-- class P feature f do end g: INTEGER do end end
abbrev pub class_p : ClassT
class_p =
    declares (there 7) "p"
    (procedure (name (there 17) "f") (inss_from [])
    ∷ routine_of (name (there 26) "g") [] (Some (plain (there 29) "integer")) [] [] ∷ [])

-- class C create make feature make (i: INTEGER) do end feature {NONE} h (i: INTEGER) do end end
abbrev pub class_c : ClassT
class_c =
    record (bare_class (there 7) (codes "c")) {
      creators = creators no_clients (name (there 16) "make" ∷ []) ∷ [];
      features =
          features no_clients
          (routine_of (name (there 29) "make")
          (group (name (there 35) "i" ∷ []) (plain (there 38) "integer") ∷ []) None [] [] ∷ [])
          ∷ features (clients (name (there 63) "none" ∷ []))
          (routine_of (name (there 69) "h") (group (name (there 72) "i" ∷ []) (plain (there 75) "integer") ∷ [])
          None [] [] ∷ []) ∷ [];
    }

-- class Q feature f do end end
abbrev pub class_q : ClassT
class_q = declares (third 7) "q" (procedure (name (third 17) "f") (inss_from []) ∷ [])

-- class C2 feature {P} g do end end
abbrev pub class_c2 : ClassT
class_c2 =
    record (bare_class (third 7) (codes "c2")) {
      features =
          features (clients (name (third 19) "p" ∷ [])) (procedure (name (third 22) "g") (inss_from []) ∷ [])
          ∷ [];
    }

-- class B feature f (x: STRING) do .. end end
abbrev pub with_string : List Ins → ClassT
with_string body =
    declares (at 7) "b"
    (routine_of (name (at 17) "f") (group (name (at 20) "x" ∷ []) (plain (at 23) "string") ∷ []) None [] body
    ∷ [])

-- class B feature f (x, y: STRING) do .. end end
abbrev pub with_strings : List Ins → ClassT
with_strings body =
    declares (at 7) "b"
    (routine_of (name (at 17) "f")
    (group (name (at 20) "x" ∷ name (at 23) "y" ∷ []) (plain (at 26) "string") ∷ []) None [] body ∷ [])

-- class B inherit P redefine f end feature f do Precursor end end
abbrev pub redefined_b : ClassT
redefined_b = record (bare_class (at 7) (codes "b")) {
  parents = record (parent_clause (plain (at 17) "p")) { redefines = name (at 28) "f" ∷ [] } ∷ [];
  features =
      features no_clients
      (procedure (name (at 42) "f") (inss_from (call (parent_version (at 47) None []) ∷ [])) ∷ [])
      ∷ [];
}

-- class B inherit P feature h do Precursor end end
abbrev pub not_redefined_b : ClassT
not_redefined_b = record (bare_class (at 7) (codes "b")) {
  parents = parent_clause (plain (at 17) "p") ∷ [];
  features =
      features no_clients
      (procedure (name (at 27) "h") (inss_from (call (parent_version (at 32) None []) ∷ [])) ∷ [])
      ∷ [];
}

-- class B inherit P redefine f end feature f do Precursor {ANY} end end
abbrev pub other_parent_b : ClassT
other_parent_b = record (bare_class (at 7) (codes "b")) {
  parents = record (parent_clause (plain (at 17) "p")) { redefines = name (at 28) "f" ∷ [] } ∷ [];
  features =
      features no_clients
      (procedure (name (at 42) "f")
      (inss_from (call (parent_version (at 47) (Some (name (at 58) "any")) []) ∷ [])) ∷ [])
      ∷ [];
}

-- class B inherit P redefine f end feature f do Precursor {P} end end
abbrev pub named_parent_b : ClassT
named_parent_b = record (bare_class (at 7) (codes "b")) {
  parents = record (parent_clause (plain (at 17) "p")) { redefines = name (at 28) "f" ∷ [] } ∷ [];
  features =
      features no_clients
      (procedure (name (at 42) "f")
      (inss_from (call (parent_version (at 47) (Some (name (at 58) "p")) []) ∷ [])) ∷ [])
      ∷ [];
}

-- class B inherit P redefine f end P redefine f end feature f do Precursor {P} end end
abbrev pub twice_b : ClassT
twice_b = record (bare_class (at 7) (codes "b")) {
  parents = record (parent_clause (plain (at 17) "p")) { redefines = name (at 28) "f" ∷ [] }
      ∷ record (parent_clause (plain (at 34) "p")) { redefines = name (at 45) "f" ∷ [] }
      ∷ [];
  features =
      features no_clients
      (procedure (name (at 59) "f")
      (inss_from (call (parent_version (at 64) (Some (name (at 75) "p")) []) ∷ [])) ∷ [])
      ∷ [];
}

-- class B inherit P redefine g end feature g: INTEGER do end invariant Precursor = 1 end
abbrev pub in_invariant_b : ClassT
in_invariant_b = record (bare_class (at 7) (codes "b")) {
  parents = record (parent_clause (plain (at 17) "p")) { redefines = name (at 28) "g" ∷ [] } ∷ [];
  features =
      features no_clients
      (routine_of (name (at 42) "g") [] (Some (plain (at 45) "integer")) [] [] ∷ [])
      ∷ [];
  invariants =
      exs_from (operation (parent_version (at 70) None []) (at 80) op.Equal (int (at 82) 1) ∷ []);
}

-- Precursor (nope)
abbrev pub arguments_first_b : ClassT
arguments_first_b = f_does (call (parent_version (at 22) None (value (at 33) "nope" ∷ [])) ∷ [])

-- class B inherit P redefine f end feature f do Precursor {NOPE} end end
abbrev pub unknown_parent_b : ClassT
unknown_parent_b = record (bare_class (at 7) (codes "b")) {
  parents = record (parent_clause (plain (at 17) "p")) { redefines = name (at 28) "f" ∷ [] } ∷ [];
  features =
      features no_clients
      (procedure (name (at 42) "f")
      (inss_from (call (parent_version (at 47) (Some (name (at 58) "nope")) []) ∷ [])) ∷ [])
      ∷ [];
}

-- class B inherit P redefine f end Q redefine f end feature f do Precursor end end
abbrev pub two_parents_b : ClassT
two_parents_b = record (bare_class (at 7) (codes "b")) {
  parents =
      record (parent_clause (plain (at 17) "p")) { redefines = name (at 28) "f" ∷ [] }
      ∷ record (parent_clause (plain (at 34) "q")) { redefines = name (at 45) "f" ∷ [] }
      ∷ [];
  features =
      features no_clients
      (procedure (name (at 59) "f") (inss_from (call (parent_version (at 64) None []) ∷ [])) ∷ [])
      ∷ [];
}

-- class B inherit P redefine f end Q redefine f end feature f do Precursor {Q} end end
abbrev pub one_of_two_b : ClassT
one_of_two_b = record (bare_class (at 7) (codes "b")) {
  parents =
      record (parent_clause (plain (at 17) "p")) { redefines = name (at 28) "f" ∷ [] }
      ∷ record (parent_clause (plain (at 34) "q")) { redefines = name (at 45) "f" ∷ [] }
      ∷ [];
  features =
      features no_clients
      (procedure (name (at 59) "f")
      (inss_from (call (parent_version (at 64) (Some (name (at 75) "q")) []) ∷ [])) ∷ [])
      ∷ [];
}

-- class B inherit P redefine f end Q undefine f end feature f do Precursor end end
abbrev pub one_undefined_b : ClassT
one_undefined_b = record (bare_class (at 7) (codes "b")) {
  parents =
      record (parent_clause (plain (at 17) "p")) { redefines = name (at 28) "f" ∷ [] }
      ∷ record (parent_clause (plain (at 34) "q")) { undefines = name (at 45) "f" ∷ [] }
      ∷ [];
  features =
      features no_clients
      (procedure (name (at 59) "f") (inss_from (call (parent_version (at 64) None []) ∷ [])) ∷ [])
      ∷ [];
}

-- Precursor
pub record PrecursorExamples : Type 0 where
  -- VDPR.1 is kept
  pub redefined : body_faults (redefined_b ∷ class_p ∷ []) ≡ []
  -- VDPR.1
  pub not_redefined : body_faults (not_redefined_b ∷ class_p ∷ []) ≡ breach "b" "h" code.Vdpr 1 (at 32) "h" ∷ []
  -- of another parent
  pub other_parent : body_faults (other_parent_b ∷ class_p ∷ []) ≡ breach "b" "f" code.Vdpr 1 (at 47) "f" ∷ []
  -- of the parent
  pub named_parent : body_faults (named_parent_b ∷ class_p ∷ []) ≡ []
  -- two clauses of one parent
  pub twice : body_faults (twice_b ∷ class_p ∷ []) ≡ breach "b" "f" code.Vdpr 1 (at 64) "f" ∷ []
  -- in the class invariant
  pub in_invariant : body_faults (in_invariant_b ∷ class_p ∷ [])
      ≡ breach "b" "invariant" code.Vdpr 1 (at 70) "invariant" ∷ []
  -- judged where the arguments are typed
  pub arguments_first : alone arguments_first_b ≡ breach "b" "f" code.Veen 1 (at 33) "nope" ∷ []
  -- of no class
  pub unknown_parent : body_faults (unknown_parent_b ∷ class_p ∷ []) ≡ breach "b" "f" code.Vdpr 1 (at 47) "f" ∷ []
  -- of two parents
  pub two_parents : body_faults (two_parents_b ∷ class_p ∷ class_q ∷ [])
      ≡ breach "b" "f" code.Vdpr 1 (at 64) "f" ∷ []
  -- kept, of one of the two
  pub one_of_two : body_faults (one_of_two_b ∷ class_p ∷ class_q ∷ []) ≡ []
  -- kept, where one of the two is undefined
  pub one_undefined : body_faults (one_undefined_b ∷ class_p ∷ class_q ∷ []) ≡ []

-- nope
abbrev pub unknown_b : ClassT
unknown_b = f_does (call (value (at 22) "nope") ∷ [])

-- nope := 1
abbrev pub unknown_target_b : ClassT
unknown_target_b = f_does (assign (name (at 22) "nope") (int (at 30) 1) ∷ [])

-- create nope
abbrev pub unknown_created_b : ClassT
unknown_created_b = f_does (make (at 22) None (name (at 29) "nope") None [] ∷ [])

-- class B feature f (x: ANY) do print (x) f (x) end end
abbrev pub known_b : ClassT
known_b = declares (at 7) "b"
    (routine_of (name (at 17) "f") (group (name (at 20) "x" ∷ []) (plain (at 23) "any") ∷ []) None []
    (call (apply (at 31) "print" (value (at 38) "x" ∷ []))
    ∷ call (apply (at 41) "f" (value (at 44) "x" ∷ [])) ∷ []) ∷ [])

-- class B feature f local x: INTEGER do x := 1 ensure x = 1 end end
abbrev pub local_in_body_b : ClassT
local_in_body_b = declares (at 7) "b"
    (ensures (operation (value (at 53) "x") (at 55) op.Equal (int (at 57) 1) ∷ [])
    (routine_of (name (at 17) "f") [] None
    (group (name (at 25) "x" ∷ []) (plain (at 28) "integer") ∷ [])
    (assign (name (at 39) "x") (int (at 44) 1) ∷ [])) ∷ [])

-- print (Result)
abbrev pub no_result_b : ClassT
no_result_b = f_does (call (apply (at 22) "print" (result_value (at 29) ∷ [])) ∷ [])

-- Result := 1
abbrev pub no_result_target_b : ClassT
no_result_target_b = f_does (assign (name (at 22) "result") (int (at 32) 1) ∷ [])

-- class B feature f: INTEGER require Result = 1 do end end
abbrev pub result_in_precondition_b : ClassT
result_in_precondition_b = declares (at 7) "b"
    (requires (operation (result_value (at 36)) (at 43) op.Equal (int (at 45) 1) ∷ [])
    (routine_of (name (at 17) "f") [] (Some (plain (at 20) "integer")) [] []) ∷ [])

-- class B feature f: INTEGER do Result := 1 print (Result) ensure Result = 1 end end
abbrev pub result_b : ClassT
result_b = declares (at 7) "b"
    (ensures (operation (result_value (at 65)) (at 72) op.Equal (int (at 74) 1) ∷ [])
    (routine_of (name (at 17) "f") [] (Some (plain (at 20) "integer")) []
    (assign (name (at 31) "result") (int (at 41) 1)
    ∷ call (apply (at 43) "print" (result_value (at 50) ∷ [])) ∷ [])) ∷ [])

-- names
pub record NameExamples : Type 0 where
  -- VEEN.1
  pub unknown : alone unknown_b ≡ breach "b" "f" code.Veen 1 (at 22) "nope" ∷ []
  -- a target
  pub unknown_target : alone unknown_target_b ≡ breach "b" "f" code.Veen 1 (at 22) "nope" ∷ []
  -- a target of a creation
  pub unknown_created : alone unknown_created_b ≡ breach "b" "f" code.Veen 1 (at 29) "nope" ∷ []
  -- kept
  pub known : alone known_b ≡ []
  -- a local is visible in the body alone
  pub local_in_body : alone local_in_body_b ≡ breach "b" "f" code.Veen 1 (at 53) "x" ∷ []
  -- VEEN.2
  pub no_result : alone no_result_b ≡ breach "b" "f" code.Veen 2 (at 29) "result" ∷ []
  -- a target
  pub no_result_target : alone no_result_target_b ≡ breach "b" "f" code.Veen 2 (at 22) "result" ∷ []
  -- in a precondition
  pub result_in_precondition : alone result_in_precondition_b ≡ breach "b" "f" code.Veen 2 (at 36) "result" ∷ []
  -- kept
  pub result : alone result_b ≡ []

-- class B feature f (x: detachable STRING) do print (x.count) end end
abbrev pub detachable_target_b : ClassT
detachable_target_b = declares (at 7) "b"
    (routine_of (name (at 17) "f") (group (name (at 20) "x" ∷ []) (maybe (at 23) (at 34) "string") ∷ [])
    None [] (call (apply (at 45) "print" (dot (value (at 52) "x") (at 54) "count" [] ∷ [])) ∷ []) ∷ [])

-- print (Void.out)
abbrev pub void_target_b : ClassT
void_target_b = f_does (call (apply (at 22) "print" (dot (void_value (at 29)) (at 34) "out" [] ∷ [])) ∷ [])

-- print (x.count)
abbrev pub attached_target_b : ClassT
attached_target_b =
    with_string (call (apply (at 34) "print" (dot (value (at 41) "x") (at 43) "count" [] ∷ [])) ∷ [])

-- x.nope
abbrev pub no_feature_b : ClassT
no_feature_b = with_string (call (dot (value (at 34) "x") (at 36) "nope" []) ∷ [])

-- class B feature f (x: detachable STRING) do x.nope end end
abbrev pub detachable_first_b : ClassT
detachable_first_b = declares (at 7) "b"
    (routine_of (name (at 17) "f") (group (name (at 20) "x" ∷ []) (maybe (at 23) (at 34) "string") ∷ [])
    None [] (call (dot (value (at 45) "x") (at 47) "nope" []) ∷ []) ∷ [])

-- class B feature f (x: C) do x.g end end
abbrev pub not_available_b : ClassT
not_available_b = declares (at 7) "b"
    (routine_of (name (at 17) "f") (group (name (at 20) "x" ∷ []) (plain (at 23) "c") ∷ []) None []
    (call (dot (value (at 29) "x") (at 31) "g" []) ∷ []) ∷ [])

-- class C feature {NONE} g do end end
abbrev pub not_available_c : ClassT
not_available_c = record (bare_class (there 7) (codes "c")) {
  features =
      features (clients (name (there 18) "none" ∷ []))
      (procedure (name (there 24) "g") (inss_from []) ∷ [])
      ∷ [];
}

-- class B feature {C} g do end f do Current.g end end
abbrev pub to_another_class_alone_b : ClassT
to_another_class_alone_b = record (bare_class (at 7) (codes "b")) {
  features =
      features (clients (name (at 18) "c" ∷ []))
      (procedure (name (at 21) "g") (inss_from [])
      ∷ procedure (name (at 30) "f")
      (inss_from (call (dot (current_value (at 35)) (at 43) "g" []) ∷ [])) ∷ [])
      ∷ [];
}

-- class C end
abbrev pub to_another_class_alone_c : ClassT
to_another_class_alone_c = bare_class (there 7) (codes "c")

-- class B feature f (x: C) do x.g end end
abbrev pub available_b : ClassT
available_b = declares (at 7) "b"
    (routine_of (name (at 17) "f") (group (name (at 20) "x" ∷ []) (plain (at 23) "c") ∷ []) None []
    (call (dot (value (at 29) "x") (at 31) "g" []) ∷ []) ∷ [])

-- class C feature {B} g do end end
abbrev pub available_c : ClassT
available_c = record (bare_class (there 7) (codes "c")) {
  features =
      features (clients (name (there 18) "b" ∷ []))
      (procedure (name (there 21) "g") (inss_from []) ∷ [])
      ∷ [];
}

-- class B feature f (x: C) do x.h ("a") end end
abbrev pub availability_first_b : ClassT
availability_first_b = declares (at 7) "b"
    (routine_of (name (at 17) "f") (group (name (at 20) "x" ∷ []) (plain (at 23) "c") ∷ []) None []
    (call (dot (value (at 29) "x") (at 31) "h" (text (at 34) "a" ∷ [])) ∷ []) ∷ [])

-- class B inherit P feature f2 (x: C2) do x.g end end
abbrev pub available_to_heirs_b : ClassT
available_to_heirs_b = record (bare_class (at 7) (codes "b")) {
  parents = parent_clause (plain (at 17) "p") ∷ [];
  features =
      features no_clients
      (routine_of (name (at 27) "f2") (group (name (at 31) "x" ∷ []) (plain (at 34) "c2") ∷ []) None []
      (call (dot (value (at 41) "x") (at 43) "g" []) ∷ []) ∷ [])
      ∷ [];
}

-- calls on a target
pub record QualifiedExamples : Type 0 where
  -- VUTA.1
  pub detachable_target : alone detachable_target_b ≡ breach "b" "f" code.Vuta 1 (at 52) "count" ∷ []
  -- Void
  pub void_target : alone void_target_b ≡ breach "b" "f" code.Vuta 1 (at 29) "out" ∷ []
  -- kept
  pub attached_target : alone attached_target_b ≡ []
  -- VUEX.1
  pub no_feature : alone no_feature_b ≡ breach "b" "f" code.Vuex 1 (at 36) "nope" ∷ []
  -- VUTA comes first
  pub detachable_first : alone detachable_first_b ≡ breach "b" "f" code.Vuta 1 (at 45) "nope" ∷ []
  -- VUEX.2
  pub not_available : body_faults (not_available_b ∷ not_available_c ∷ [])
      ≡ breach "b" "f" code.Vuex 2 (at 31) "g" ∷ []
  -- on Current, available to another class alone
  pub to_another_class_alone : body_faults (to_another_class_alone_b ∷ to_another_class_alone_c ∷ [])
      ≡ breach "b" "f" code.Vuex 2 (at 43) "g" ∷ []
  -- kept
  pub available : body_faults (available_b ∷ available_c ∷ []) ≡ []
  -- VUEX comes before VUAR
  pub availability_first : body_faults (availability_first_b ∷ class_c ∷ [])
      ≡ breach "b" "f" code.Vuex 2 (at 31) "h" ∷ []
  -- kept, available to P, of which B is an heir
  pub available_to_heirs : body_faults (available_to_heirs_b ∷ class_p ∷ class_c2 ∷ []) ≡ []

-- f (1)
abbrev pub too_many_b : ClassT
too_many_b = f_does (call (apply (at 22) "f" (int (at 25) 1 ∷ [])) ∷ [])

-- x.append
abbrev pub too_few_b : ClassT
too_few_b = with_string (call (dot (value (at 34) "x") (at 36) "append" []) ∷ [])

-- print (x (1))
abbrev pub of_entity_b : ClassT
of_entity_b = with_string (call (apply (at 34) "print" (apply (at 41) "x" (int (at 44) 1 ∷ []) ∷ [])) ∷ [])

-- class B inherit P redefine f end feature f do Precursor (1) end end
abbrev pub of_precursor_b : ClassT
of_precursor_b = record (bare_class (at 7) (codes "b")) {
  parents = record (parent_clause (plain (at 17) "p")) { redefines = name (at 28) "f" ∷ [] } ∷ [];
  features =
      features no_clients
      (procedure (name (at 42) "f")
      (inss_from (call (parent_version (at 47) None (int (at 58) 1 ∷ [])) ∷ [])) ∷ [])
      ∷ [];
}

-- print (create {STRING}.make_empty (1))
abbrev pub of_creation_b : ClassT
of_creation_b = f_does
    (call
    (apply (at 22) "print"
    (new (at 29) (plain (at 37) "string") (Some (name (at 45) "make_empty")) (int (at 57) 1 ∷ [])
    ∷ [])) ∷ [])

-- f (1, Void)
abbrev pub unfit_b : ClassT
unfit_b = with_strings (call (apply (at 37) "f" (int (at 40) 1 ∷ void_value (at 43) ∷ [])) ∷ [])

-- f (1)
abbrev pub count_first_b : ClassT
count_first_b = with_strings (call (apply (at 37) "f" (int (at 40) 1 ∷ [])) ∷ [])

-- f (x, "a")
abbrev pub fit_b : ClassT
fit_b = with_strings (call (apply (at 37) "f" (value (at 40) "x" ∷ text (at 43) "a" ∷ [])) ∷ [])

-- arguments
pub record ArgumentExamples : Type 0 where
  -- VUAR.1
  pub too_many : alone too_many_b ≡ breach "b" "f" code.Vuar 1 (at 22) "f" ∷ []
  -- on a target
  pub too_few : alone too_few_b ≡ breach "b" "f" code.Vuar 1 (at 36) "append" ∷ []
  -- of an argument
  pub of_entity : alone of_entity_b ≡ breach "b" "f" code.Vuar 1 (at 41) "x" ∷ []
  -- of Precursor
  pub of_precursor : body_faults (of_precursor_b ∷ class_p ∷ []) ≡ breach "b" "f" code.Vuar 1 (at 47) "f" ∷ []
  -- of a creator
  pub of_creation : alone of_creation_b ≡ breach "b" "f" code.Vuar 1 (at 45) "make_empty" ∷ []
  -- VUAR.2
  pub unfit : alone unfit_b ≡ breach "b" "f" code.Vuar 2 (at 40) "f" ∷ breach "b" "f" code.Vuar 2 (at 43) "f" ∷ []
  -- VUAR.1 comes first
  pub count_first : alone count_first_b ≡ breach "b" "f" code.Vuar 1 (at 37) "f" ∷ []
  -- kept
  pub fit : alone fit_b ≡ []

-- print (f)
abbrev pub no_value_b : ClassT
no_value_b = f_does (call (apply (at 22) "print" (value (at 29) "f" ∷ [])) ∷ [])

-- print (x.append (x))
abbrev pub no_value_of_call_b : ClassT
no_value_of_call_b = with_string
    (call
    (apply (at 34) "print" (dot (value (at 41) "x") (at 43) "append" (value (at 51) "x" ∷ []) ∷ []))
    ∷ [])

-- x.count
abbrev pub result_unused_b : ClassT
result_unused_b = with_string (call (dot (value (at 34) "x") (at 36) "count" []) ∷ [])

-- class B feature f local x: STRING do x end end
abbrev pub entity_unused_b : ClassT
entity_unused_b = declares (at 7) "b"
    (routine_of (name (at 17) "f") [] None (group (name (at 25) "x" ∷ []) (plain (at 28) "string") ∷ [])
    (call (value (at 38) "x") ∷ []) ∷ [])

-- print (x.count) x.append (x)
abbrev pub used_b : ClassT
used_b = with_string
    (call (apply (at 34) "print" (dot (value (at 41) "x") (at 43) "count" [] ∷ []))
    ∷ call (dot (value (at 50) "x") (at 52) "append" (value (at 60) "x" ∷ [])) ∷ [])

-- f (f)
abbrev pub used_arguments_first_b : ClassT
used_arguments_first_b = f_does (call (apply (at 22) "f" (value (at 25) "f" ∷ [])) ∷ [])

-- class B feature f (i: INTEGER) do print (f ("a")) end end
abbrev pub argument_first_b : ClassT
argument_first_b = declares (at 7) "b"
    (routine_of (name (at 17) "f") (group (name (at 20) "i" ∷ []) (plain (at 23) "integer") ∷ []) None []
    (call (apply (at 35) "print" (apply (at 42) "f" (text (at 45) "a" ∷ []) ∷ [])) ∷ []) ∷ [])

-- class B inherit P redefine f end feature f do print (Precursor) end end
abbrev pub no_value_of_precursor_b : ClassT
no_value_of_precursor_b = record (bare_class (at 7) (codes "b")) {
  parents = record (parent_clause (plain (at 17) "p")) { redefines = name (at 28) "f" ∷ [] } ∷ [];
  features =
      features no_clients
      (procedure (name (at 42) "f")
      (inss_from (call (apply (at 47) "print" (parent_version (at 54) None [] ∷ [])) ∷ [])) ∷ [])
      ∷ [];
}

-- class B inherit P redefine g end feature g: INTEGER do Precursor end end
abbrev pub precursor_unused_b : ClassT
precursor_unused_b = record (bare_class (at 7) (codes "b")) {
  parents = record (parent_clause (plain (at 17) "p")) { redefines = name (at 28) "g" ∷ [] } ∷ [];
  features =
      features no_clients
      (routine_of (name (at 42) "g") [] (Some (plain (at 45) "integer")) []
      (call (parent_version (at 56) None []) ∷ []) ∷ [])
      ∷ [];
}

-- calls as expressions and as instructions
pub record UsedExamples : Type 0 where
  -- XUSE.1
  pub no_value : alone no_value_b ≡ breach "b" "f" code.Xuse 1 (at 29) "f" ∷ []
  -- on a target
  pub no_value_of_call : alone no_value_of_call_b ≡ breach "b" "f" code.Xuse 1 (at 43) "append" ∷ []
  -- XUSE.2
  pub result_unused : alone result_unused_b ≡ breach "b" "f" code.Xuse 2 (at 36) "count" ∷ []
  -- a local, which is not read by that
  pub entity_unused : alone entity_unused_b ≡ breach "b" "f" code.Xuse 2 (at 38) "x" ∷ []
  -- kept
  pub used : alone used_b ≡ []
  -- the call is judged where its arguments are typed
  pub arguments_first : alone used_arguments_first_b ≡ breach "b" "f" code.Xuse 1 (at 25) "f" ∷ []
  -- VUAR comes before XUSE
  pub argument_first : alone argument_first_b ≡ breach "b" "f" code.Vuar 2 (at 45) "f" ∷ []
  -- XUSE.1, of Precursor
  pub no_value_of_precursor : body_faults (no_value_of_precursor_b ∷ class_p ∷ [])
      ≡ breach "b" "f" code.Xuse 1 (at 54) "f" ∷ []
  -- XUSE.2, of Precursor
  pub precursor_unused : body_faults (precursor_unused_b ∷ class_p ∷ [])
      ≡ breach "b" "g" code.Xuse 2 (at 56) "g" ∷ []

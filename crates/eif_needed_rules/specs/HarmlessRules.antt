-- Rules that soundness does not rest on: a system that breaks one alone, and runs to its end.
use Rattle.std.specs.Prelude.{◌≡◌, ℕ, [], ◌∷◌, List, codes}
use Rattle.eif_base.specs.declared.code.Code.{Code}
use Rattle.eif_base.specs.declared.code.Code.TheVariants as code
use Rattle.eif_tree.specs.Tree.{ClassT}
use Rattle.eif_meaning.specs.BodyTexts.{name, plain, maybe, number, the, apply, dot, is_a, set, perform, show, make, when}
use Rattle.eif_meaning.specs.Run.{finished}
use Rattle.eif_meaning.specs.RunSystems.{has, field, does, does_with, gives, parent, class, heir, marked_deferred, app, making, run_of}
use Rattle.eif_system.specs.TreeForms.{created_by}
use Rattle.eif_needed_rules.specs.NeededRules.{broken, created, making_app}

-- one fault, of that rule, and a run that prints these bytes and ends
pub record IsHarmless (code : Code) (case : ℕ) (bytes : List ℕ) (given : List ClassT) : Type 0 where
  pub alone : broken given ≡ (code, case) ∷ []
  pub ends : run_of 10 given ≡ finished bytes

-- i: INTEGER make local i: INTEGER do i := 1 print (i) end
abbrev pub local_named_like_field : List ClassT
local_named_like_field =
    app (field "i" (plain "integer")
    ∷ making (has "i" (plain "integer") ∷ []) (set "i" (number 1) ∷ show (the "i") ∷ []) ∷ []) ∷ []

-- f (2, 3), where f (i: INTEGER; i: INTEGER) do print (i) end
abbrev pub repeated_argument : List ClassT
repeated_argument =
    app (making [] (perform (apply "f" (number 2 ∷ number 3 ∷ [])) ∷ [])
    ∷ does_with "f" (has "i" (plain "integer") ∷ has "i" (plain "integer") ∷ []) [] (show (the "i") ∷ [])
    ∷ []) ∷ []

-- if attached {detachable ANY} 1 as x then print (x) else end
abbrev pub detachable_test : List ClassT
detachable_test = making_app [] (when (is_a (maybe "any") "x" (number 1)) (show (the "x") ∷ []) [] ∷ []) ∷ []

-- local i: INTEGER do i
abbrev pub entity_as_instruction : List ClassT
entity_as_instruction = making_app (has "i" (plain "integer") ∷ []) (perform (the "i") ∷ []) ∷ []

-- f, where f: INTEGER do end
abbrev pub function_as_instruction : List ClassT
function_as_instruction = app (making [] (perform (the "f") ∷ []) ∷ gives "f" (plain "integer") [] ∷ []) ∷ []

-- class A feature f do print (1) end end class B inherit A feature f do print (2) end end: local b: B do create b b.f
abbrev pub declared_over : List ClassT
declared_over =
    making_app (has "b" (plain "b") ∷ []) (make "b" ∷ perform (dot (the "b") "f") ∷ [])
    ∷ class "a" (does "f" (show (number 1) ∷ []) ∷ [])
    ∷ heir (parent "a" ∷ []) (class "b" (does "f" (show (number 2) ∷ []) ∷ []))
    ∷ []

-- f, declared twice
abbrev pub declared_twice : List ClassT
declared_twice =
    app (making [] (perform (the "f") ∷ []) ∷ does "f" (show (number 1) ∷ []) ∷ does "f" (show (number 2) ∷ []) ∷ [])
    ∷ []

-- deferred class B create f feature f do end end
abbrev pub deferred_creation : List ClassT
deferred_creation = making_app [] [] ∷ marked_deferred (created "f" (class "b" (does "f" [] ∷ []))) ∷ []

-- class B create f, f feature f do end end
abbrev pub repeated_creator : List ClassT
repeated_creator =
    making_app [] []
    ∷ record (class "b" (does "f" [] ∷ [])) { creators = created_by (name "f" ∷ name "f" ∷ []) }
    ∷ []

pub record HarmlessRules : Type 0 where
  pub local_named_like_field : IsHarmless code.Vrfa 1 (codes "1") local_named_like_field
  pub repeated_argument : IsHarmless code.Vrfa 2 (codes "2") repeated_argument
  pub detachable_test : IsHarmless code.Vuot 3 (codes "1") detachable_test
  pub entity_as_instruction : IsHarmless code.Xuse 2 [] entity_as_instruction
  pub function_as_instruction : IsHarmless code.Xuse 2 [] function_as_instruction
  pub declared_over : IsHarmless code.Vmfn 2 (codes "2") declared_over
  pub declared_twice : IsHarmless code.Vmfn 1 (codes "1") declared_twice
  pub deferred_creation : IsHarmless code.Vgcp 1 [] deferred_creation
  pub repeated_creator : IsHarmless code.Vgcp 4 [] repeated_creator

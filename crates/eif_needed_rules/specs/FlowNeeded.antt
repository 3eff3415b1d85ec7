-- The rules of locals, `Result` and fields that are not surely set.
use Rattle.std.specs.Prelude.{[], ◌∷◌, List}
use Rattle.eif_base.specs.declared.code.Code.TheVariants as code
use Rattle.eif_tree.specs.Tree.{ClassT}
use Rattle.eif_meaning.specs.BodyTexts.{plain, text, the, dot, set, show, make}
use Rattle.eif_meaning.specs.RunSystems.{has, field, gives, class, app, making}
use Rattle.eif_meaning.specs.Values.{unset}
use Rattle.eif_needed_rules.specs.NeededRules.{IsNeeded, making_app}

-- local s: STRING do print (s)
abbrev pub local_read : List ClassT
local_read = making_app (has "s" (plain "string") ∷ []) (show (the "s") ∷ []) ∷ []

-- print (f), where f: STRING do end
abbrev pub result_at_end : List ClassT
result_at_end = app (making [] (show (the "f") ∷ []) ∷ gives "f" (plain "string") [] ∷ []) ∷ []

-- s: STRING make do print (s) s := "a" end
abbrev pub field_read : List ClassT
field_read = app (field "s" (plain "string") ∷ making [] (show (the "s") ∷ set "s" (text "a") ∷ []) ∷ []) ∷ []

-- local b: B do create b print (b.s), with class B feature s: STRING end
abbrev pub field_at_end : List ClassT
field_at_end =
    making_app (has "b" (plain "b") ∷ []) (make "b" ∷ show (dot (the "b") "s") ∷ [])
    ∷ class "b" (field "s" (plain "string") ∷ [])
    ∷ []

pub record FlowNeeded : Type 0 where
  pub local_read : IsNeeded code.Vevi 1 unset local_read
  pub result_at_end : IsNeeded code.Vevi 2 unset result_at_end
  pub field_read : IsNeeded code.Vevi 3 unset field_read
  pub field_at_end : IsNeeded code.Vevi 4 unset field_at_end

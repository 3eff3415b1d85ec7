-- The rules of the names of arguments and locals. Above each example stands its class text, in one line of the
-- first file, or the instructions in such a text; a second text is the second file.
use Rattle.std.specs.Prelude.{◌≡◌, [], ◌∷◌, None}
use Rattle.eif_base.specs.declared.code.Code.TheVariants as code
use Rattle.eif_tree.specs.Tree.{ClassT}
use Rattle.eif_tree.specs.View.{inss_from}
use Rattle.eif_system.specs.TreeForms.{procedure}
use Rattle.eif_body_rules_laws.specs.PlacedTexts.{at, name, plain, group, routine_of, declares, breach, alone}

-- class B feature f (g: ANY) do end g do end end
abbrev pub argument_b : ClassT
argument_b = declares (at 7) "b"
    (routine_of (name (at 17) "f") (group (name (at 20) "g" ∷ []) (plain (at 23) "any") ∷ []) None [] []
    ∷ procedure (name (at 35) "g") (inss_from []) ∷ [])

-- class B feature f local g: ANY do end g do end end
abbrev pub local_name_b : ClassT
local_name_b = declares (at 7) "b"
    (routine_of (name (at 17) "f") [] None (group (name (at 25) "g" ∷ []) (plain (at 28) "any") ∷ []) []
    ∷ procedure (name (at 39) "g") (inss_from []) ∷ [])

-- class B feature f (out: ANY) do end end
abbrev pub inherited_b : ClassT
inherited_b = declares (at 7) "b"
    (routine_of (name (at 17) "f") (group (name (at 20) "out" ∷ []) (plain (at 25) "any") ∷ []) None []
    [] ∷ [])

-- class B feature f (x: ANY) local x: ANY do end end
abbrev pub repeated_b : ClassT
repeated_b = declares (at 7) "b"
    (routine_of (name (at 17) "f") (group (name (at 20) "x" ∷ []) (plain (at 23) "any") ∷ []) None
    (group (name (at 34) "x" ∷ []) (plain (at 37) "any") ∷ []) [] ∷ [])

-- class B feature f (x, x: ANY) local g: ANY do end g do end end
abbrev pub both_b : ClassT
both_b = declares (at 7) "b"
    (routine_of (name (at 17) "f")
    (group (name (at 20) "x" ∷ name (at 23) "x" ∷ []) (plain (at 26) "any") ∷ []) None
    (group (name (at 37) "g" ∷ []) (plain (at 40) "any") ∷ []) []
    ∷ procedure (name (at 51) "g") (inss_from []) ∷ [])

-- class B feature f (x: ANY) local y: ANY do end end
abbrev pub distinct_b : ClassT
distinct_b = declares (at 7) "b"
    (routine_of (name (at 17) "f") (group (name (at 20) "x" ∷ []) (plain (at 23) "any") ∷ []) None
    (group (name (at 34) "y" ∷ []) (plain (at 37) "any") ∷ []) [] ∷ [])

pub record EntityExamples : Type 0 where
  -- VRFA.1
  pub argument : alone argument_b ≡ breach "b" "f" code.Vrfa 1 (at 20) "g" ∷ []
  pub local_name : alone local_name_b ≡ breach "b" "f" code.Vrfa 1 (at 25) "g" ∷ []
  -- a feature of ANY
  pub inherited : alone inherited_b ≡ breach "b" "f" code.Vrfa 1 (at 20) "out" ∷ []
  -- VRFA.2
  pub repeated : alone repeated_b ≡ breach "b" "f" code.Vrfa 2 (at 34) "x" ∷ []
  -- both rules in one declaration
  pub both : alone both_b ≡ breach "b" "f" code.Vrfa 2 (at 23) "x" ∷ breach "b" "f" code.Vrfa 1 (at 37) "g" ∷ []
  -- kept
  pub distinct : alone distinct_b ≡ []

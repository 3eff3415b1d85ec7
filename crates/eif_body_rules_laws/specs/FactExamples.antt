-- What conditions tell, and where it is known. Above each example stands its class text, in one line of the first
-- file, or the instructions in such a text; a second text is the second file.
use Rattle.std.specs.Prelude.{◌≡◌, false, List, [], ◌∷◌, Some, None}
use Rattle.eif_base.specs.declared.code.Code.TheVariants as code
use Rattle.eif_tree.specs.declared.tree.Mark.TheVariants.{Plain}
use Rattle.eif_tree.specs.declared.tree.Op.TheVariants as op
use Rattle.eif_tree.specs.Tree.{void_value, current_value, test, paren, unary, Ins, call, ClassT}
use Rattle.eif_tree.specs.View.{inss_from}
use Rattle.eif_system.specs.TreeForms.{procedure, attribute_of}
use Rattle.eif_body_rules_laws.specs.PlacedTexts.{at, name, written, plain, maybe, truth, value, apply, dot, operation, branch, if_true, repeat, check_all, group, routine_of, declares, breach, alone}

-- class B feature f (x, y: detachable STRING) do .. end end
abbrev pub with_strings : List Ins → ClassT
with_strings body =
    declares (at 7) "b"
    (routine_of (name (at 17) "f")
    (group (name (at 20) "x" ∷ name (at 23) "y" ∷ []) (maybe (at 26) (at 37) "string") ∷ []) None [] body
    ∷ [])

-- if x /= Void then print (x.count) elseif Void /= y then print (y.count) end
abbrev pub not_void_b : ClassT
not_void_b = with_strings
    (if_true
    (branch (operation (value (at 51) "x") (at 53) op.NotEqual (void_value (at 56)))
    (call (apply (at 66) "print" (dot (value (at 73) "x") (at 75) "count" [] ∷ [])) ∷ [])
    ∷ branch (operation (void_value (at 89)) (at 94) op.NotEqual (value (at 97) "y"))
    (call (apply (at 104) "print" (dot (value (at 111) "y") (at 113) "count" [] ∷ [])) ∷ []) ∷ [])
    None ∷ [])

-- if x = Void then print (x.count) elseif Void = y then else print (x.count) print (y.count) end
abbrev pub is_void_b : ClassT
is_void_b = with_strings
    (if_true
    (branch (operation (value (at 51) "x") (at 53) op.Equal (void_value (at 55)))
    (call (apply (at 65) "print" (dot (value (at 72) "x") (at 74) "count" [] ∷ [])) ∷ [])
    ∷ branch (operation (void_value (at 88)) (at 93) op.Equal (value (at 95) "y")) [] ∷ [])
    (Some
    (call (apply (at 107) "print" (dot (value (at 114) "x") (at 116) "count" [] ∷ []))
    ∷ call (apply (at 123) "print" (dot (value (at 130) "y") (at 132) "count" [] ∷ [])) ∷ []))
    ∷ [])

-- if attached x then print (x.count) end if attached x as z then print (x.count) print (z.count) else print
-- (x.count) end
abbrev pub tested_b : ClassT
tested_b = with_strings
    (if_true
    (branch (test (at 51) None None (value (at 60) "x"))
    (call (apply (at 67) "print" (dot (value (at 74) "x") (at 76) "count" [] ∷ [])) ∷ []) ∷ [])
    None
    ∷ if_true
    (branch (test (at 90) None (Some (name (at 104) "z")) (value (at 99) "x"))
    (call (apply (at 111) "print" (dot (value (at 118) "x") (at 120) "count" [] ∷ []))
    ∷ call (apply (at 127) "print" (dot (value (at 134) "z") (at 136) "count" [] ∷ [])) ∷ [])
    ∷ [])
    (Some (call (apply (at 148) "print" (dot (value (at 155) "x") (at 157) "count" [] ∷ [])) ∷ []))
    ∷ [])

-- if not (not ((x) /= (Void))) then print (x.count) end
abbrev pub negated_b : ClassT
negated_b = with_strings
    (if_true
    (branch
    (unary (at 51) op.Not
    (paren (at 55)
    (unary (at 56) op.Not
    (paren (at 60)
    (operation (paren (at 61) (value (at 62) "x")) (at 65) op.NotEqual
    (paren (at 68) (void_value (at 69))))))))
    (call (apply (at 82) "print" (dot (value (at 89) "x") (at 91) "count" [] ∷ [])) ∷ []) ∷ [])
    None ∷ [])

-- if x /= Void and y /= Void then print (x.count) print (y.count) else print (x.count) end
abbrev pub both_b : ClassT
both_b = with_strings
    (if_true
    (branch
    (operation (operation (value (at 51) "x") (at 53) op.NotEqual (void_value (at 56))) (at 61)
    op.And (operation (value (at 65) "y") (at 67) op.NotEqual (void_value (at 70))))
    (call (apply (at 80) "print" (dot (value (at 87) "x") (at 89) "count" [] ∷ []))
    ∷ call (apply (at 96) "print" (dot (value (at 103) "y") (at 105) "count" [] ∷ [])) ∷ []) ∷ [])
    (Some (call (apply (at 117) "print" (dot (value (at 124) "x") (at 126) "count" [] ∷ [])) ∷ []))
    ∷ [])

-- if x = Void or y = Void then print (x.count) else print (x.count) print (y.count) end
abbrev pub either_b : ClassT
either_b = with_strings
    (if_true
    (branch
    (operation (operation (value (at 51) "x") (at 53) op.Equal (void_value (at 55))) (at 60) op.Or
    (operation (value (at 63) "y") (at 65) op.Equal (void_value (at 67))))
    (call (apply (at 77) "print" (dot (value (at 84) "x") (at 86) "count" [] ∷ [])) ∷ []) ∷ [])
    (Some
    (call (apply (at 98) "print" (dot (value (at 105) "x") (at 107) "count" [] ∷ []))
    ∷ call (apply (at 114) "print" (dot (value (at 121) "y") (at 123) "count" [] ∷ [])) ∷ []))
    ∷ [])

-- if x /= Void implies y = Void then print (x.count) else print (x.count) print (y.count) end
abbrev pub implied_b : ClassT
implied_b = with_strings
    (if_true
    (branch
    (operation (operation (value (at 51) "x") (at 53) op.NotEqual (void_value (at 56))) (at 61)
    op.Implies (operation (value (at 69) "y") (at 71) op.Equal (void_value (at 73))))
    (call (apply (at 83) "print" (dot (value (at 90) "x") (at 92) "count" [] ∷ [])) ∷ []) ∷ [])
    (Some
    (call (apply (at 104) "print" (dot (value (at 111) "x") (at 113) "count" [] ∷ []))
    ∷ call (apply (at 120) "print" (dot (value (at 127) "y") (at 129) "count" [] ∷ [])) ∷ []))
    ∷ [])

-- if x /= Void xor False then print (x.count) end
abbrev pub apart_b : ClassT
apart_b = with_strings
    (if_true
    (branch
    (operation (operation (value (at 51) "x") (at 53) op.NotEqual (void_value (at 56))) (at 61)
    op.Xor (truth (at 65) false))
    (call (apply (at 76) "print" (dot (value (at 83) "x") (at 85) "count" [] ∷ [])) ∷ []) ∷ [])
    None ∷ [])

-- if x = y then print (x.count) else print (x.count) end
abbrev pub equal_names_b : ClassT
equal_names_b = with_strings
    (if_true
    (branch (operation (value (at 51) "x") (at 53) op.Equal (value (at 55) "y"))
    (call (apply (at 62) "print" (dot (value (at 69) "x") (at 71) "count" [] ∷ [])) ∷ []) ∷ [])
    (Some (call (apply (at 83) "print" (dot (value (at 90) "x") (at 92) "count" [] ∷ [])) ∷ [])) ∷ [])

-- class B feature f (x, y: detachable STRING) do if g /= Void then print (g.count) end end g: detachable STRING h
-- do end end
abbrev pub not_a_name_b : ClassT
not_a_name_b = declares (at 7) "b"
    (routine_of (name (at 17) "f")
    (group (name (at 20) "x" ∷ name (at 23) "y" ∷ []) (maybe (at 26) (at 37) "string") ∷ []) None []
    (if_true
    (branch (operation (value (at 51) "g") (at 53) op.NotEqual (void_value (at 56)))
    (call (apply (at 66) "print" (dot (value (at 73) "g") (at 75) "count" [] ∷ [])) ∷ []) ∷ [])
    None ∷ [])
    ∷ attribute_of (name (at 90) "g") (maybe (at 93) (at 104) "string")
    ∷ procedure (name (at 111) "h") (inss_from []) ∷ [])

-- what a condition tells where it is true, and where it is false
pub record ToldExamples : Type 0 where
  -- kept
  pub not_void : alone not_void_b ≡ []
  -- where it is false
  pub is_void : alone is_void_b ≡ breach "b" "f" code.Vuta 1 (at 72) "count" ∷ []
  -- an object test
  pub tested : alone tested_b ≡ breach "b" "f" code.Vuta 1 (at 155) "count" ∷ []
  -- a negation, with parentheses
  pub negated : alone negated_b ≡ []
  -- and
  pub both : alone both_b ≡ breach "b" "f" code.Vuta 1 (at 124) "count" ∷ []
  -- or
  pub either : alone either_b ≡ breach "b" "f" code.Vuta 1 (at 84) "count" ∷ []
  -- implies
  pub implied : alone implied_b ≡ breach "b" "f" code.Vuta 1 (at 90) "count" ∷ []
  -- xor tells nothing
  pub apart : alone apart_b ≡ breach "b" "f" code.Vuta 1 (at 83) "count" ∷ []
  -- a comparison with no Void tells nothing
  pub equal_names : alone equal_names_b
      ≡ breach "b" "f" code.Vuta 1 (at 69) "count" ∷ breach "b" "f" code.Vuta 1 (at 90) "count" ∷ []
  -- an attribute is not testable
  pub not_a_name : alone not_a_name_b ≡ breach "b" "f" code.Vuta 1 (at 73) "count" ∷ []

-- if x /= Void and then x.is_empty then end
abbrev pub and_then_b : ClassT
and_then_b = with_strings
    (if_true
    (branch
    (operation (operation (value (at 51) "x") (at 53) op.NotEqual (void_value (at 56))) (at 61)
    op.AndThen (dot (value (at 70) "x") (at 72) "is_empty" [])) [] ∷ []) None ∷ [])

-- if x /= Void and x.is_empty then end
abbrev pub strict_and_b : ClassT
strict_and_b = with_strings
    (if_true
    (branch
    (operation (operation (value (at 51) "x") (at 53) op.NotEqual (void_value (at 56))) (at 61)
    op.And (dot (value (at 65) "x") (at 67) "is_empty" [])) [] ∷ []) None ∷ [])

-- if x = Void or else x.is_empty then end
abbrev pub or_else_b : ClassT
or_else_b = with_strings
    (if_true
    (branch
    (operation (operation (value (at 51) "x") (at 53) op.Equal (void_value (at 55))) (at 60)
    op.OrElse (dot (value (at 68) "x") (at 70) "is_empty" [])) [] ∷ []) None ∷ [])

-- if x = Void or x.is_empty then end
abbrev pub strict_or_b : ClassT
strict_or_b = with_strings
    (if_true
    (branch
    (operation (operation (value (at 51) "x") (at 53) op.Equal (void_value (at 55))) (at 60) op.Or
    (dot (value (at 63) "x") (at 65) "is_empty" [])) [] ∷ []) None ∷ [])

-- if x /= Void implies x.is_empty then end
abbrev pub implication_b : ClassT
implication_b = with_strings
    (if_true
    (branch
    (operation (operation (value (at 51) "x") (at 53) op.NotEqual (void_value (at 56))) (at 61)
    op.Implies (dot (value (at 69) "x") (at 71) "is_empty" [])) [] ∷ []) None ∷ [])

-- if x /= Void or else x.is_empty then end
abbrev pub wrong_value_b : ClassT
wrong_value_b = with_strings
    (if_true
    (branch
    (operation (operation (value (at 51) "x") (at 53) op.NotEqual (void_value (at 56))) (at 61)
    op.OrElse (dot (value (at 69) "x") (at 71) "is_empty" [])) [] ∷ []) None ∷ [])

-- if attached x as z and then z.is_empty then end if attached x as z and z.is_empty then end
abbrev pub test_local_b : ClassT
test_local_b = with_strings
    (if_true
    (branch
    (operation (test (at 51) None (Some (name (at 65) "z")) (value (at 60) "x")) (at 67) op.AndThen
    (dot (value (at 76) "z") (at 78) "is_empty" [])) [] ∷ []) None
    ∷ if_true
    (branch
    (operation (test (at 99) None (Some (name (at 113) "z")) (value (at 108) "x")) (at 115)
    op.And (dot (value (at 119) "z") (at 121) "is_empty" [])) [] ∷ []) None ∷ [])

-- print (x /= Void and then x.is_empty) print (x /= Void) print (x.count)
abbrev pub argument_b : ClassT
argument_b = with_strings
    (call
    (apply (at 48) "print"
    (operation (operation (value (at 55) "x") (at 57) op.NotEqual (void_value (at 60))) (at 65)
    op.AndThen (dot (value (at 74) "x") (at 76) "is_empty" []) ∷ []))
    ∷ call
    (apply (at 86) "print"
    (operation (value (at 93) "x") (at 95) op.NotEqual (void_value (at 98)) ∷ []))
    ∷ call (apply (at 104) "print" (dot (value (at 111) "x") (at 113) "count" [] ∷ [])) ∷ [])

-- what is known in a right operand
pub record RightExamples : Type 0 where
  -- and then
  pub and_then : alone and_then_b ≡ []
  -- and
  pub strict_and : alone strict_and_b ≡ breach "b" "f" code.Vuta 1 (at 65) "is_empty" ∷ []
  -- or else
  pub or_else : alone or_else_b ≡ []
  -- or
  pub strict_or : alone strict_or_b ≡ breach "b" "f" code.Vuta 1 (at 63) "is_empty" ∷ []
  -- implies
  pub implication : alone implication_b ≡ []
  -- of the other value
  pub wrong_value : alone wrong_value_b ≡ breach "b" "f" code.Vuta 1 (at 69) "is_empty" ∷ []
  -- a test's local
  pub test_local : alone test_local_b ≡ breach "b" "f" code.Veen 1 (at 119) "z" ∷ []
  -- not in another argument
  pub argument : alone argument_b ≡ breach "b" "f" code.Vuta 1 (at 111) "count" ∷ []

-- if x = Void then elseif x.is_empty then else print (x.count) end
abbrev pub later_conditions_b : ClassT
later_conditions_b = with_strings
    (if_true
    (branch (operation (value (at 51) "x") (at 53) op.Equal (void_value (at 55))) []
    ∷ branch (dot (value (at 72) "x") (at 74) "is_empty" []) [] ∷ [])
    (Some (call (apply (at 93) "print" (dot (value (at 100) "x") (at 102) "count" [] ∷ [])) ∷ []))
    ∷ [])

-- if x /= Void then end print (x.count)
abbrev pub after_if_b : ClassT
after_if_b = with_strings
    (if_true (branch (operation (value (at 51) "x") (at 53) op.NotEqual (void_value (at 56))) [] ∷ [])
    None
    ∷ call (apply (at 70) "print" (dot (value (at 77) "x") (at 79) "count" [] ∷ [])) ∷ [])

-- from until x = Void loop print (x.count) end print (x.count)
abbrev pub loop_b : ClassT
loop_b = with_strings
    (repeat [] [] (operation (value (at 59) "x") (at 61) op.Equal (void_value (at 63)))
    (call (apply (at 73) "print" (dot (value (at 80) "x") (at 82) "count" [] ∷ [])) ∷ []) None
    ∷ call (apply (at 93) "print" (dot (value (at 100) "x") (at 102) "count" [] ∷ [])) ∷ [])

-- from invariant x.is_empty until x = Void loop variant x.count end
abbrev pub loop_assertions_b : ClassT
loop_assertions_b = with_strings
    (repeat [] (dot (value (at 63) "x") (at 65) "is_empty" [] ∷ [])
    (operation (value (at 80) "x") (at 82) op.Equal (void_value (at 84))) []
    (Some (dot (value (at 102) "x") (at 104) "count" [])) ∷ [])

-- check x /= Void x.is_empty end
abbrev pub next_assertion_b : ClassT
next_assertion_b = with_strings
    (check_all
    (operation (value (at 54) "x") (at 56) op.NotEqual (void_value (at 59))
    ∷ dot (value (at 64) "x") (at 66) "is_empty" [] ∷ []) ∷ [])

-- if x /= Void then from print (x.count) until x.is_empty loop if x.is_empty then check x.is_empty end end end
-- end
abbrev pub nested_b : ClassT
nested_b = with_strings
    (if_true
    (branch (operation (value (at 51) "x") (at 53) op.NotEqual (void_value (at 56)))
    (repeat (call (apply (at 71) "print" (dot (value (at 78) "x") (at 80) "count" [] ∷ [])) ∷ [])
    [] (dot (value (at 93) "x") (at 95) "is_empty" [])
    (if_true
    (branch (dot (value (at 112) "x") (at 114) "is_empty" [])
    (check_all (dot (value (at 134) "x") (at 136) "is_empty" [] ∷ []) ∷ []) ∷ []) None
    ∷ []) None ∷ []) ∷ []) None ∷ [])

-- if attached x as z then print (z.count) end print (z)
abbrev pub scope_of_test_local_b : ClassT
scope_of_test_local_b = with_strings
    (if_true
    (branch (test (at 51) None (Some (name (at 65) "z")) (value (at 60) "x"))
    (call (apply (at 72) "print" (dot (value (at 79) "z") (at 81) "count" [] ∷ [])) ∷ []) ∷ [])
    None
    ∷ call (apply (at 92) "print" (value (at 99) "z" ∷ [])) ∷ [])

-- if attached {STRING} x as z and attached {ARRAY [ANY]} y as z then print (z.is_empty) end
abbrev pub earliest_b : ClassT
earliest_b = with_strings
    (if_true
    (branch
    (operation
    (test (at 51) (Some (plain (at 61) "string")) (Some (name (at 74) "z")) (value (at 69) "x"))
    (at 76) op.And
    (test (at 80) (Some (written (at 90) (at 90) Plain "array" (plain (at 97) "any" ∷ [])))
    (Some (name (at 108) "z")) (value (at 103) "y")))
    (call (apply (at 115) "print" (dot (value (at 122) "z") (at 124) "is_empty" [] ∷ [])) ∷ [])
    ∷ []) None ∷ [])

-- class B feature f (x, y: detachable STRING) do if attached Current as g or g = Void then else print (g.count) end
-- end g: detachable STRING end
abbrev pub feature_b : ClassT
feature_b = declares (at 7) "b"
    (routine_of (name (at 17) "f")
    (group (name (at 20) "x" ∷ name (at 23) "y" ∷ []) (maybe (at 26) (at 37) "string") ∷ []) None []
    (if_true
    (branch
    (operation (test (at 51) None (Some (name (at 71) "g")) (current_value (at 60))) (at 73) op.Or
    (operation (value (at 76) "g") (at 78) op.Equal (void_value (at 80)))) [] ∷ [])
    (Some (call (apply (at 95) "print" (dot (value (at 102) "g") (at 104) "count" [] ∷ [])) ∷ [])) ∷ [])
    ∷ attribute_of (name (at 119) "g") (maybe (at 122) (at 133) "string") ∷ [])

-- where it is known
pub record ScopeExamples : Type 0 where
  -- in the later conditions and branches
  pub later_conditions : alone later_conditions_b ≡ []
  -- not after the if
  pub after_if : alone after_if_b ≡ breach "b" "f" code.Vuta 1 (at 77) "count" ∷ []
  -- in the body of a loop, and not after it
  pub loop : alone loop_b ≡ breach "b" "f" code.Vuta 1 (at 100) "count" ∷ []
  -- not in the invariant or variant of the loop
  pub loop_assertions : alone loop_assertions_b
      ≡ breach "b" "f" code.Vuta 1 (at 63) "is_empty" ∷ breach "b" "f" code.Vuta 1 (at 102) "count" ∷ []
  -- not in the next assertion
  pub next_assertion : alone next_assertion_b ≡ breach "b" "f" code.Vuta 1 (at 64) "is_empty" ∷ []
  -- in compounds inside
  pub nested : alone nested_b ≡ []
  -- a test's local, in its branch alone
  pub test_local : alone scope_of_test_local_b ≡ breach "b" "f" code.Veen 1 (at 99) "z" ∷ []
  -- of several usable tests of one name the earliest counts
  pub earliest : alone earliest_b ≡ breach "b" "f" code.Vuot 2 (at 108) "z" ∷ []
  -- not applied to a feature
  pub feature : alone feature_b
      ≡ breach "b" "f" code.Vuot 1 (at 71) "g" ∷ breach "b" "f" code.Vuta 1 (at 102) "count" ∷ []

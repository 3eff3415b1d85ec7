-- In which order what a creator does counts, and that assertions don't. Above each class stands its text, in one line.
use Rattle.std.specs.Prelude.{◌≡◌, true, List, [], ◌∷◌, Some}
use Rattle.eif_tree.specs.declared.tree.Op.TheVariants.{Plus, Equal}
use Rattle.eif_tree.specs.Tree.{Ins, check, loop, ClassT}
use Rattle.eif_tree.specs.View.{exs_from, inss_from}
use Rattle.eif_system.specs.TreeForms.{nowhere}
use Rattle.eif_flow_rules_laws.specs.CreationTexts.{at, plain, truth, me, the, any, dot, two, fill, set, perform, perform_with, show, when_elseif, field, routine_of, with_argument, function_of, app, faults_alone, needs}
use Rattle.eif_flow_rules_laws.specs.SelfCallExamples.{with_fill}

-- class APP create make feature name: STRING make do .. end take (s: STRING) do name := s end
-- filled: STRING do name := "a" Result := "a" end end
abbrev pub with_filled : List Ins → ClassT
with_filled is =
    app (field "name" ∷ routine_of "make" is
    ∷ with_argument "take" "s" (plain "string") (set "name" (any "s") ∷ [])
    ∷ function_of "filled" "string" (fill "name" ∷ fill "result" ∷ []) ∷ [])

-- check name = Current end
abbrev pub checks : Ins
checks = check (exs_from (two Equal (any "name") (me nowhere) ∷ []))

-- from invariant name.is_empty until True loop variant name.count end
abbrev pub claims : Ins
claims =
    loop (inss_from []) (exs_from (dot (any "name") "is_empty" [] ∷ [])) (truth true) (inss_from [])
    (Some (dot (any "name") "count" []))

pub record OrderExamples : Type 0 where
  -- name := name: the source before the target is set
  pub source_first : faults_alone (with_filled (set "name" (the (at 60) "name") ∷ []))
      ≡ needs (with_filled []) (at 60) "name" ∷ []
  -- take (name): the arguments before the body
  pub arguments_first : faults_alone (with_filled (perform_with "take" (the (at 58) "name") ∷ []))
      ≡ needs (with_filled []) (at 58) "name" ∷ []
  -- name.append (filled): the target before the arguments
  pub target_first :
      faults_alone (with_filled (perform (dot (the (at 52) "name") "append" (any "filled" ∷ [])) ∷ []))
      ≡ needs (with_filled []) (at 52) "name" ∷ []
  -- print (name + filled): the left operand before the right one
  pub left_first : faults_alone (with_filled (show (two Plus (the (at 59) "name") (any "filled")) ∷ []))
      ≡ needs (with_filled []) (at 59) "name" ∷ []
  -- print (filled + name)
  pub right_behind : faults_alone (with_filled (show (two Plus (any "filled") (any "name")) ∷ [])) ≡ []
  -- if fill then elseif name.is_empty then else end: what a condition sets counts in all that is behind it
  pub conditions_in_turn :
      faults_alone (with_fill (when_elseif (any "fill") [] (dot (any "name") "is_empty" []) [] [] ∷ [])) ≡ []

pub record AssertionExamples : Type 0 where
  -- check name = Current end name := "a"
  pub in_a_check : faults_alone (with_fill (checks ∷ fill "name" ∷ [])) ≡ []
  -- from invariant name.is_empty until True loop variant name.count end name := "a"
  pub of_a_loop : faults_alone (with_fill (claims ∷ fill "name" ∷ [])) ≡ []

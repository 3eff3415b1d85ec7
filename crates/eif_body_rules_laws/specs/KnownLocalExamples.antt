-- What is known of locals along instructions. Above each example stands its class text, in one line of the first
-- file, or the instructions in such a text; a second text is the second file.
use Rattle.std.specs.Prelude.{◌≡◌, true, false, List, [], ◌∷◌, Some, None, codes}
use Rattle.eif_base.specs.declared.code.Code.TheVariants as code
use Rattle.eif_tree.specs.declared.tree.Op.TheVariants as op
use Rattle.eif_tree.specs.Tree.{void_value, current_value, test, Ins, assign, call, no_clients, ClassT}
use Rattle.eif_system.specs.TreeForms.{bare_class}
use Rattle.eif_body_rules_laws.specs.PlacedTexts.{at, name, plain, maybe, text, truth, value, apply, dot, operation, make, branch, if_true, repeat, check_all, group, routine_of, formal, creators, features, declares, breach, alone}

-- class APP create make feature make local x: detachable APP do .. end end
abbrev pub make_does : List Ins → ClassT
make_does body =
    record (bare_class (at 7) (codes "app")) {
      creators = creators no_clients (name (at 18) "make" ∷ []) ∷ [];
      features =
          features no_clients
          (routine_of (name (at 31) "make") [] None
          (group (name (at 42) "x" ∷ []) (maybe (at 45) (at 56) "app") ∷ []) body ∷ [])
          ∷ [];
    }

-- if x /= Void then x.make end
abbrev pub tested_app : ClassT
tested_app = make_does
    (if_true
    (branch (operation (value (at 66) "x") (at 68) op.NotEqual (void_value (at 71)))
    (call (dot (value (at 81) "x") (at 83) "make" []) ∷ []) ∷ []) None ∷ [])

-- x.make
abbrev pub not_tested_app : ClassT
not_tested_app = make_does (call (dot (value (at 63) "x") (at 65) "make" []) ∷ [])

-- if x /= Void then x := Void x.make end
abbrev pub assigned_again_app : ClassT
assigned_again_app = make_does
    (if_true
    (branch (operation (value (at 66) "x") (at 68) op.NotEqual (void_value (at 71)))
    (assign (name (at 81) "x") (void_value (at 86))
    ∷ call (dot (value (at 91) "x") (at 93) "make" []) ∷ []) ∷ []) None ∷ [])

-- from until x = Void loop x.make x := Void end
abbrev pub loop_app : ClassT
loop_app = make_does
    (repeat [] [] (operation (value (at 74) "x") (at 76) op.Equal (void_value (at 78)))
    (call (dot (value (at 88) "x") (at 90) "make" [])
    ∷ assign (name (at 95) "x") (void_value (at 100)) ∷ []) None ∷ [])

-- if x /= Void then from until False loop x.make x := Void end end
abbrev pub loop_assigns_app : ClassT
loop_assigns_app = make_does
    (if_true
    (branch (operation (value (at 66) "x") (at 68) op.NotEqual (void_value (at 71)))
    (repeat [] [] (truth (at 92) false)
    (call (dot (value (at 103) "x") (at 105) "make" [])
    ∷ assign (name (at 110) "x") (void_value (at 115)) ∷ []) None ∷ []) ∷ []) None ∷ [])

-- from create x.make until x.make_it loop x.make variant x.number end
abbrev pub loop_keeps_app : ClassT
loop_keeps_app = make_does
    (repeat (make (at 68) None (name (at 75) "x") (Some (name (at 77) "make")) [] ∷ []) []
    (dot (value (at 88) "x") (at 90) "make_it" [])
    (call (dot (value (at 103) "x") (at 105) "make" []) ∷ [])
    (Some (dot (value (at 118) "x") (at 120) "number" [])) ∷ [])

-- create x.make x.make
abbrev pub created_app : ClassT
created_app = make_does
    (make (at 63) None (name (at 70) "x") (Some (name (at 72) "make")) []
    ∷ call (dot (value (at 77) "x") (at 79) "make" []) ∷ [])

-- create x.make if True then x := Void end x.make
abbrev pub one_branch_assigns_app : ClassT
one_branch_assigns_app = make_does
    (make (at 63) None (name (at 70) "x") (Some (name (at 72) "make")) []
    ∷ if_true (branch (truth (at 80) true) (assign (name (at 90) "x") (void_value (at 95)) ∷ []) ∷ [])
    None
    ∷ call (dot (value (at 104) "x") (at 106) "make" []) ∷ [])

-- x := Current x.make
abbrev pub assigned_app : ClassT
assigned_app = make_does
    (assign (name (at 63) "x") (current_value (at 68))
    ∷ call (dot (value (at 76) "x") (at 78) "make" []) ∷ [])

-- if x /= Void then x := x x.make end
abbrev pub assigned_from_itself_app : ClassT
assigned_from_itself_app = make_does
    (if_true
    (branch (operation (value (at 66) "x") (at 68) op.NotEqual (void_value (at 71)))
    (assign (name (at 81) "x") (value (at 86) "x")
    ∷ call (dot (value (at 88) "x") (at 90) "make" []) ∷ []) ∷ []) None ∷ [])

-- x := x.itself
abbrev pub in_own_source_app : ClassT
in_own_source_app = make_does (assign (name (at 63) "x") (dot (value (at 68) "x") (at 70) "itself" []) ∷ [])

-- x := "a" x.make
abbrev pub broken_assignment_app : ClassT
broken_assignment_app = make_does
    (assign (name (at 63) "x") (text (at 68) "a") ∷ call (dot (value (at 72) "x") (at 74) "make" []) ∷ [])

-- if x /= Void then end x.make
abbrev pub after_if_app : ClassT
after_if_app = make_does
    (if_true (branch (operation (value (at 66) "x") (at 68) op.NotEqual (void_value (at 71))) [] ∷ [])
    None
    ∷ call (dot (value (at 85) "x") (at 87) "make" []) ∷ [])

-- create x.make if True then x.make else check True end end from until True loop end x.make
abbrev pub before_if_app : ClassT
before_if_app = make_does
    (make (at 63) None (name (at 70) "x") (Some (name (at 72) "make")) []
    ∷ if_true (branch (truth (at 80) true) (call (dot (value (at 90) "x") (at 92) "make" []) ∷ []) ∷ [])
    (Some (check_all (truth (at 108) true ∷ []) ∷ []))
    ∷ repeat [] [] (truth (at 132) true) [] None
    ∷ call (dot (value (at 146) "x") (at 148) "make" []) ∷ [])

-- class B feature f (x: detachable ANY) local y: detachable STRING do y := "a" if attached x as y then y := Void
-- end print (y.count) end end
abbrev pub hidden_b : ClassT
hidden_b = declares (at 7) "b"
    (routine_of (name (at 17) "f") (group (name (at 20) "x" ∷ []) (maybe (at 23) (at 34) "any") ∷ [])
    None (group (name (at 45) "y" ∷ []) (maybe (at 48) (at 59) "string") ∷ [])
    (assign (name (at 69) "y") (text (at 74) "a")
    ∷ if_true
    (branch (test (at 81) None (Some (name (at 95) "y")) (value (at 90) "x"))
    (assign (name (at 102) "y") (void_value (at 107)) ∷ []) ∷ []) None
    ∷ call (apply (at 116) "print" (dot (value (at 123) "y") (at 125) "count" [] ∷ [])) ∷ []) ∷ [])

-- class B [G -> ANY, H] feature f (v: G; w: H) local x: detachable ANY do x := v print (x.out) x := w print
-- (x.out) end end
abbrev pub generic_b : ClassT
generic_b = record (bare_class (at 7) (codes "b")) {
  formals = formal (at 10) "g" (Some (plain (at 15) "any")) ∷ formal (at 20) "h" None ∷ [];
  features =
      features no_clients
      (routine_of (name (at 31) "f")
      (group (name (at 34) "v" ∷ []) (plain (at 37) "g")
      ∷ group (name (at 40) "w" ∷ []) (plain (at 43) "h") ∷ []) None
      (group (name (at 52) "x" ∷ []) (maybe (at 55) (at 66) "any") ∷ [])
      (assign (name (at 73) "x") (value (at 78) "v")
      ∷ call (apply (at 80) "print" (dot (value (at 87) "x") (at 89) "out" [] ∷ []))
      ∷ assign (name (at 94) "x") (value (at 99) "w")
      ∷ call (apply (at 101) "print" (dot (value (at 108) "x") (at 110) "out" [] ∷ [])) ∷ [])
      ∷ [])
      ∷ [];
}

-- from create x.make until True loop end x.make
abbrev pub loop_start_assigns_app : ClassT
loop_start_assigns_app = make_does
    (repeat (make (at 68) None (name (at 75) "x") (Some (name (at 77) "make")) [] ∷ []) []
    (truth (at 88) true) [] None ∷ call (dot (value (at 102) "x") (at 104) "make" []) ∷ [])

-- if True then create x.make else create x.make end x.make
abbrev pub each_branch_assigns_app : ClassT
each_branch_assigns_app = make_does
    (if_true
    (branch (truth (at 66) true) (make (at 76) None (name (at 83) "x") (Some (name (at 85) "make")) [] ∷ [])
    ∷ []) (Some (make (at 95) None (name (at 102) "x") (Some (name (at 104) "make")) [] ∷ []))
    ∷ call (dot (value (at 113) "x") (at 115) "make" []) ∷ [])

-- from until x = Void loop end x.make
abbrev pub after_loop_app : ClassT
after_loop_app = make_does
    (repeat [] [] (operation (value (at 74) "x") (at 76) op.Equal (void_value (at 78))) [] None
    ∷ call (dot (value (at 92) "x") (at 94) "make" []) ∷ [])

-- what is known of a local, from instruction to instruction
pub record KnownLocalExamples : Type 0 where
  -- kept, tested
  pub tested : alone tested_app ≡ []
  -- not tested
  pub not_tested : alone not_tested_app ≡ breach "app" "make" code.Vuta 1 (at 63) "make" ∷ []
  -- not after it is assigned
  pub assigned_again : alone assigned_again_app ≡ breach "app" "make" code.Vuta 1 (at 91) "make" ∷ []
  -- kept, tested by the exit of a loop
  pub loop : alone loop_app ≡ []
  -- not in a loop that assigns it
  pub loop_assigns : alone loop_assigns_app ≡ breach "app" "make" code.Vuta 1 (at 103) "make" ∷ []
  -- known in exit, body and variant, so VUEX and not VUTA, where only the start of the loop assigns it
  pub loop_keeps : alone loop_keeps_app
      ≡ breach "app" "make" code.Vuex 1 (at 90) "make_it" ∷ breach "app" "make" code.Vuex 1 (at 120) "number" ∷ []
  -- kept, created
  pub created : alone created_app ≡ []
  -- not after a branch that assigns it
  pub one_branch_assigns : alone one_branch_assigns_app ≡ breach "app" "make" code.Vuta 1 (at 104) "make" ∷ []
  -- kept, assigned from what is attached
  pub assigned : alone assigned_app ≡ []
  -- kept, assigned from itself, tested
  pub assigned_from_itself : alone assigned_from_itself_app ≡ []
  -- the source is typed by what is known before
  pub in_own_source : alone in_own_source_app ≡ breach "app" "make" code.Vuta 1 (at 68) "itself" ∷ []
  -- kept, also where the assignment breaks a rule
  pub broken_assignment : alone broken_assignment_app ≡ breach "app" "make" code.Vbar 2 (at 68) "x" ∷ []
  -- not after the if
  pub after_if : alone after_if_app ≡ breach "app" "make" code.Vuta 1 (at 85) "make" ∷ []
  -- kept, after an if that does not assign it
  pub before_if : alone before_if_app ≡ []
  -- what an instruction assigns is said of names, also where a test's local hides the local
  pub hidden : alone hidden_b
      ≡ breach "b" "f" code.Vuot 1 (at 95) "y"
      ∷ breach "b" "f" code.Vbar 1 (at 102) "y"
      ∷ breach "b" "f" code.Vuta 1 (at 123) "count" ∷ []
  -- of a formal with an attached constraint, and of one without
  pub generic : alone generic_b ≡ breach "b" "f" code.Vuta 1 (at 108) "out" ∷ []
  -- not after a loop that assigns it
  pub loop_start_assigns : alone loop_start_assigns_app ≡ breach "app" "make" code.Vuta 1 (at 102) "make" ∷ []
  -- not after an if that assigns it, also where each branch creates it
  pub each_branch_assigns : alone each_branch_assigns_app ≡ breach "app" "make" code.Vuta 1 (at 113) "make" ∷ []
  -- not after the loop
  pub after_loop : alone after_loop_app ≡ breach "app" "make" code.Vuta 1 (at 92) "make" ∷ []

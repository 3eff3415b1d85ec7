-- What the tree of a condition alone tells. Above each stands its expression, whose names x and y are testable.
use Rattle.std.specs.Prelude.{◌≡◌, true, false, List, [], ◌∷◌, Some, None, codes, ℕ}
use Rattle.eif_base.specs.declared.place.Place.{Place}
use Rattle.eif_base.specs.Numbering.{is_among}
use Rattle.eif_tree.specs.declared.tree.Op.TheVariants as op
use Rattle.eif_tree.specs.Tree.{Ex, void_value, test, paren, unary}
use Rattle.eif_body_rules_laws.specs.PlacedTexts.{at, name, plain, value, operation}
use Rattle.std.specs.Prelude.{Bool, Option}
use Rattle.eif_body_rules.specs.PlainFacts.{is_attached, local_place, plain_facts}

abbrev pub testable : List ℕ → Bool
testable = is_among (codes "x" ∷ codes "y" ∷ [])

-- x and y are told to be attached, where the expression has that value
abbrev pub tells : Bool → Ex → Bool × Bool
tells b e = (is_attached (plain_facts testable b e) (codes "x"), is_attached (plain_facts testable b e) (codes "y"))

-- where the test stands whose local z may be used, where the expression has that value
abbrev pub opens : Bool → Ex → Option Place
opens b e = local_place (plain_facts testable b e) (codes "z")

pub record AttachedExamples : Type 0 where
  -- x /= Void
  pub not_void_true :
      tells true (operation (value (at 1) "x") (at 3) op.NotEqual (void_value (at 6)))
      ≡ (true, false)
  pub not_void_false :
      tells false (operation (value (at 1) "x") (at 3) op.NotEqual (void_value (at 6)))
      ≡ (false, false)
  -- Void = (x)
  pub is_void_true :
      tells true (operation (void_value (at 1)) (at 6) op.Equal (paren (at 8) (value (at 9) "x")))
      ≡ (false, false)
  pub is_void_false :
      tells false (operation (void_value (at 1)) (at 6) op.Equal (paren (at 8) (value (at 9) "x")))
      ≡ (true, false)
  -- g /= Void
  pub not_testable_true :
      tells true (operation (value (at 1) "g") (at 3) op.NotEqual (void_value (at 6)))
      ≡ (false, false)
  pub not_testable_false :
      tells false (operation (value (at 1) "g") (at 3) op.NotEqual (void_value (at 6)))
      ≡ (false, false)
  -- attached x
  pub tested_true : tells true (test (at 1) None None (value (at 10) "x")) ≡ (true, false)
  pub tested_false : tells false (test (at 1) None None (value (at 10) "x")) ≡ (false, false)
  -- not (x = Void)
  pub negation_true :
      tells true
      (unary (at 1) op.Not (paren (at 5) (operation (value (at 6) "x") (at 8) op.Equal (void_value (at 10)))))
      ≡ (true, false)
  pub negation_false :
      tells false
      (unary (at 1) op.Not (paren (at 5) (operation (value (at 6) "x") (at 8) op.Equal (void_value (at 10)))))
      ≡ (false, false)
  -- x /= Void and y /= Void
  pub conjunction_true :
      tells true
      (operation (operation (value (at 1) "x") (at 3) op.NotEqual (void_value (at 6))) (at 11) op.And
      (operation (value (at 15) "y") (at 17) op.NotEqual (void_value (at 20))))
      ≡ (true, true)
  pub conjunction_false :
      tells false
      (operation (operation (value (at 1) "x") (at 3) op.NotEqual (void_value (at 6))) (at 11) op.And
      (operation (value (at 15) "y") (at 17) op.NotEqual (void_value (at 20))))
      ≡ (false, false)
  -- x /= Void and then y = Void
  pub conjunction_short_true :
      tells true
      (operation (operation (value (at 1) "x") (at 3) op.NotEqual (void_value (at 6))) (at 11) op.AndThen
      (operation (value (at 20) "y") (at 22) op.Equal (void_value (at 24))))
      ≡ (true, false)
  pub conjunction_short_false :
      tells false
      (operation (operation (value (at 1) "x") (at 3) op.NotEqual (void_value (at 6))) (at 11) op.AndThen
      (operation (value (at 20) "y") (at 22) op.Equal (void_value (at 24))))
      ≡ (false, false)
  -- x = Void or y = Void
  pub disjunction_true :
      tells true
      (operation (operation (value (at 1) "x") (at 3) op.Equal (void_value (at 5))) (at 10) op.Or
      (operation (value (at 13) "y") (at 15) op.Equal (void_value (at 17))))
      ≡ (false, false)
  pub disjunction_false :
      tells false
      (operation (operation (value (at 1) "x") (at 3) op.Equal (void_value (at 5))) (at 10) op.Or
      (operation (value (at 13) "y") (at 15) op.Equal (void_value (at 17))))
      ≡ (true, true)
  -- x = Void or else y /= Void
  pub disjunction_short_true :
      tells true
      (operation (operation (value (at 1) "x") (at 3) op.Equal (void_value (at 5))) (at 10) op.OrElse
      (operation (value (at 18) "y") (at 20) op.NotEqual (void_value (at 23))))
      ≡ (false, false)
  pub disjunction_short_false :
      tells false
      (operation (operation (value (at 1) "x") (at 3) op.Equal (void_value (at 5))) (at 10) op.OrElse
      (operation (value (at 18) "y") (at 20) op.NotEqual (void_value (at 23))))
      ≡ (true, false)
  -- x /= Void implies y = Void
  pub implication_true :
      tells true
      (operation (operation (value (at 1) "x") (at 3) op.NotEqual (void_value (at 6))) (at 11) op.Implies
      (operation (value (at 19) "y") (at 21) op.Equal (void_value (at 23))))
      ≡ (false, false)
  pub implication_false :
      tells false
      (operation (operation (value (at 1) "x") (at 3) op.NotEqual (void_value (at 6))) (at 11) op.Implies
      (operation (value (at 19) "y") (at 21) op.Equal (void_value (at 23))))
      ≡ (true, true)
  -- x /= Void xor y /= Void
  pub exclusion_true :
      tells true
      (operation (operation (value (at 1) "x") (at 3) op.NotEqual (void_value (at 6))) (at 11) op.Xor
      (operation (value (at 15) "y") (at 17) op.NotEqual (void_value (at 20))))
      ≡ (false, false)
  pub exclusion_false :
      tells false
      (operation (operation (value (at 1) "x") (at 3) op.NotEqual (void_value (at 6))) (at 11) op.Xor
      (operation (value (at 15) "y") (at 17) op.NotEqual (void_value (at 20))))
      ≡ (false, false)
  -- x
  pub read_true : tells true (value (at 1) "x") ≡ (false, false)
  pub read_false : tells false (value (at 1) "x") ≡ (false, false)

pub record OpenedExamples : Type 0 where
  -- attached x as z
  pub opened : opens true (test (at 1) None (Some (name (at 15) "z")) (value (at 10) "x")) ≡ Some (at 1)
  -- attached x as z
  pub not_where_false : opens false (test (at 1) None (Some (name (at 15) "z")) (value (at 10) "x")) ≡ None
  -- not attached x as z
  pub negated :
      opens false (unary (at 1) op.Not (test (at 5) None (Some (name (at 19) "z")) (value (at 14) "x")))
      ≡ Some (at 5)
  -- attached y and attached x as z and {z: ANY} y
  pub earliest :
      opens true
      (operation
      (operation (test (at 1) None None (value (at 10) "y")) (at 12) op.And
      (test (at 16) None (Some (name (at 30) "z")) (value (at 25) "x"))) (at 32) op.And
      (test (at 36) (Some (plain (at 40) "any")) (Some (name (at 37) "z")) (value (at 45) "y")))
      ≡ Some (at 16)
  -- attached x
  pub no_local : opens true (test (at 1) None None (value (at 10) "x")) ≡ None

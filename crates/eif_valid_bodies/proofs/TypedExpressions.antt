-- An expression without faults has a type, where the tests that are known are typed.
use Rattle.std.proofs.Common.{◌≡◌, ℕ, Bool, List, [], ◌++◌, Option, refl, sym, subst}
use Rattle.std.specs.Prelude.{not}
use Rattle.eif_base.specs.declared.code.Code.TheVariants as code
use Rattle.eif_base.specs.declared.place.Place.{Place}
use Rattle.eif_tree.specs.declared.tree.NameAt.{NameAt}
use Rattle.eif_tree.specs.declared.tree.Op.{Op}
use Rattle.eif_tree.specs.ExpressionPlaces.{place_of}
use Rattle.eif_tree.specs.Tree.{TypeT, Ex, literal, void_value, current_value, result_value, unqualified, precursor, qualified, creation, test, paren, unary, binary, Exs, no_exs, and_ex}
use Rattle.eif_classes.specs.Resolution.{own_type}
use Rattle.eif_classes.specs.Types.{TyT, none_type}
use Rattle.eif_body_rules.specs.CallRules.{Argument, name_rule, call_rule, precursor_rule}
use Rattle.eif_body_rules.specs.Conditions.{tested_name, goes_on, left_value, at_right, told_by_operands, told_by_void}
use Rattle.eif_body_rules.specs.CreationRules.{Creation, of_written, creation_faults, creation_rule}
use Rattle.eif_body_rules.specs.ExpressionTypes.{judge, judge_all, facts, all_attached, first_argument, told_by_test}
use Rattle.eif_body_rules.specs.Facts.{Fact}
use Rattle.eif_body_rules.specs.Judgements.{Judged, ◌▹◌, ◌⊗◌}
use Rattle.eif_body_rules.specs.OperatorRules.{boolean, literal_type, unary_rule, binary_rule}
use Rattle.eif_body_rules.specs.Outcomes.{as_value}
use Rattle.eif_body_rules.specs.Settings.{Setting, is_testable}
use Rattle.eif_body_rules.specs.TestRules.{local_names, test_names, test_faults, test_rule, local_type, bound_local}
use Rattle.eif_valid_bodies.specs.Valid.{TestsTyped, TypedExpression, TypedArguments}
use Rattle.eif_valid_bodies.proofs.Parts.{HasValue, has, unless_has, part_clean, first_clean, second_clean, join_both, rule_has}
use Rattle.eif_valid_bodies.proofs.TypedFacts.{typed_both, attached_typed, typed_if, at_right_typed, unary_typed, operands_typed, bound_typed}
use Rattle.eif_valid_bodies.proofs.TypedRules.{name_has, precursor_has, call_rule_has, used_has, result_has, creation_has, binary_has, unary_has}

module _ (s : Setting) where
  -- of a form that tells nothing
  silent : (k : List Fact) (n : List (List ℕ)) (e : Ex) → HasValue (judge s k n e) → ((b : Bool) → facts s k n b e ≡ [])
      → TypedExpression s k n e
  silent k n e v none =
      record { type = v.it; valid = v.valid; told = λ b. subst (λ fs. TestsTyped fs) (sym (none b)) tt }

  -- ---- each form by its parts

  name_typed : (k : List Fact) (n : List (List ℕ)) (p : Place) (x : List ℕ) (args : Exs)
      → TestsTyped k → (judge s k n (unqualified p x args)).faults ≡ [] → TypedArguments s k n args
      → TypedExpression s k n (unqualified p x args)
  name_typed k n p x args t h a =
      silent k n (unqualified p x args)
      (used_has s (judge_all s k n args) (name_rule s k p x) p p x a.given a.valid (name_has s k p x a.given t) h)
      (λ b. refl)

  precursor_typed : (k : List Fact) (n : List (List ℕ)) (p : Place) (parent : Option NameAt) (args : Exs)
      → (judge s k n (precursor p parent args)).faults ≡ [] → TypedArguments s k n args
      → TypedExpression s k n (precursor p parent args)
  precursor_typed k n p parent args h a =
      silent k n (precursor p parent args)
      (used_has s (judge_all s k n args) (precursor_rule s p parent) p p s.feature a.given a.valid
      (precursor_has s p parent a.given) h)
      (λ b. refl)

  call_typed : (k : List Fact) (n : List (List ℕ)) (p : Place) (e : Ex) (x : NameAt) (args : Exs)
      → (judge s k n (qualified p e x args)).faults ≡ [] → TypedExpression s k n e
      → TypedArguments s k (n ++ test_names e) args → TypedExpression s k n (qualified p e x args)
  call_typed k n p e x args h a b =
      let target : Judged TyT = judge s k n e in
      let rest : Judged (List Argument) = judge_all s k (n ++ test_names e) args in
      silent k n (qualified p e x args)
      (used_has s (target ⊗ rest) (call_rule s (place_of e) x) p x.place x.name (a.type, b.given)
      (join_both target rest a.type b.given a.valid b.valid) (call_rule_has s (place_of e) x a.type b.given) h)
      (λ b. refl)

  creation_typed : (k : List Fact) (n : List (List ℕ)) (p : Place) (w : TypeT) (x : Option NameAt) (args : Exs)
      → (judge s k n (creation p w x args)).faults ≡ [] → TypedArguments s k n args
      → TypedExpression s k n (creation p w x args)
  creation_typed k n p w x args h a =
      let c : Creation = of_written s code.Vgce p w x in
      silent k n (creation p w x args)
      (rule_has (judge_all s k n args) (creation_rule s c (creation_faults s c)) a.given a.valid
      (creation_has s c (creation_faults s c) a.given) h)
      (λ b. refl)

  test_typed : (k : List Fact) (n : List (List ℕ)) (p : Place) (w : Option TypeT) (local : Option NameAt) (e : Ex)
      → (judge s k n (test p w local e)).faults ≡ [] → TypedExpression s k (n ++ local_names local) e
      → TypedExpression s k n (test p w local e)
  test_typed k n p w local e h a =
      let tested : Judged TyT = judge s k (n ++ local_names local) e in
      let bound : List Fact = bound_local p local (local_type s w tested.value) in
      let v : HasValue (judge s k n (test p w local e)) =
      rule_has tested (test_rule (test_faults s k n w local)) a.type a.valid
      (unless_has (test_faults s k n w local) boolean) h in
      record {
        type = v.it;
        valid = v.valid;
        told =
            λ b. typed_if b (told_by_test s e bound)
            (typed_both (all_attached (tested_name (is_testable s) e)) bound
            (attached_typed (tested_name (is_testable s) e))
            (bound_typed s p local w tested.value a.type a.valid.value));
      }

  unary_expression_typed : (k : List Fact) (n : List (List ℕ)) (p : Place) (o : Op) (e : Ex)
      → (judge s k n (unary p o e)).faults ≡ [] → TypedExpression s k n e → TypedExpression s k n (unary p o e)
  unary_expression_typed k n p o e h a =
      let v : HasValue (judge s k n (unary p o e)) =
      rule_has (judge s k n e) (unary_rule s o p) a.type a.valid (unary_has s o p a.type) h in
      record { type = v.it; valid = v.valid; told = λ b. unary_typed o (facts s k n (not b) e) (a.told (not b)) }

  -- what is known in the right operand
  abbrev at : List Fact → List (List ℕ) → Op → Ex → List Fact
  at k n o left = at_right o k (facts s k n (goes_on o) left)

  at_typed : (k : List Fact) (n : List (List ℕ)) (o : Op) (left : Ex) → TestsTyped k → TypedExpression s k n left
      → TestsTyped (at k n o left)
  at_typed k n o left t a = at_right_typed o k (facts s k n (goes_on o) left) t (a.told (goes_on o))

  binary_typed : (k : List Fact) (n : List (List ℕ)) (p : Place) (o : Op) (q : Place) (left right : Ex)
      → (judge s k n (binary p o q left right)).faults ≡ [] → TypedExpression s k n left
      → TypedExpression s (at k n o left) (n ++ test_names left) right → TypedExpression s k n (binary p o q left right)
  binary_typed k n p o q left right h a b =
      let first : Judged TyT = judge s k n left in
      let second : Judged TyT = judge s (at k n o left) (n ++ test_names left) right in
      let v : HasValue (judge s k n (binary p o q left right)) =
      rule_has (first ⊗ second) (binary_rule s o q) (a.type, b.type)
      (join_both first second a.type b.type a.valid b.valid)
      (binary_has s o q (a.type, b.type)) h in
      record {
        type = v.it;
        valid = v.valid;
        told =
            λ c.
            let by_left : List Fact = facts s k n (left_value o c) left in
            let by_right : List Fact = facts s (at k n o left) (n ++ test_names left) c right in
            let by_void : List (List ℕ) = told_by_void (is_testable s) o c left right in
            typed_both (all_attached by_void) (told_by_operands o c (by_left ++ by_right)) (attached_typed by_void)
            (operands_typed o c (by_left ++ by_right)
            (typed_both by_left by_right (a.told (left_value o c)) (b.told c)));
      }

  -- ---- the parts of what has no fault

  given_clean : (k : List Fact) (n : List (List ℕ)) (p : Place) (x : List ℕ) (args : Exs)
      → (judge s k n (unqualified p x args)).faults ≡ [] → (judge_all s k n args).faults ≡ []
  given_clean k n p x args h =
      part_clean (judge_all s k n args) (name_rule s k p x)
      (part_clean (judge_all s k n args ▹ name_rule s k p x) (as_value s p p x) h)

  version_clean : (k : List Fact) (n : List (List ℕ)) (p : Place) (parent : Option NameAt) (args : Exs)
      → (judge s k n (precursor p parent args)).faults ≡ [] → (judge_all s k n args).faults ≡ []
  version_clean k n p parent args h =
      part_clean (judge_all s k n args) (precursor_rule s p parent)
      (part_clean (judge_all s k n args ▹ precursor_rule s p parent) (as_value s p p s.feature) h)

  call_clean : (k : List Fact) (n : List (List ℕ)) (p : Place) (e : Ex) (x : NameAt) (args : Exs)
      → (judge s k n (qualified p e x args)).faults ≡ []
      → ((judge s k n e).faults ≡ []) × ((judge_all s k (n ++ test_names e) args).faults ≡ [])
  call_clean k n p e x args h =
      let target : Judged TyT = judge s k n e in
      let rest : Judged (List Argument) = judge_all s k (n ++ test_names e) args in
      let parts : (target ⊗ rest).faults ≡ [] =
      part_clean (target ⊗ rest) (call_rule s (place_of e) x)
      (part_clean (target ⊗ rest ▹ call_rule s (place_of e) x) (as_value s p x.place x.name) h) in
      (first_clean target rest parts, second_clean target rest parts)

  operands_clean : (k : List Fact) (n : List (List ℕ)) (p : Place) (o : Op) (q : Place) (left right : Ex)
      → (judge s k n (binary p o q left right)).faults ≡ []
      → ((judge s k n left).faults ≡ []) × ((judge s (at k n o left) (n ++ test_names left) right).faults ≡ [])
  operands_clean k n p o q left right h =
      let first : Judged TyT = judge s k n left in
      let second : Judged TyT = judge s (at k n o left) (n ++ test_names left) right in
      let parts : (first ⊗ second).faults ≡ [] = part_clean (first ⊗ second) (binary_rule s o q) h in
      (first_clean first second parts, second_clean first second parts)

  more_clean : (k : List Fact) (n : List (List ℕ)) (e : Ex) (es : Exs) → (judge_all s k n (and_ex e es)).faults ≡ []
      → ((judge s k n e).faults ≡ []) × ((judge_all s k (n ++ test_names e) es).faults ≡ [])
  more_clean k n e es h =
      let first : Judged TyT = judge s k n e in
      let rest : Judged (List Argument) = judge_all s k (n ++ test_names e) es in
      let parts : (first ⊗ rest).faults ≡ [] = part_clean (first ⊗ rest) (first_argument (place_of e)) h in
      (first_clean first rest parts, second_clean first rest parts)

  more_typed : (k : List Fact) (n : List (List ℕ)) (e : Ex) (es : Exs) → (judge_all s k n (and_ex e es)).faults ≡ []
      → TypedExpression s k n e → TypedArguments s k (n ++ test_names e) es → TypedArguments s k n (and_ex e es)
  more_typed k n e es h a b =
      let first : Judged TyT = judge s k n e in
      let rest : Judged (List Argument) = judge_all s k (n ++ test_names e) es in
      let v : HasValue (judge_all s k n (and_ex e es)) =
      rule_has (first ⊗ rest) (first_argument (place_of e)) (a.type, b.given)
      (join_both first rest a.type b.given a.valid b.valid) (λ _. has _) h in
      record { given = v.it; valid = v.valid }

  -- ---- all forms

  mutual
    pub typed_expression : (k : List Fact) (n : List (List ℕ)) (e : Ex) → TestsTyped k → (judge s k n e).faults ≡ []
        → TypedExpression s k n e
    typed_expression k n (literal p x) t h = silent k n (literal p x) (has (literal_type x)) (λ b. refl)
    typed_expression k n (void_value p) t h = silent k n (void_value p) (has none_type) (λ b. refl)
    typed_expression k n (current_value p) t h =
        silent k n (current_value p) (has (own_type s.number s.text)) (λ b. refl)
    typed_expression k n (result_value p) t h = silent k n (result_value p) (result_has s p h) (λ b. refl)
    typed_expression k n (unqualified p x args) t h =
        name_typed k n p x args t h (typed_arguments k n args t (given_clean k n p x args h))
    typed_expression k n (precursor p x args) t h =
        precursor_typed k n p x args h (typed_arguments k n args t (version_clean k n p x args h))
    typed_expression k n (qualified p e x args) t h =
        call_typed k n p e x args h (typed_expression k n e t (call_clean k n p e x args h).0)
        (typed_arguments k (n ++ test_names e) args t (call_clean k n p e x args h).1)
    typed_expression k n (creation p w x args) t h =
        creation_typed k n p w x args h (typed_arguments k n args t (part_clean (judge_all s k n args) _ h))
    typed_expression k n (test p w local e) t h =
        test_typed k n p w local e h
        (typed_expression k (n ++ local_names local) e t (part_clean (judge s k (n ++ local_names local) e) _ h))
    typed_expression k n (paren p e) t h =
        let a : TypedExpression s k n e = typed_expression k n e t h in
        record { type = a.type; valid = a.valid; told = a.told }
    typed_expression k n (unary p o e) t h =
        unary_expression_typed k n p o e h (typed_expression k n e t (part_clean (judge s k n e) _ h))
    typed_expression k n (binary p o q left right) t h =
        let a : TypedExpression s k n left = typed_expression k n left t (operands_clean k n p o q left right h).0 in
        binary_typed k n p o q left right h a
        (typed_expression (at k n o left) (n ++ test_names left) right (at_typed k n o left t a)
        (operands_clean k n p o q left right h).1)

    pub typed_arguments : (k : List Fact) (n : List (List ℕ)) (es : Exs) → TestsTyped k
        → (judge_all s k n es).faults ≡ []
        → TypedArguments s k n es
    typed_arguments k n no_exs t h = record { given = []; valid = record { value = refl; faults = refl } }
    typed_arguments k n (and_ex e es) t h =
        more_typed k n e es h (typed_expression k n e t (more_clean k n e es h).0)
        (typed_arguments k (n ++ test_names e) es t (more_clean k n e es h).1)

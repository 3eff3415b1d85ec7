-- The locals of the tests in a valid expression are free where it stands, and those that it tells of are its own.
use Rattle.std.proofs.Common.{◌≡◌, ◌⊎◌, inl, inr, ℕ, Bool, true, false, List, [], ◌∷◌, ◌++◌, Option, Some, None, refl, sym, ap, ◌∙◌, subst}
use Rattle.std.specs.Prelude.{if◌then◌else◌, not, ◌||◌}
use Rattle.std.specs.Str.{bytes_eq}
use Rattle.std.proofs.lemmas.List.Folds.{list_any-append}
use Rattle.std.proofs.lemmas.Slice.Eq.{bytes_eq-Decides}
use Rattle.eif_base.specs.declared.place.Place.{Place}
use Rattle.eif_base.specs.Numbering.{is_among}
use Rattle.eif_tree.specs.declared.tree.NameAt.{NameAt}
use Rattle.eif_tree.specs.declared.tree.Op.{Op}
use Rattle.eif_tree.specs.declared.tree.Op.TheVariants as op
use Rattle.eif_tree.specs.Tree.{Ex, literal, void_value, current_value, result_value, unqualified, precursor, qualified, creation, test, paren, unary, binary, Exs, no_exs, and_ex}
use Rattle.eif_classes.specs.Types.{TyT}
use Rattle.eif_body_rules.specs.CallRules.{Argument}
use Rattle.eif_body_rules.specs.Conditions.{tested_name, is_short, goes_on, tells_both, left_value, at_right, told_by_unary, told_by_operands, told_by_void}
use Rattle.eif_body_rules.specs.ExpressionTypes.{judge, judge_all, facts, all_attached, told_by_test}
use Rattle.eif_body_rules.specs.Facts.{Fact, attached, usable, Usable, earlier, usable_test}
use Rattle.eif_body_rules.specs.Settings.{Setting, is_testable}
use Rattle.eif_body_rules.specs.TestRules.{local_names, test_names, test_names_in, local_type, bound_local}
use Rattle.eif_valid_bodies.specs.Valid.{Valid}
use Rattle.eif_valid_bodies.specs.ValidCalls.{FirstArgument, ValidName, ValidPrecursor, ValidCall}
use Rattle.eif_valid_bodies.specs.ValidNodes.{IsFree, IsFreeLocal, ValidUnary, ValidBinary, ValidTest, ValidCreation}
use Rattle.eif_valid_bodies.proofs.Parts.{no_value}
use Rattle.eif_valid_bodies.proofs.Calls.{more_given, used_name, used_precursor, used_call}
use Rattle.eif_valid_bodies.proofs.Nodes.{valid_unary, valid_binary, valid_test, valid_creation}

-- ---- names in two lists

true_is_false : true ≡ false → ⊥
true_is_false h = cc

one_of : (a b : Bool) → (a || b) ≡ true → (a ≡ true) ⊎ (b ≡ true)
one_of true b h = inl refl
one_of false b h = inr h

none_of : (a b : Bool) → (a || b) ≡ false → (a ≡ false) × (b ≡ false)
none_of true b h = cc
none_of false b h = (refl, h)

or_true : (a : Bool) → (a || true) ≡ true
or_true true = refl
or_true false = refl

among_either : (xs ys : List (List ℕ)) (x : List ℕ) → is_among (xs ++ ys) x ≡ true
    → (is_among xs x ≡ true) ⊎ (is_among ys x ≡ true)
among_either xs ys x h = one_of (is_among xs x) (is_among ys x) (sym (list_any-append (bytes_eq x) xs ys) ∙ h)

among_neither : (xs ys : List (List ℕ)) (x : List ℕ) → is_among (xs ++ ys) x ≡ false
    → (is_among xs x ≡ false) × (is_among ys x ≡ false)
among_neither xs ys x h = none_of (is_among xs x) (is_among ys x) (sym (list_any-append (bytes_eq x) xs ys) ∙ h)

among_left : (xs ys : List (List ℕ)) (x : List ℕ) → is_among xs x ≡ true → is_among (xs ++ ys) x ≡ true
among_left xs ys x h = list_any-append (bytes_eq x) xs ys ∙ ap (λ b. b || is_among ys x) h

among_right : (xs ys : List (List ℕ)) (x : List ℕ) → is_among ys x ≡ true → is_among (xs ++ ys) x ≡ true
among_right xs ys x h =
    list_any-append (bytes_eq x) xs ys ∙ (ap (λ b. is_among xs x || b) h ∙ or_true (is_among xs x))

-- the one name of a local
local_is : (local : NameAt) (x : List ℕ) → is_among (local_names (Some local)) x ≡ true → local.name ≡ x
local_is local x h = sym ((bytes_eq-Decides x local.name).0 (by_case (bytes_eq x local.name) h))
  where
    by_case : (b : Bool) → (b || false) ≡ true → b ≡ true
    by_case true h = refl
    by_case false h = cc

-- ---- what is usable by more facts

if_none : (b : Bool) (t : Usable) (o : Option Usable) → (if b then Some (earlier t o) else o) ≡ None
    → (b ≡ false) × (o ≡ None)
if_none true t o h = cc
if_none false t o h = (refl, h)

-- what isn't usable by both isn't by the first
front_none : (a b : List Fact) (x : List ℕ) → usable_test (a ++ b) x ≡ None → usable_test a x ≡ None
front_none [] b x h = refl
front_none (attached y ∷ a) b x h = front_none a b x h
front_none (usable y t ∷ a) b x h =
    let each : (bytes_eq y x ≡ false) × (usable_test (a ++ b) x ≡ None) =
    if_none (bytes_eq y x) t (usable_test (a ++ b) x) h in
    ap (λ c. if c then Some (earlier t (usable_test a x)) else usable_test a x) each.0 ∙ front_none a b x each.1

right_none : (o : Op) (k by_left : List Fact) (x : List ℕ) → usable_test (at_right o k by_left) x ≡ None
    → usable_test k x ≡ None
right_none o k by_left x h = by_case (is_short o) h
  where
    by_case : (b : Bool) → usable_test (if b then k ++ by_left else k) x ≡ None → usable_test k x ≡ None
    by_case true h = front_none k by_left x h
    by_case false h = h

-- ---- free names

module _ (s : Setting) where
  -- free, and the name of no earlier test
  abbrev Apart : List Fact → List (List ℕ) → List ℕ → Type 0
  Apart k n x = IsFree s k x × (is_among n x ≡ false)

  -- behind more tests
  less_apart : (k : List Fact) (n m : List (List ℕ)) (x : List ℕ) → Apart k (n ++ m) x → Apart k n x
  less_apart k n m x a = (a.0, (among_neither n m x a.1).0)

  right_apart : (o : Op) (k by_left : List Fact) (n m : List (List ℕ)) (x : List ℕ)
      → Apart (at_right o k by_left) (n ++ m) x → Apart k n x
  right_apart o k by_left n m x a = (
    record { no_test = right_none o k by_left x a.0.no_test; no_entity = a.0.no_entity; no_feature = a.0.no_feature },
    (among_neither n m x a.1).0,
  )

  local_apart : (k : List Fact) (n : List (List ℕ)) (local : Option NameAt) (x : List ℕ) → IsFreeLocal s k n local
      → is_among (local_names local) x ≡ true → Apart k n x
  local_apart k n None x free h = cc
  local_apart k n (Some local) x free h = subst (λ y. Apart k n y) (local_is local x h) free

  by_side : (k : List Fact) (n xs ys : List (List ℕ)) (x : List ℕ) → (is_among xs x ≡ true → Apart k n x)
      → (is_among ys x ≡ true → Apart k n x) → (is_among xs x ≡ true) ⊎ (is_among ys x ≡ true) → Apart k n x
  by_side k n xs ys x f g (inl h) = f h
  by_side k n xs ys x f g (inr h) = g h

  mutual
    pub tests_free : (k : List Fact) (n : List (List ℕ)) (e : Ex) (t : TyT) → Valid (judge s k n e) t
        → (x : List ℕ) → is_among (test_names e) x ≡ true → Apart k n x
    tests_free k n (literal p y) t v x h = cc
    tests_free k n (void_value p) t v x h = cc
    tests_free k n (current_value p) t v x h = cc
    tests_free k n (result_value p) t v x h = cc
    tests_free k n (unqualified p y args) t v x h =
        let c : ValidName s k n y args (Some t) = used_name s k n p y args t v in
        tests_free_in k n args c.given c.args_valid x h
    tests_free k n (precursor p y args) t v x h =
        let c : ValidPrecursor s k n y args (Some t) = used_precursor s k n p y args t v in
        tests_free_in k n args c.given c.args_valid x h
    tests_free k n (qualified p e y args) t v x h =
        let c : ValidCall s k n e y args (Some t) = used_call s k n p e y args t v in
        by_side k n (test_names e) (test_names_in args) x (tests_free k n e c.target c.target_valid x)
        (λ h. less_apart k n (test_names e) x (tests_free_in k (n ++ test_names e) args c.given c.args_valid x h))
        (among_either (test_names e) (test_names_in args) x h)
    tests_free k n (creation p w y args) t v x h =
        let c : ValidCreation s k n p w y args t = valid_creation s k n p w y args t v in
        tests_free_in k n args c.given c.args_valid x h
    tests_free k n (test p w local e) t v x h =
        let c : ValidTest s k n p w local e t = valid_test s k n p w local e t v in
        by_side k n (local_names local) (test_names e) x (local_apart k n local x c.free)
        (λ h. less_apart k n (local_names local) x
        (tests_free k (n ++ local_names local) e c.tested c.tested_valid x h))
        (among_either (local_names local) (test_names e) x h)
    tests_free k n (paren p e) t v x h = tests_free k n e t v x h
    tests_free k n (unary p o e) t v x h =
        let c : ValidUnary s k n o e t = valid_unary s k n p o e t v in
        tests_free k n e c.operand c.operand_valid x h
    tests_free k n (binary p o q left right) t v x h =
        let c : ValidBinary s k n o left right t = valid_binary s k n p o q left right t v in
        let by_left : List Fact = facts s k n (goes_on o) left in
        by_side k n (test_names left) (test_names right) x (tests_free k n left c.first c.left_valid x)
        (λ h. right_apart o k by_left n (test_names left) x
        (tests_free (at_right o k by_left) (n ++ test_names left) right c.second c.right_valid x h))
        (among_either (test_names left) (test_names right) x h)

    pub tests_free_in : (k : List Fact) (n : List (List ℕ)) (es : Exs) (given : List Argument)
        → Valid (judge_all s k n es) given → (x : List ℕ) → is_among (test_names_in es) x ≡ true → Apart k n x
    tests_free_in k n no_exs given v x h = cc
    tests_free_in k n (and_ex e es) given v x h =
        let c : FirstArgument e given (Valid (judge s k n e)) (Valid (judge_all s k (n ++ test_names e) es)) =
        more_given s k n e es given v in
        by_side k n (test_names e) (test_names_in es) x (tests_free k n e c.type c.first_valid x)
        (λ h. less_apart k n (test_names e) x (tests_free_in k (n ++ test_names e) es c.rest c.rest_valid x h))
        (among_either (test_names e) (test_names_in es) x h)

  -- ---- what is told

  both_none : (a b : List Fact) (x : List ℕ) → usable_test a x ≡ None → usable_test b x ≡ None
      → usable_test (a ++ b) x ≡ None
  both_none [] b x p q = q
  both_none (attached y ∷ a) b x p q = both_none a b x p q
  both_none (usable y t ∷ a) b x p q =
      let each : (bytes_eq y x ≡ false) × (usable_test a x ≡ None) = if_none (bytes_eq y x) t (usable_test a x) p in
      ap (λ c. if c then Some (earlier t (usable_test (a ++ b) x)) else usable_test (a ++ b) x) each.0
      ∙ both_none a b x each.1 q

  attached_none : (xs : List (List ℕ)) (x : List ℕ) → usable_test (all_attached xs) x ≡ None
  attached_none [] x = refl
  attached_none (y ∷ xs) x = attached_none xs x

  where_none : (b : Bool) (a : List Fact) (x : List ℕ) → usable_test a x ≡ None
      → usable_test (if b then a else []) x ≡ None
  where_none true a x h = h
  where_none false a x h = refl

  unary_none : (o : Op) (a : List Fact) (x : List ℕ) → usable_test a x ≡ None → usable_test (told_by_unary o a) x ≡ None
  unary_none op.Not a x h = h
  unary_none _ a x h = refl

  differs : (y x : List ℕ) → bytes_eq x y ≡ false → bytes_eq y x ≡ false
  differs y x h = by_case (bytes_eq y x) refl
    where
      by_case : (b : Bool) → bytes_eq y x ≡ b → b ≡ false
      by_case false is = refl
      by_case true is =
          absurd (true_is_false (sym ((bytes_eq-Decides x y).1 (sym ((bytes_eq-Decides y x).0 is))) ∙ h))

  bound_none : (p : Place) (local : Option NameAt) (o : Option TyT) (x : List ℕ)
      → is_among (local_names local) x ≡ false
      → usable_test (bound_local p local o) x ≡ None
  unfolding bound_local
  bound_none p None o x h = refl
  bound_none p (Some local) o x h =
      let u : Usable = record { place = p; type = o } in
      ap (λ b. if b then Some u else None) (differs local.name x (none_of (bytes_eq x local.name) false h).0)

  pub none_told : (k : List Fact) (n : List (List ℕ)) (b : Bool) (e : Ex) (x : List ℕ)
      → is_among (test_names e) x ≡ false
      → usable_test (facts s k n b e) x ≡ None
  none_told k n b (literal p y) x h = refl
  none_told k n b (void_value p) x h = refl
  none_told k n b (current_value p) x h = refl
  none_told k n b (result_value p) x h = refl
  none_told k n b (unqualified p y args) x h = refl
  none_told k n b (precursor p y args) x h = refl
  none_told k n b (qualified p e y args) x h = refl
  none_told k n b (creation p w y args) x h = refl
  none_told k n b (test p w local e) x h =
      let names : List (List ℕ) = tested_name (is_testable s) e in
      let bound : List Fact = bound_local p local (local_type s w (judge s k (n ++ local_names local) e).value) in
      where_none b (told_by_test s e bound) x
      (both_none (all_attached names) bound x (attached_none names x)
      (bound_none p local _ x (among_neither (local_names local) (test_names e) x h).0))
  none_told k n b (paren p e) x h = none_told k n b e x h
  none_told k n b (unary p o e) x h = unary_none o (facts s k n (not b) e) x (none_told k n (not b) e x h)
  none_told k n b (binary p o q left right) x h =
      let at : List Fact = at_right o k (facts s k n (goes_on o) left) in
      let by_left : List Fact = facts s k n (left_value o b) left in
      let by_right : List Fact = facts s at (n ++ test_names left) b right in
      let by_void : List (List ℕ) = told_by_void (is_testable s) o b left right in
      let neither : (is_among (test_names left) x ≡ false) × (is_among (test_names right) x ≡ false) =
      among_neither (test_names left) (test_names right) x h in
      both_none (all_attached by_void) (told_by_operands o b (by_left ++ by_right)) x (attached_none by_void x)
      (where_none (tells_both o b) (by_left ++ by_right) x
      (both_none by_left by_right x (none_told k n (left_value o b) left x neither.0)
      (none_told at (n ++ test_names left) b right x neither.1)))

  pub told_is_own : (k : List Fact) (n : List (List ℕ)) (b : Bool) (e : Ex) (x : List ℕ) (u : Usable)
      → usable_test (facts s k n b e) x ≡ Some u → is_among (test_names e) x ≡ true
  told_is_own k n b e x u h = by_case (is_among (test_names e) x) refl
    where
      by_case : (c : Bool) → is_among (test_names e) x ≡ c → c ≡ true
      by_case true is = refl
      by_case false is = absurd (no_value (sym (none_told k n b e x is) ∙ h))

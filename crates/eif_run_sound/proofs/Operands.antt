-- What operators tell of their operands.
use Rattle.std.proofs.Common.{◌≡◌, ℕ, Bool, true, false, List, [], ◌++◌, Option, Some, None, refl, sym, ap, subst, ◌∙◌, inl, inr, ⊎_elim}
use Rattle.std.specs.Prelude.{if◌then◌else◌}
use Rattle.eif_base.specs.Numbering.{is_among}
use Rattle.eif_tree.specs.declared.tree.NameAt.{NameAt}
use Rattle.eif_tree.specs.declared.tree.Op.{Op}
use Rattle.eif_tree.specs.declared.tree.Op.TheVariants as op
use Rattle.eif_tree.specs.Tree.{Ex, test, paren, unary, binary, ClassT}
use Rattle.eif_classes.specs.Types.{TyT}
use Rattle.eif_body_rules.specs.Conditions as conditions
use Rattle.eif_body_rules.specs.Conditions.{name_in, tested_name, compared_name}
use Rattle.eif_body_rules.specs.ExpressionTypes.{judge, facts, all_attached}
use Rattle.eif_body_rules.specs.Facts.{Fact, Usable, is_known_attached, usable_test}
use Rattle.eif_body_rules.specs.Settings.{Setting, is_testable}
use Rattle.eif_body_rules.specs.TestRules.{local_names, test_names}
use Rattle.eif_flow_rules.specs.TestLocals.{local_name, usable_if_true, usable_if_false, usable_by_left}
use Rattle.eif_meaning.specs.Values.{Value, void, integer, boolean, character, reference, State}
use Rattle.eif_meaning.specs.Calls.{is_void}
use Rattle.eif_meaning.specs.Frames.{entity}
use Rattle.eif_meaning.specs.Operators.{same_value}
use Rattle.eif_valid_bodies.specs.KnownStays.{Fewer}
use Rattle.eif_valid_bodies.specs.Valid.{Valid}
use Rattle.eif_valid_bodies.proofs.TestsFree.{tests_free}
use Rattle.eif_run_laws.proofs.Lists.{some_is}
use Rattle.eif_run_sound.specs.Bodies.{Running, setting_of}
use Rattle.eif_run_sound.specs.ExpressionRuns.{IsEntity, HidesNone}
use Rattle.eif_run_sound.specs.Invariant.{held_in, Held}
use Rattle.eif_run_sound.specs.UniverseLaws.{UniverseLaws}
use Rattle.eif_run_sound.proofs.States.{or_left, or_right, among_left, among_right, among_cases}
use Rattle.eif_run_sound.proofs.Known.{Apart, attached_append, usable_left, usable_right, held_none, held_attached, told_none, true_or_false}
use Rattle.eif_run_sound.proofs.Tests.{tested_is}

-- ---- hidden names

local_is : (l : Option NameAt) (x : List ℕ) → is_among (local_name l) x ≡ true → is_among (local_names l) x ≡ true
local_is None x h = h
local_is (Some n) x h = h

mutual
  -- what a test makes usable is the name of a test
  pub true_is_test : (e : Ex) (x : List ℕ) → is_among (usable_if_true e) x ≡ true → is_among (test_names e) x ≡ true
  true_is_test (test p t l e) x h = among_left (local_names l) (test_names e) x (local_is l x h)
  true_is_test (paren p e) x h = true_is_test e x h
  true_is_test (unary p op.Not e) x h = false_is_test e x h
  true_is_test (binary p op.And q l r) x h =
      among_cases (usable_if_true l) (usable_if_true r) x h
      (λ i. among_left (test_names l) (test_names r) x (true_is_test l x i))
      (λ i. among_right (test_names l) (test_names r) x (true_is_test r x i))
  true_is_test (binary p op.AndThen q l r) x h =
      among_cases (usable_if_true l) (usable_if_true r) x h
      (λ i. among_left (test_names l) (test_names r) x (true_is_test l x i))
      (λ i. among_right (test_names l) (test_names r) x (true_is_test r x i))
  true_is_test _ x h = cc

  pub false_is_test : (e : Ex) (x : List ℕ) → is_among (usable_if_false e) x ≡ true → is_among (test_names e) x ≡ true
  false_is_test (paren p e) x h = false_is_test e x h
  false_is_test (unary p op.Not e) x h = true_is_test e x h
  false_is_test (binary p op.Or q l r) x h =
      among_cases (usable_if_false l) (usable_if_false r) x h
      (λ i. among_left (test_names l) (test_names r) x (false_is_test l x i))
      (λ i. among_right (test_names l) (test_names r) x (false_is_test r x i))
  false_is_test (binary p op.OrElse q l r) x h =
      among_cases (usable_if_false l) (usable_if_false r) x h
      (λ i. among_left (test_names l) (test_names r) x (false_is_test l x i))
      (λ i. among_right (test_names l) (test_names r) x (false_is_test r x i))
  false_is_test (binary p op.Implies q l r) x h =
      among_cases (usable_if_true l) (usable_if_false r) x h
      (λ i. among_left (test_names l) (test_names r) x (true_is_test l x i))
      (λ i. among_right (test_names l) (test_names r) x (false_is_test r x i))
  false_is_test _ x h = cc

left_is_test : (o : Op) (e : Ex) (x : List ℕ) → is_among (usable_by_left o e) x ≡ true
    → is_among (test_names e) x ≡ true
left_is_test op.AndThen e x h = true_is_test e x h
left_is_test op.Implies e x h = true_is_test e x h
left_is_test op.OrElse e x h = false_is_test e x h
left_is_test _ e x h = cc

-- ---- what is known behind

-- two lists of facts that share no usable test say what the first says
pub fewer_append : (k l : List Fact) → Apart k l → Fewer k (k ++ l)
fewer_append k l apart = record {
  attached = λ x h. attached_append k l x ∙ or_left (is_known_attached k x) (is_known_attached l x) h;
  usable = λ x w h. ⊎_elim
      (λ none. let q : None ≡ Some w = sym none ∙ h in cc)
      (λ none. usable_left k l x none ∙ h)
      (apart x);
}

pub fewer_right : (k l : List Fact) → Apart k l → Fewer l (k ++ l)
fewer_right k l apart = record {
  attached = λ x h. attached_append k l x ∙ or_right (is_known_attached k x) (is_known_attached l x) h;
  usable = λ x w h. ⊎_elim
      (λ none. usable_right k l x none ∙ h)
      (λ none. let q : None ≡ Some w = sym none ∙ h in cc)
      (apart x);
}

-- an operand tells of other tests than the one on its left
pub operands_apart : (s : Setting) (k : List Fact) (n : List (List ℕ)) (a b : Bool) (l r : Ex) (j : List Fact)
    (t : TyT)
    → Valid (judge s j (n ++ test_names l) r) t
    → Apart (facts s k n a l) (facts s j (n ++ test_names l) b r)
operands_apart s k n a b l r j t valid x = ⊎_elim
    (λ h. inl (told_none s k n a l x (not_left (tests_free s j (n ++ test_names l) r t valid x h).1)))
    (λ h. inr (told_none s j (n ++ test_names l) b r x h))
    (true_or_false (is_among (test_names r) x))
  where
    not_left : is_among (n ++ test_names l) x ≡ false → is_among (test_names l) x ≡ false
    not_left e = ⊎_elim
        (λ h. let q : true ≡ false = sym (among_right n (test_names l) x h) ∙ e in cc)
        (λ h. h) (true_or_false (is_among (test_names l) x))

-- the same of a test whose locals are bound by the right operand
pub left_kept : (s : Setting) (k : List Fact) (n : List (List ℕ)) (a : Bool) (l r : Ex) (j : List Fact) (t : TyT)
    → Valid (judge s j (n ++ test_names l) r) t → (x : List ℕ) (w : Usable)
    → usable_test (facts s k n a l) x ≡ Some w → is_among (test_names r) x ≡ false
left_kept s k n a l r j t valid x w e = ⊎_elim
    (λ h. let q : None ≡ Some w =
    sym (told_none s k n a l x (not_left (tests_free s j (n ++ test_names l) r t valid x h).1)) ∙ e in cc)
    (λ h. h)
    (true_or_false (is_among (test_names r) x))
  where
    not_left : is_among (n ++ test_names l) x ≡ false → is_among (test_names l) x ≡ false
    not_left e = ⊎_elim
        (λ h. let q : true ≡ false = sym (among_right n (test_names l) x h) ∙ e in cc)
        (λ h. h) (true_or_false (is_among (test_names l) x))

-- what differs from Void is something else
pub differs : (v : Value) → same_value v void ≡ false → is_void v ≡ false
differs void e = cc
differs (integer n) e = refl
differs (boolean b) e = refl
differs (character n) e = refl
differs (reference n) e = refl

pub differs_back : (v : Value) → same_value void v ≡ false → is_void v ≡ false
differs_back void e = cc
differs_back (integer n) e = refl
differs_back (boolean b) e = refl
differs_back (character n) e = refl
differs_back (reference n) e = refl

module _ (u : List ClassT) (laws : UniverseLaws u) (r : Running u) where
  abbrev S : Setting
  S = setting_of u r

  -- the names that the left operand makes usable hide no feature
  pub hides_more : (k : List Fact) (n hidden : List (List ℕ)) (e : Ex) (t : TyT) (more : List (List ℕ))
      → Valid (judge S k n e) t → HidesNone u r hidden
      → ((x : List ℕ) → is_among more x ≡ true → is_among (test_names e) x ≡ true) → HidesNone u r (more ++ hidden)
  hides_more k n hidden e t more valid hides own x h =
      among_cases more hidden x h (λ i. (tests_free S k n e t valid x (own x i)).0.no_feature) (hides x)

  pub hides_left : (k : List Fact) (n hidden : List (List ℕ)) (o : Op) (e : Ex) (t : TyT)
      → Valid (judge S k n e) t → HidesNone u r hidden → HidesNone u r (usable_by_left o e ++ hidden)
  hides_left k n hidden o e t valid hides =
      hides_more k n hidden e t (usable_by_left o e) valid hides (left_is_test o e)

  -- ---- comparisons with Void

  -- what a name tells of its value
  abbrev Reads : Ex → Value → State → Type 0
  Reads e v s = (x : List ℕ) → name_in e ≡ Some x → IsEntity (entity r.declaration.tree x) → held_in u r s x ≡ Some v

  named_attached : (e : Ex) (v : Value) (s : State) → Reads e v s → is_void v ≡ false
      → Held u r (all_attached (tested_name (is_testable S) e)) s
  named_attached e v s reads something =
      held_attached u r (tested_name (is_testable S) e) s
      (λ x among a is.
      let q = tested_is u laws r e x among in
      subst (λ a. is_void a ≡ false) (some_is (sym (reads x q.0 q.1) ∙ is)) something)

  -- of two operands that differ the one that is compared with Void is something else
  pub compared : (left right : Ex) (v w : Value) (s : State) → Reads left v s → Reads right w s
      → (conditions.is_void left ≡ true → v ≡ void) → (conditions.is_void right ≡ true → w ≡ void)
      → same_value v w ≡ false → Held u r (all_attached (compared_name (is_testable S) left right)) s
  unfolding compared_name
  compared left right v w s of_left of_right left_void right_void e =
      by (conditions.is_void right) (conditions.is_void left) refl refl
    where
      by : (a b : Bool) → conditions.is_void right ≡ a → conditions.is_void left ≡ b
          → Held u r (all_attached (if a then tested_name (is_testable S) left
          else if b then tested_name (is_testable S) right else [])) s
      by true b i j = named_attached left v s of_left (differs v (sym (ap (same_value v) (right_void i)) ∙ e))
      by false true i j =
          named_attached right w s of_right (differs_back w (sym (ap (λ v. same_value v w) (left_void j)) ∙ e))
      by false false i j = held_none u r s

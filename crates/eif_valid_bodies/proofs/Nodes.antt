-- What a valid expression of each other form says.
use Rattle.std.proofs.Common.{◌≡◌, ◌⊎◌, inl, inr, ℕ, Bool, true, false, List, [], ◌++◌, Option, Some, None, refl, sym, ap, ◌∙◌}
use Rattle.std.specs.Prelude.{if◌then◌else◌, not, ◌&&◌, ◌||◌, is_none}
use Rattle.std.specs.Option.{option_map_or, option_and_then}
use Rattle.eif_base.specs.declared.code.Code.TheVariants as code
use Rattle.eif_base.specs.declared.fault.Fault.{Fault}
use Rattle.eif_base.specs.declared.place.Place.{Place}
use Rattle.eif_tree.specs.declared.tree.Literal.{Literal}
use Rattle.eif_tree.specs.declared.tree.NameAt.{NameAt}
use Rattle.eif_tree.specs.declared.tree.Op.{Op}
use Rattle.eif_tree.specs.declared.tree.Op.TheVariants as op
use Rattle.eif_tree.specs.Tree.{TypeT, Ex, literal, void_value, current_value, result_value, creation, test, paren, unary, binary, Exs}
use Rattle.eif_classes.specs.Constraints.{class_in}
use Rattle.eif_classes.specs.KernelNumbers.{is_basic}
use Rattle.eif_classes.specs.Resolution.{own_type, actuals_in}
use Rattle.eif_classes.specs.Signatures.{Signature, signature, with_actuals}
use Rattle.eif_classes.specs.Types.{TyT, none_type, attached_form}
use Rattle.eif_rules.specs.FaultForms.{fault_where}
use Rattle.eif_body_rules.specs.CallRules.{Argument, visible_result, result_rule}
use Rattle.eif_body_rules.specs.Conditions.{goes_on, at_right}
use Rattle.eif_body_rules.specs.CreationRules.{Creation, of_written, created_line, creator_name, is_deferred, is_creator, wrong_created_type, deferred_class, basic_class, no_creator, creation_faults, creator_call, creator_signature, creation_type, creation_rule}
use Rattle.eif_body_rules.specs.ExpressionTypes.{judge, judge_all, facts, told_by_test}
use Rattle.eif_body_rules.specs.Facts.{Fact, Usable, usable_test}
use Rattle.eif_body_rules.specs.Judgements.{Judged, fine, first_of, ◌▹◌}
use Rattle.eif_body_rules.specs.OperatorRules.{integer, boolean, character, string, literal_type, result_where, are_both, order_rule, binary_rule, unary_rule}
use Rattle.eif_body_rules.specs.Outcomes.{Outcome}
use Rattle.eif_body_rules.specs.Settings.{Setting, fits, Entity, entity_of, Meaning, or_feature, or_entity, or_test, meaning}
use Rattle.eif_body_rules.specs.TestRules.{local_names, test_names, denotes, taken_name, repeated_name, local_faults, wrong_test_type, test_faults, test_rule, local_type, bound_local}
use Rattle.eif_valid_bodies.specs.Valid.{Valid}
use Rattle.eif_valid_bodies.specs.ValidCalls.{IsCalled}
use Rattle.eif_valid_bodies.specs.ValidNodes.{AreBoth, Operands, Operand, ValidUnary, ValidBinary, IsFree, IsFreeLocal, IsUnmarked, ValidTest, IsCreated, ValidCreation}
use Rattle.eif_valid_bodies.proofs.Parts.{no_more, no_value, kept, none_first, ValidNext, valid_next, ValidTwo, valid_two, fine_is, unless_is, unless_judged}
use Rattle.eif_valid_bodies.proofs.Calls.{Called, valid_called, long_is}

-- ---- leaves

pub literal_is : (s : Setting) (k : List Fact) (n : List (List ℕ)) (p : Place) (x : Literal) (t : TyT)
    → Valid (judge s k n (literal p x)) t → t ≡ literal_type x
literal_is s k n p x t v = fine_is (literal_type x) t v

pub void_is : (s : Setting) (k : List Fact) (n : List (List ℕ)) (p : Place) (t : TyT)
    → Valid (judge s k n (void_value p)) t → t ≡ none_type
void_is s k n p t v = fine_is none_type t v

pub current_is : (s : Setting) (k : List Fact) (n : List (List ℕ)) (p : Place) (t : TyT)
    → Valid (judge s k n (current_value p)) t → t ≡ own_type s.number s.text
current_is s k n p t v = fine_is (own_type s.number s.text) t v

visible_is : (s : Setting) (p : Place) (o : Option TyT) (t : TyT) → Valid (visible_result s p o) t → o ≡ Some t
visible_is s p None t v = absurd (no_value v.value)
visible_is s p (Some u) t v = v.value

pub result_seen : (s : Setting) (p : Place) (t : TyT) → Valid (result_rule s p) t → s.result ≡ Some t
unfolding result_rule
result_seen s p t v = visible_is s p s.result t v

pub result_is : (s : Setting) (k : List Fact) (n : List (List ℕ)) (p : Place) (t : TyT)
    → Valid (judge s k n (result_value p)) t → s.result ≡ Some t
result_is s k n p t v = result_seen s p t v

pub paren_is : (s : Setting) (k : List Fact) (n : List (List ℕ)) (p : Place) (e : Ex) (t : TyT)
    → Valid (judge s k n (paren p e)) t → Valid (judge s k n e) t
paren_is s k n p e t v = v

-- ---- operators

both_true : (a b : Bool) → (a && b) ≡ true → (a ≡ true) × (b ≡ true)
both_true true b h = (refl, h)
both_true false b h = cc

module _ (s : Setting) where
  result_by : (o : Op) (q : Place) (b : Bool) (t u : TyT) → Valid (result_where s o q b t) u → (b ≡ true) × (u ≡ t)
  result_by o q true t u v = (refl, fine_is t u v)
  result_by o q false t u v = absurd (no_value v.value)

  both_by : (o : Op) (q : Place) (w a b t u : TyT) → Valid (result_where s o q (are_both s w (a, b)) t) u
      → AreBoth s w a b × (u ≡ t)
  both_by o q w a b t u v =
      let r : (are_both s w (a, b) ≡ true) × (u ≡ t) = result_by o q (are_both s w (a, b)) t u v in
      (both_true (fits s a w) (fits s b w) r.0, r.1)

  sum_by : (q : Place) (is_text : Bool) (a b u : TyT) → are_both s string (a, b) ≡ is_text
      → Valid (if is_text then fine string else result_where s op.Plus q (are_both s integer (a, b)) integer) u
      → Operands s op.Plus a b u
  sum_by q true a b u is v = inl (both_true (fits s a string) (fits s b string) is, fine_is string u v)
  sum_by q false a b u is v = inr (both_by op.Plus q integer a b integer u v)

  either_by : (a b : TyT) (numbers : Bool) → are_both s integer (a, b) ≡ numbers
      → (numbers || are_both s character (a, b)) ≡ true → AreBoth s integer a b ⊎ AreBoth s character a b
  either_by a b true is h = inl (both_true (fits s a integer) (fits s b integer) is)
  either_by a b false is h = inr (both_true (fits s a character) (fits s b character) h)

  order_by : (o : Op) (q : Place) (a b u : TyT) → Valid (order_rule s o q (a, b)) u
      → (AreBoth s integer a b ⊎ AreBoth s character a b) × (u ≡ boolean)
  order_by o q a b u v =
      let r : ((are_both s integer (a, b) || are_both s character (a, b)) ≡ true) × (u ≡ boolean) =
      result_by o q (are_both s integer (a, b) || are_both s character (a, b)) boolean u v in
      (either_by a b (are_both s integer (a, b)) refl r.0, r.1)

  operands_of : (o : Op) (q : Place) (a b u : TyT) → Valid (binary_rule s o q (a, b)) u → Operands s o a b u
  unfolding binary_rule
  operands_of op.Plus q a b u v = sum_by q (are_both s string (a, b)) a b u refl v
  operands_of op.Minus q a b u v = both_by op.Minus q integer a b integer u v
  operands_of op.Times q a b u v = both_by op.Times q integer a b integer u v
  operands_of op.Divide q a b u v = both_by op.Divide q integer a b integer u v
  operands_of op.Modulo q a b u v = both_by op.Modulo q integer a b integer u v
  operands_of op.Power q a b u v = both_by op.Power q integer a b integer u v
  operands_of op.Equal q a b u v = fine_is boolean u v
  operands_of op.NotEqual q a b u v = fine_is boolean u v
  operands_of op.Less q a b u v = order_by op.Less q a b u v
  operands_of op.Greater q a b u v = order_by op.Greater q a b u v
  operands_of op.LessEqual q a b u v = order_by op.LessEqual q a b u v
  operands_of op.GreaterEqual q a b u v = order_by op.GreaterEqual q a b u v
  operands_of o q a b u v = both_by o q boolean a b boolean u v

  operand_of : (o : Op) (q : Place) (a u : TyT) → Valid (unary_rule s o q a) u → Operand s o a u
  unfolding unary_rule
  operand_of op.Not q a u v = result_by op.Not q (fits s a boolean) boolean u v
  operand_of o q a u v = result_by o q (fits s a integer) integer u v

  pub valid_unary : (k : List Fact) (n : List (List ℕ)) (p : Place) (o : Op) (e : Ex) (t : TyT)
      → Valid (judge s k n (unary p o e)) t → ValidUnary s k n o e t
  valid_unary k n p o e t v =
      let rule : ValidNext (judge s k n e) (unary_rule s o p) t = valid_next (judge s k n e) _ t v in
      record { operand = rule.value; operand_valid = rule.part; types = operand_of o p rule.value t rule.judged }

  pub valid_binary : (k : List Fact) (n : List (List ℕ)) (p : Place) (o : Op) (q : Place) (left right : Ex) (t : TyT)
      → Valid (judge s k n (binary p o q left right)) t → ValidBinary s k n o left right t
  valid_binary k n p o q left right t v =
      let at : Judged TyT =
      judge s (at_right o k (facts s k n (goes_on o) left)) (n ++ test_names left) right in
      let two : ValidTwo (judge s k n left) at (binary_rule s o q) t = valid_two (judge s k n left) at _ t v in
      record {
        first = two.first;
        second = two.second;
        left_valid = two.first_valid;
        right_valid = two.second_valid;
        types = operands_of o q two.first two.second t two.judged;
      }

  -- ---- object tests

  no_feature_by : (o : Option Signature) → denotes (or_feature o) ≡ false → o ≡ None
  no_feature_by None h = refl
  no_feature_by (Some g) h = cc

  no_entity_by : (o : Option Entity) (m : Meaning) → denotes (or_entity m o) ≡ false → (o ≡ None) × (denotes m ≡ false)
  no_entity_by None m h = (refl, h)
  no_entity_by (Some e) m h = cc

  no_test_by : (o : Option Usable) (m : Meaning) → denotes (or_test m o) ≡ false → (o ≡ None) × (denotes m ≡ false)
  no_test_by None m h = (refl, h)
  no_test_by (Some t) m h = cc

  is_free : (k : List Fact) (x : List ℕ) → denotes (meaning s k x) ≡ false → IsFree s k x
  unfolding meaning
  is_free k x h =
      let a : (usable_test k x ≡ None)
      × (denotes (or_entity (or_feature (signature s.universe s.line x)) (entity_of s x)) ≡ false) =
      no_test_by (usable_test k x) _ h in
      let b : (entity_of s x ≡ None) × (denotes (or_feature (signature s.universe s.line x)) ≡ false) =
      no_entity_by (entity_of s x) _ a.1 in
      record { no_test = a.0; no_entity = b.0; no_feature = no_feature_by (signature s.universe s.line x) b.1 }

  free_local : (k : List Fact) (n : List (List ℕ)) (local : Option NameAt)
      → option_map_or (local_faults s k n) local [] ≡ [] → IsFreeLocal s k n local
  free_local k n None h = tt
  free_local k n (Some local) h =
      let each : (taken_name s k local ≡ []) × (repeated_name s n local ≡ []) = none_first _ _ h in
      (is_free k local.name (kept _ _ each.0), kept _ _ each.1)

  unmarked : (w : Option TypeT) → option_map_or (wrong_test_type s) w [] ≡ [] → IsUnmarked w
  unmarked None h = tt
  unmarked (Some t) h = kept _ _ h

  none_wrong : (k : List Fact) (n : List (List ℕ)) (w : Option TypeT) (local : Option NameAt)
      → test_faults s k n w local ≡ []
      → IsFreeLocal s k n local × IsUnmarked w
  unfolding test_faults
  none_wrong k n w local h =
      let each : (option_map_or (local_faults s k n) local [] ≡ []) × (option_map_or (wrong_test_type s) w [] ≡ []) =
      none_first _ _ h in
      (free_local k n local each.0, unmarked w each.1)

  pub valid_test : (k : List Fact) (n : List (List ℕ)) (p : Place) (w : Option TypeT) (local : Option NameAt) (e : Ex)
      (t : TyT)
      → Valid (judge s k n (test p w local e)) t → ValidTest s k n p w local e t
  valid_test k n p w local e t v =
      let tested : Judged TyT = judge s k (n ++ local_names local) e in
      let rule : ValidNext tested (test_rule (test_faults s k n w local)) t = valid_next tested _ t v in
      let same : (test_faults s k n w local ≡ []) × (t ≡ boolean) =
      unless_is (test_faults s k n w local) boolean t rule.judged in
      let none : IsFreeLocal s k n local × IsUnmarked w = none_wrong k n w local same.0 in
      record {
        tested = rule.value;
        tested_valid = rule.part;
        free = none.0;
        unmarked = none.1;
        told = ap (λ o. told_by_test s e (bound_local p local (local_type s w o))) rule.part.value;
        is = same.1;
      }

  -- ---- creations

  record CreatedClass (c : Creation) : Type 0 where
    class : ℕ
    class_is : class_in c.type ≡ Some class
    unmarked : c.is_marked ≡ false
    effective : is_deferred s class ≡ false
    reference : is_basic class ≡ false

  class_by : (c : Creation) (o : Option ℕ) (f g h : Fault) → class_in c.type ≡ o
      → fault_where (is_none o || c.is_marked) f ≡ [] → fault_where (option_map_or (is_deferred s) o false) g ≡ []
      → fault_where (option_map_or is_basic o false) h ≡ [] → CreatedClass c
  class_by c None f g h is a b d = absurd (no_more a)
  class_by c (Some class) f g h is a b d =
      record { class = class; class_is = is; unmarked = kept _ f a; effective = kept _ g b; reference = kept _ h d }

  record Creator (c : Creation) : Type 0 where
    creator : List ℕ
    named : creator_name s c ≡ Some creator
    is_one : is_creator s (created_line s c) creator ≡ true

  not_false : (b : Bool) → not b ≡ false → b ≡ true
  not_false true h = refl
  not_false false h = cc

  creator_by : (c : Creation) (o : Option (List ℕ)) (f : Fault) → creator_name s c ≡ o
      → fault_where (not (option_map_or (is_creator s (created_line s c)) o false)) f ≡ [] → Creator c
  creator_by c None f is h = absurd (no_more h)
  creator_by c (Some x) f is h = record { creator = x; named = is; is_one = not_false _ (kept _ f h) }

  created_by : (c : Creation) → creation_faults s c ≡ [] → CreatedClass c × Creator c
  unfolding creation_faults
  created_by c h =
      let a : (wrong_created_type s c ≡ [])
      × (first_of (deferred_class s c) (first_of (basic_class s c) (no_creator s c)) ≡ []) =
      none_first _ _ h in
      let b : (deferred_class s c ≡ []) × (first_of (basic_class s c) (no_creator s c) ≡ []) = none_first _ _ a.1 in
      let d : (basic_class s c ≡ []) × (no_creator s c ≡ []) = none_first _ _ b.1 in
      (class_by c (class_in c.type) _ _ _ refl a.0 b.0 d.0, creator_by c (creator_name s c) _ refl d.1)

  record CreatorCalled (c : Creation) (args : List Argument) : Type 0 where
    signed : Signature
    found : creator_signature s c ≡ Some signed
    called : IsCalled s args (with_actuals (actuals_in c.type) signed)

  called_by_creation : (c : Creation) (args : List Argument) (g : Option Signature) (o : Outcome) (t : TyT)
      → creator_signature s c ≡ g → Valid (creator_call s c args g) o → Valid (creation_type s c o) t
      → CreatorCalled c args × (t ≡ attached_form c.type)
  called_by_creation c args None o t is v r = absurd (no_value v.value)
  called_by_creation c args (Some g) o t is v r =
      let call : Called s args (with_actuals (actuals_in c.type) g) o =
      valid_called s _ _ args (with_actuals (actuals_in c.type) g) o v in
      let short : (o.is_long ≡ false) × (t ≡ attached_form c.type) =
      long_is s c.place o.is_long (attached_form c.type) t r in
      (record { signed = g; found = is; called = call.fit_if (ap (λ o. o.is_long) (sym call.is) ∙ short.0) }, short.1)

  pub record Made (c : Creation) (wrong : List Fault) (args : List Argument) (t : TyT) : Type 0 where
    pub created : IsCreated s c args
    pub is : t ≡ attached_form c.type

  -- the rule of a creation, with all that is judged of it before its call
  pub made_by : (c : Creation) (wrong : List Fault) (args : List Argument) (t : TyT)
      → (wrong ≡ [] → creation_faults s c ≡ []) → Valid (creation_rule s c wrong args) t
      → (wrong ≡ []) × Made c wrong args t
  unfolding creation_rule
  made_by c wrong args t right v =
      let call : Judged Outcome = creator_call s c args (creator_signature s c) in
      let judged : (wrong ≡ []) × Valid (call ▹ creation_type s c) t =
      unless_judged wrong (call ▹ creation_type s c) t v in
      let rule : ValidNext call (creation_type s c) t = valid_next call (creation_type s c) t judged.1 in
      let by : CreatedClass c × Creator c = created_by c (right judged.0) in
      let it : CreatorCalled c args × (t ≡ attached_form c.type) =
      called_by_creation c args (creator_signature s c) rule.value t refl rule.part rule.judged in (
        judged.0,
        record {
          created =
              record {
                class = by.0.class;
                creator = by.1.creator;
                signed = it.0.signed;
                class_is = by.0.class_is;
                unmarked = by.0.unmarked;
                effective = by.0.effective;
                reference = by.0.reference;
                named = by.1.named;
                is_one = by.1.is_one;
                found =
                    ap (λ n. option_and_then (signature s.universe (created_line s c)) n) (sym by.1.named)
                    ∙ it.0.found;
                called = it.0.called;
              };
          is = it.1;
        },
      )

  pub valid_creation : (k : List Fact) (n : List (List ℕ)) (p : Place) (w : TypeT) (x : Option NameAt) (args : Exs)
      (t : TyT)
      → Valid (judge s k n (creation p w x args)) t → ValidCreation s k n p w x args t
  valid_creation k n p w x args t v =
      let c : Creation = of_written s code.Vgce p w x in
      let rule : ValidNext (judge_all s k n args) (creation_rule s c (creation_faults s c)) t =
      valid_next (judge_all s k n args) _ t v in
      let made : (creation_faults s c ≡ []) × Made c (creation_faults s c) rule.value t =
      made_by c (creation_faults s c) rule.value t (λ h. h) rule.judged in
      record { given = rule.value; args_valid = rule.part; created = made.1.created; is = made.1.is }

-- Each rule that is not broken gives a value.
use Rattle.std.proofs.Common.{◌≡◌, ℕ, Bool, true, false, List, [], ◌∷◌, length, Option, Some, None, refl, ◌==◌}
use Rattle.std.specs.Prelude.{if◌then◌else◌, ◌||◌}
use Rattle.eif_base.specs.declared.code.Code.TheVariants as code
use Rattle.eif_base.specs.declared.fault.Fault.{Fault}
use Rattle.eif_base.specs.declared.place.Place.{Place}
use Rattle.eif_tree.specs.declared.tree.NameAt.{NameAt}
use Rattle.eif_tree.specs.declared.tree.Op.{Op}
use Rattle.eif_tree.specs.declared.tree.Op.TheVariants as op
use Rattle.eif_classes.specs.Clients.{is_available}
use Rattle.eif_classes.specs.Constraints.{is_attached}
use Rattle.eif_system.specs.Lineage.{Line}
use Rattle.eif_classes.specs.Signatures.{Signature, SignedEntry}
use Rattle.eif_classes.specs.Types.{TyT, Actuals, attached_form}
use Rattle.eif_rules.specs.FaultForms.{fault_where}
use Rattle.eif_body_rules.specs.CallRules.{Argument, wrong_arguments, call_of, use_of, name_rule, visible_result, result_rule, found_call, call_through, base_line, base_actuals, call_rule, version_call, precursor_rule}
use Rattle.eif_body_rules.specs.CreationRules.{Creation, creator_call, creator_signature, creation_type, creation_rule}
use Rattle.eif_body_rules.specs.Facts.{Fact}
use Rattle.eif_body_rules.specs.Judgements.{Judged, fine, broken, unless, ◌▹◌}
use Rattle.eif_body_rules.specs.OperatorRules.{integer, boolean, character, string, operator_text, result_where, are_both, order_rule, binary_rule, unary_rule}
use Rattle.eif_body_rules.specs.Outcomes.{Given, nothing, a_value, Outcome, given, outcome, value_of, as_value, instruction_of, as_instruction}
use Rattle.eif_body_rules.specs.Settings.{Setting, fault, fits, Meaning, test_local, entity, feature, unknown, meaning}
use Rattle.eif_valid_bodies.specs.Valid.{Valid, HasType, TestsTyped}
use Rattle.eif_valid_bodies.proofs.Parts.{no_more, no_value, HasValue, has, if_has, unless_has, part_clean, rule_clean, join_next, rule_has}
use Rattle.eif_valid_bodies.proofs.TypedFacts.{MeaningTyped, meaning_typed}

-- ---- what a call gives

-- nothing, or a value with a type
abbrev pub GivenTyped : Given → Type 0
GivenTyped nothing = Unit {0}
GivenTyped (a_value t) = HasType t

pub record HasOutcome (j : Judged Outcome) : Type 0 where
  pub it : Outcome
  pub valid : Valid j it
  pub typed : GivenTyped it.gives

given_typed : (t : Option TyT) → GivenTyped (given t)
given_typed None = tt
given_typed (Some t) = record { type = t; is = refl }

fine_outcome : (o : Outcome) → GivenTyped o.gives → HasOutcome (fine o)
fine_outcome o p = record { it = o; valid = record { value = refl; faults = refl }; typed = p }

unless_outcome : (fs : List Fault) (g : Signature) → (unless fs (fine (outcome g))).faults ≡ []
    → HasOutcome (unless fs (fine (outcome g)))
unless_outcome [] g h = fine_outcome (outcome g) (given_typed g.result)
unless_outcome (f ∷ fs) g h = absurd (no_more h)

if_called : (b : Bool) (fs : List Fault) (g : Signature) (f : Fault)
    → (if b then unless fs (fine (outcome g)) else broken f).faults ≡ []
    → HasOutcome (if b then unless fs (fine (outcome g)) else broken f)
if_called true fs g f h = unless_outcome fs g h
if_called false fs g f h = absurd (no_more h)

module _ (s : Setting) where
  call_has : (q : Place) (x : List ℕ) (args : List Argument) (g : Signature) → (call_of s q x args g).faults ≡ []
      → HasOutcome (call_of s q x args g)
  unfolding call_of
  call_has q x args g h =
      if_called (length args == length g.arguments) (wrong_arguments s x args g.arguments) g (fault s code.Vuar 1 q x) h

  use_has : (k : List Fact) (q : Place) (x : List ℕ) (args : List Argument) (m : Meaning) → MeaningTyped m
      → (use_of s k q x args m).faults ≡ [] → HasOutcome (use_of s k q x args m)
  use_has k q x [] (test_local t) p h = fine_outcome _ p
  use_has k q x (a ∷ args) (test_local t) p h = absurd (no_more h)
  use_has k q x [] (entity e) p h = fine_outcome _ (record { type = _; is = refl })
  use_has k q x (a ∷ args) (entity e) p h = absurd (no_more h)
  use_has k q x args (feature g) p h = call_has q x args g h
  use_has k q x args unknown p h = absurd (no_more h)

  pub name_has : (k : List Fact) (q : Place) (x : List ℕ) (args : List Argument) → TestsTyped k
      → (name_rule s k q x args).faults ≡ [] → HasOutcome (name_rule s k q x args)
  unfolding name_rule
  name_has k q x args p h = use_has k q x args (meaning s k x) (meaning_typed s k x p) h

  version_has : (q : Place) (args : List Argument) (o : Option SignedEntry) → (version_call s q args o).faults ≡ []
      → HasOutcome (version_call s q args o)
  version_has q args None h = absurd (no_more h)
  version_has q args (Some e) h = call_has q s.feature args e.signature h

  pub precursor_has : (q : Place) (parent : Option NameAt) (args : List Argument)
      → (precursor_rule s q parent args).faults ≡ [] → HasOutcome (precursor_rule s q parent args)
  unfolding precursor_rule
  precursor_has q parent args h = version_has q args _ h

  visible_has : (b : Bool) (x : NameAt) (args : List Argument) (g : Signature) (f : Fault)
      → (if b then call_of s x.place x.name args g else broken f).faults ≡ []
      → HasOutcome (if b then call_of s x.place x.name args g else broken f)
  visible_has true x args g f h = call_has x.place x.name args g h
  visible_has false x args g f h = absurd (no_more h)

  found_has : (x : NameAt) (args : List Argument) (l : Line) (o : Option Signature)
      → (found_call s x args l o).faults ≡ []
      → HasOutcome (found_call s x args l o)
  found_has x args l None h = absurd (no_more h)
  found_has x args l (Some g) h =
      visible_has (is_available s.universe l x.name s.number) x args g (fault s code.Vuex 2 x.place x.name) h

  target_has : (b : Bool) (x : NameAt) (args : List Argument) (actuals : Actuals) (l : Line) (f : Fault)
      → (if b then call_through s x args actuals l else broken f).faults ≡ []
      → HasOutcome (if b then call_through s x args actuals l else broken f)
  target_has true x args actuals l f h = found_has x args l _ h
  target_has false x args actuals l f h = absurd (no_more h)

  pub call_rule_has : (p : Place) (x : NameAt) (t : TyT) (args : List Argument)
      → (call_rule s p x (t, args)).faults ≡ []
      → HasOutcome (call_rule s p x (t, args))
  unfolding call_rule
  call_rule_has p x t args h =
      target_has (is_attached s.universe s.number t) x args (base_actuals s t) (base_line s t)
      (fault s code.Vuta 1 p x.name) h

  -- ---- how it is used

  value_has : (p q : Place) (x : List ℕ) (is_long : Bool) (g : Given) → GivenTyped g
      → (value_of s p q x is_long g).faults ≡ [] → HasValue (value_of s p q x is_long g)
  value_has p q x is_long nothing p' h = absurd (no_more h)
  value_has p q x is_long (a_value None) p' h = absurd (no_value p'.is)
  value_has p q x is_long (a_value (Some t)) p' h = unless_has (fault_where is_long (fault s code.Xlim 7 p [])) t h

  instruction_has : (p q : Place) (x : List ℕ) (is_long : Bool) (g : Given)
      → (instruction_of s p q x is_long g).faults ≡ [] → HasValue (instruction_of s p q x is_long g)
  instruction_has p q x is_long nothing h = unless_has (fault_where is_long (fault s code.Xlim 7 p [])) tt h
  instruction_has p q x is_long (a_value t) h = absurd (no_more h)

  -- a part, its rule, and the use of what it gives
  pub used_has : {A : Type 0} (j : Judged A) (rule : A → Judged Outcome) (p q : Place) (x : List ℕ) (a : A) → Valid j a
      → ((rule a).faults ≡ [] → HasOutcome (rule a)) → (j ▹ rule ▹ as_value s p q x).faults ≡ []
      → HasValue (j ▹ rule ▹ as_value s p q x)
  used_has {A} j rule p q x a v whole h =
      let r : HasOutcome (rule a) = whole (rule_clean j rule a v (part_clean (j ▹ rule) (as_value s p q x) h)) in
      let o : Valid (j ▹ rule) r.it = join_next j rule a r.it v r.valid in
      rule_has (j ▹ rule) (as_value s p q x) r.it o (value_has p q x r.it.is_long r.it.gives r.typed) h

  pub stated_has : {A : Type 0} (j : Judged A) (rule : A → Judged Outcome) (p q : Place) (x : List ℕ) (a : A)
      → Valid j a
      → ((rule a).faults ≡ [] → HasOutcome (rule a)) → (j ▹ rule ▹ as_instruction s p q x).faults ≡ []
      → HasValue (j ▹ rule ▹ as_instruction s p q x)
  stated_has {A} j rule p q x a v whole h =
      let r : HasOutcome (rule a) = whole (rule_clean j rule a v (part_clean (j ▹ rule) (as_instruction s p q x) h)) in
      let o : Valid (j ▹ rule) r.it = join_next j rule a r.it v r.valid in
      rule_has (j ▹ rule) (as_instruction s p q x) r.it o (instruction_has p q x r.it.is_long r.it.gives) h

  -- ---- the other rules

  visible_result_has : (p : Place) (o : Option TyT) → (visible_result s p o).faults ≡ []
      → HasValue (visible_result s p o)
  visible_result_has p None h = absurd (no_more h)
  visible_result_has p (Some t) h = has t

  pub result_has : (p : Place) → (result_rule s p).faults ≡ [] → HasValue (result_rule s p)
  unfolding result_rule
  result_has p h = visible_result_has p s.result h

  creator_has : (c : Creation) (args : List Argument) (o : Option Signature) → (creator_call s c args o).faults ≡ []
      → HasOutcome (creator_call s c args o)
  creator_has c args None h = absurd (no_more h)
  creator_has c args (Some g) h = call_has _ _ args _ h

  made_has : (c : Creation) (args : List Argument)
      → (creator_call s c args (creator_signature s c) ▹ creation_type s c).faults ≡ []
      → HasValue (creator_call s c args (creator_signature s c) ▹ creation_type s c)
  made_has c args h =
      let call : Judged Outcome = creator_call s c args (creator_signature s c) in
      let r : HasOutcome call =
      creator_has c args (creator_signature s c) (part_clean call (creation_type s c) h) in
      rule_has call (creation_type s c) r.it r.valid
      (unless_has (fault_where r.it.is_long (fault s code.Xlim 7 c.place [])) (attached_form c.type)) h

  unless_made : {A : Type 0} (fs : List Fault) (j : Judged A) → (j.faults ≡ [] → HasValue j) → (unless fs j).faults ≡ []
      → HasValue (unless fs j)
  unless_made [] j whole h = whole h
  unless_made (f ∷ fs) j whole h = absurd (no_more h)

  pub creation_has : (c : Creation) (wrong : List Fault) (args : List Argument)
      → (creation_rule s c wrong args).faults ≡ []
      → HasValue (creation_rule s c wrong args)
  unfolding creation_rule
  creation_has c wrong args h =
      unless_made wrong (creator_call s c args (creator_signature s c) ▹ creation_type s c) (made_has c args) h

  where_has : (o : Op) (q : Place) (b : Bool) (t : TyT) → (result_where s o q b t).faults ≡ []
      → HasValue (result_where s o q b t)
  where_has o q b t h = if_has b t (fault s code.Xopr 1 q (operator_text o)) h

  sum_has : (q : Place) (is_text : Bool) (ts : TyT × TyT)
      → (if is_text then fine string else result_where s op.Plus q (are_both s integer ts) integer).faults ≡ []
      → HasValue (if is_text then fine string else result_where s op.Plus q (are_both s integer ts) integer)
  sum_has q true ts h = has string
  sum_has q false ts h = where_has op.Plus q (are_both s integer ts) integer h

  order_has : (o : Op) (q : Place) (ts : TyT × TyT) → (order_rule s o q ts).faults ≡ [] → HasValue (order_rule s o q ts)
  order_has o q ts h = where_has o q (are_both s integer ts || are_both s character ts) boolean h

  pub binary_has : (o : Op) (q : Place) (ts : TyT × TyT) → (binary_rule s o q ts).faults ≡ []
      → HasValue (binary_rule s o q ts)
  unfolding binary_rule
  binary_has op.Plus q ts h = sum_has q (are_both s string ts) ts h
  binary_has op.Minus q ts h = where_has op.Minus q (are_both s integer ts) integer h
  binary_has op.Times q ts h = where_has op.Times q (are_both s integer ts) integer h
  binary_has op.Divide q ts h = where_has op.Divide q (are_both s integer ts) integer h
  binary_has op.Modulo q ts h = where_has op.Modulo q (are_both s integer ts) integer h
  binary_has op.Power q ts h = where_has op.Power q (are_both s integer ts) integer h
  binary_has op.Equal q ts h = has boolean
  binary_has op.NotEqual q ts h = has boolean
  binary_has op.Less q ts h = order_has op.Less q ts h
  binary_has op.Greater q ts h = order_has op.Greater q ts h
  binary_has op.LessEqual q ts h = order_has op.LessEqual q ts h
  binary_has op.GreaterEqual q ts h = order_has op.GreaterEqual q ts h
  binary_has o q ts h = where_has o q (are_both s boolean ts) boolean h

  pub unary_has : (o : Op) (q : Place) (t : TyT) → (unary_rule s o q t).faults ≡ [] → HasValue (unary_rule s o q t)
  unfolding unary_rule
  unary_has op.Not q t h = where_has op.Not q (fits s t boolean) boolean h
  unary_has o q t h = where_has o q (fits s t integer) integer h

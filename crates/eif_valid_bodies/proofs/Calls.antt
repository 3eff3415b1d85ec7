-- What a valid name, call or Precursor says.
use Rattle.std.proofs.Common.{arith, ◌≡◌, ℕ, Bool, true, false, List, [], ◌∷◌, ◌++◌, length, Option, Some, None, refl, sym, ap, ◌∙◌, ◌==◌}
use Rattle.std.specs.Prelude.{if◌then◌else◌, not, ◌&&◌, ◌||◌}
use Rattle.std.specs.List.{list_any}
use Rattle.std.specs.Option.{option_map}
use Rattle.std.proofs.lemmas.Bool.Decides.{nat_tests}
use Rattle.eif_base.specs.declared.code.Code.TheVariants as code
use Rattle.eif_base.specs.declared.fault.Fault.{Fault}
use Rattle.eif_base.specs.declared.place.Place.{Place}
use Rattle.eif_tree.specs.declared.tree.NameAt.{NameAt}
use Rattle.eif_tree.specs.ExpressionPlaces.{place_of}
use Rattle.eif_tree.specs.Tree.{Ex, unqualified, precursor, qualified, Exs, no_exs, and_ex}
use Rattle.eif_classes.specs.Clients.{is_available}
use Rattle.eif_classes.specs.Constraints.{is_attached}
use Rattle.eif_classes.specs.Precursors as versions
use Rattle.eif_classes.specs.Signatures.{Signature, SignedEntry, signature, with_actuals}
use Rattle.eif_classes.specs.Types.{TyT}
use Rattle.eif_rules.specs.FaultForms.{fault_where}
use Rattle.eif_body_rules.specs.CallRules.{Argument, wrong_arguments, call_of, use_of, name_rule, found_call, call_through, base_line, base_actuals, call_rule, version_call, inherited, precursor_rule}
use Rattle.eif_body_rules.specs.ExpressionTypes.{judge, judge_all, first_argument}
use Rattle.eif_body_rules.specs.Facts.{Fact, is_known_attached}
use Rattle.eif_body_rules.specs.InstructionFaults.{judge_each, call_judged}
use Rattle.eif_body_rules.specs.Judgements.{Judged, fine, broken, unless, ◌▹◌, ◌⊗◌}
use Rattle.eif_body_rules.specs.Outcomes.{Given, nothing, a_value, Outcome, given, has_too_many, outcome, long_type, value_of, as_value, instruction_of, as_instruction}
use Rattle.eif_body_rules.specs.Settings.{Setting, fault, fits, Meaning, test_local, entity, feature, unknown, meaning, seen_type}
use Rattle.eif_body_rules.specs.TestRules.{test_names}
use Rattle.eif_valid_bodies.specs.Valid.{Valid, HasType}
use Rattle.eif_valid_bodies.specs.ValidCalls.{FirstArgument, Fit, IsCalled, Gives, ValidName, ValidPrecursor, ValidCall}
use Rattle.eif_valid_bodies.proofs.Parts.{no_more, no_value, some_same, left_empty, right_empty, kept, ValidNext, valid_next, ValidTwo, valid_two, fine_is, unless_is}

-- ---- arguments

pub none_given : (s : Setting) (k : List Fact) (n : List (List ℕ)) (args : List Argument)
    → Valid (judge_all s k n no_exs) args → args ≡ []
none_given s k n args v = fine_is [] args v

pub more_given : (s : Setting) (k : List Fact) (n : List (List ℕ)) (e : Ex) (es : Exs) (args : List Argument)
    → Valid (judge_all s k n (and_ex e es)) args
    → FirstArgument e args (Valid (judge s k n e)) (Valid (judge_all s k (n ++ test_names e) es))
more_given s k n e es args v =
    let first : Judged TyT = judge s k n e in
    let rest : Judged (List Argument) = judge_all s k (n ++ test_names e) es in
    let two : ValidTwo first rest (first_argument (place_of e)) args = valid_two first rest _ args v in
    record {
      type = two.first;
      rest = two.second;
      first_valid = two.first_valid;
      rest_valid = two.second_valid;
      is = fine_is (record { place = place_of e; type = two.first } ∷ two.second) args two.judged;
    }

pub none_whole_given : (s : Setting) (k : List Fact) (args : List Argument)
    → Valid (judge_each s k no_exs) args → args ≡ []
none_whole_given s k args v = fine_is [] args v

pub more_whole_given : (s : Setting) (k : List Fact) (e : Ex) (es : Exs) (args : List Argument)
    → Valid (judge_each s k (and_ex e es)) args
    → FirstArgument e args (Valid (judge s k [] e)) (Valid (judge_each s k es))
more_whole_given s k e es args v =
    let two : ValidTwo (judge s k [] e) (judge_each s k es) (first_argument (place_of e)) args =
    valid_two (judge s k [] e) (judge_each s k es) _ args v in
    record {
      type = two.first;
      rest = two.second;
      first_valid = two.first_valid;
      rest_valid = two.second_valid;
      is = fine_is (record { place = place_of e; type = two.first } ∷ two.second) args two.judged;
    }

-- ---- what a feature is called with

both_false : (a b : Bool) → (a || b) ≡ false → (a ≡ false) × (b ≡ false)
both_false true b h = cc
both_false false b h = (refl, h)

-- a type that is no longer than a type may be is judged
fits_by : (long fit : Bool) (f : Fault) → long ≡ false → fault_where (not long && not fit) f ≡ [] → fit ≡ true
fits_by long true f is h = refl
fits_by true false f is h = cc
fits_by false false f is h = absurd (no_more h)

shorter : {A B : Type 0} (a : A) (xs : List A) (b : B) (ys : List B)
    → (length (a ∷ xs) == length (b ∷ ys)) ≡ true → (length xs == length ys) ≡ true
shorter a xs b ys h = grind (arith, nat_tests)

none_for_one : {A : Type 0} (a : A) (xs : List A) → (0 == length (a ∷ xs)) ≡ true → ⊥
none_for_one a xs h = grind (arith, nat_tests)

one_for_none : {A : Type 0} (a : A) (xs : List A) → (length (a ∷ xs) == 0) ≡ true → ⊥
one_for_none a xs h = grind (arith, nat_tests)

module _ (s : Setting) where
  fit : (x : List ℕ) (args : List Argument) (ts : List TyT)
      → (length args == length ts) ≡ true → list_any has_too_many ts ≡ false → wrong_arguments s x args ts ≡ []
      → Fit s args ts
  unfolding wrong_arguments
  fit x [] [] n short h = tt
  fit x [] (t ∷ ts) n short h = none_for_one t ts n
  fit x (a ∷ args) [] n short h = one_for_none a args n
  fit x (a ∷ args) (t ∷ ts) n short h =
      let each : (has_too_many t ≡ false) × (list_any has_too_many ts ≡ false) = both_false (has_too_many t) _ short in
      let first : List Fault =
      fault_where (not (has_too_many t) && not (fits s a.type t)) (fault s code.Vuar 2 a.place x) in (
        fits_by (has_too_many t) (fits s a.type t) _ each.0 (left_empty first (wrong_arguments s x args ts) h),
        fit x args ts (shorter a args t ts n) each.1 (right_empty first (wrong_arguments s x args ts) h),
      )

  -- a call gives what the signature says; if that isn't too long, the arguments fit
  pub record Called (args : List Argument) (g : Signature) (o : Outcome) : Type 0 where
    pub is : o ≡ outcome g
    pub fit_if : (outcome g).is_long ≡ false → IsCalled s args g

  called_by : (b : Bool) (q : Place) (x : List ℕ) (args : List Argument) (g : Signature) (o : Outcome)
      → (length args == length g.arguments) ≡ b
      → Valid (if b then unless (wrong_arguments s x args g.arguments) (fine (outcome g))
      else broken (fault s code.Vuar 1 q x)) o
      → Called args g o
  called_by true q x args g o n v =
      let same : (wrong_arguments s x args g.arguments ≡ []) × (o ≡ outcome g) =
      unless_is (wrong_arguments s x args g.arguments) (outcome g) o v in
      record {
        is = same.1;
        fit_if =
            λ h. record {
              fit = fit x args g.arguments n (both_false (list_any has_too_many g.arguments) _ h).0 same.0;
              short = h;
            };
      }
  called_by false q x args g o n v = absurd (no_value v.value)

  pub valid_called : (q : Place) (x : List ℕ) (args : List Argument) (g : Signature) (o : Outcome)
      → Valid (call_of s q x args g) o → Called args g o
  unfolding call_of
  valid_called q x args g o v = called_by (length args == length g.arguments) q x args g o refl v

  -- ---- how it is used

  -- what is given is that result, by types that aren't too long
  pub record Results (o : Outcome) (result : Option TyT) : Type 0 where
    pub gives : o.gives ≡ given result
    pub short : o.is_long ≡ false

  pub long_is : {A : Type 0} (p : Place) (is_long : Bool) (a b : A) → Valid (long_type s p is_long a) b
      → (is_long ≡ false) × (b ≡ a)
  long_is p is_long a b v =
      let same : (fault_where is_long (fault s code.Xlim 7 p []) ≡ []) × (b ≡ a) = unless_is _ a b v in
      (kept is_long (fault s code.Xlim 7 p []) same.0, same.1)

  value_is : (p q : Place) (x : List ℕ) (is_long : Bool) (g : Given) (t : TyT)
      → Valid (value_of s p q x is_long g) t → (g ≡ given (Some t)) × (is_long ≡ false)
  value_is p q x is_long nothing t v = absurd (no_value v.value)
  value_is p q x is_long (a_value None) t v = absurd (no_value v.value)
  value_is p q x is_long (a_value (Some u)) t v =
      let same : (is_long ≡ false) × (t ≡ u) = long_is p is_long u t v in
      (ap (λ t. a_value (Some t)) (sym same.1), same.0)

  pub used : (p q : Place) (x : List ℕ) (o : Outcome) (t : TyT) → Valid (as_value s p q x o) t → Results o (Some t)
  used p q x o t v =
      let both : (o.gives ≡ given (Some t)) × (o.is_long ≡ false) = value_is p q x o.is_long o.gives t v in
      record { gives = both.0; short = both.1 }

  nothing_is : (p q : Place) (x : List ℕ) (is_long : Bool) (g : Given)
      → Valid (instruction_of s p q x is_long g) tt → (g ≡ given None) × (is_long ≡ false)
  nothing_is p q x is_long nothing v = (refl, (long_is p is_long tt tt v).0)
  nothing_is p q x is_long (a_value t) v = absurd (no_value v.value)

  pub stated : (p q : Place) (x : List ℕ) (o : Outcome) → Valid (as_instruction s p q x o) tt → Results o None
  stated p q x o v =
      let both : (o.gives ≡ given None) × (o.is_long ≡ false) = nothing_is p q x o.is_long o.gives v in
      record { gives = both.0; short = both.1 }

  same_result : (a b : Option TyT) → given a ≡ given b → a ≡ b
  same_result None None h = refl
  same_result None (Some t) h = cc
  same_result (Some t) None h = cc
  same_result (Some t) (Some u) h = cc

  -- a feature that is called gives that result
  called_is : (args : List Argument) (g : Signature) (o : Outcome) (result : Option TyT)
      → Called args g o → Results o result → IsCalled s args g × (g.result ≡ result)
  called_is args g o result c r =
      let short : (outcome g).is_long ≡ false = ap (λ o. o.is_long) (sym c.is) ∙ r.short in
      (c.fit_if short, same_result g.result result (ap (λ o. o.gives) (sym c.is) ∙ r.gives))

  -- ---- names

  local_gives : (t result : Option TyT) → a_value t ≡ given result → HasType result × (t ≡ result)
  local_gives t None h = cc
  local_gives t (Some u) h = (record { type = u; is = refl }, cc)

  entity_gives : (t : TyT) (result : Option TyT) → a_value (Some t) ≡ given result → Some t ≡ result
  entity_gives t None h = cc
  entity_gives t (Some u) h = cc

  meant : (k : List Fact) (q : Place) (x : List ℕ) (args : List Argument) (m : Meaning) (o : Outcome)
      (result : Option TyT)
      → Valid (use_of s k q x args m) o → Results o result → Gives s k x args result m
  meant k q x [] (test_local t) o result v r =
      let gives : a_value t ≡ given result = ap (λ o. o.gives) (some_same v.value) ∙ r.gives in
      let l : HasType result × (t ≡ result) = local_gives t result gives in
      (refl, l.0, l.1)
  meant k q x (a ∷ args) (test_local t) o result v r = absurd (no_value v.value)
  meant k q x [] (entity e) o result v r =
      let gives : a_value (Some (seen_type (is_known_attached k x) e.type)) ≡ given result =
      ap (λ o. o.gives) (some_same v.value) ∙ r.gives in
      (refl, entity_gives (seen_type (is_known_attached k x) e.type) result gives)
  meant k q x (a ∷ args) (entity e) o result v r = absurd (no_value v.value)
  meant k q x args (feature g) o result v r = called_is args g o result (valid_called q x args g o v) r
  meant k q x args unknown o result v r = absurd (no_value v.value)

  named : (k : List Fact) (q : Place) (x : List ℕ) (args : List Argument) (o : Outcome) (result : Option TyT)
      → Valid (name_rule s k q x args) o → Results o result → Gives s k x args result (meaning s k x)
  unfolding name_rule
  named k q x args o result v r = meant k q x args (meaning s k x) o result v r

  pub valid_name : (k : List Fact) (n : List (List ℕ)) (p : Place) (x : List ℕ) (args : Exs) (o : Outcome)
      (result : Option TyT)
      → Valid (judge_all s k n args ▹ name_rule s k p x) o → Results o result → ValidName s k n x args result
  valid_name k n p x args o result v r =
      let rule : ValidNext (judge_all s k n args) (name_rule s k p x) o = valid_next (judge_all s k n args) _ o v in
      record {
        given = rule.value;
        args_valid = rule.part;
        gives = named k p x rule.value o result rule.judged r;
      }

  -- ---- Precursor

  pub record VersionCalled (parent : Option NameAt) (args : List Argument) (result : Option TyT) : Type 0 where
    pub version : SignedEntry
    pub found : versions.precursor (λ e. e.entry) (option_map (λ n. n.name) parent) (inherited s) ≡ Some version
    pub called : IsCalled s args version.signature
    pub result_is : version.signature.result ≡ result

  version_by : (q : Place) (parent : Option NameAt) (args : List Argument) (o : Outcome) (result : Option TyT)
      (v : Option SignedEntry)
      → versions.precursor (λ e. e.entry) (option_map (λ n. n.name) parent) (inherited s) ≡ v
      → Valid (version_call s q args v) o → Results o result → VersionCalled parent args result
  version_by q parent args o result None is v r = absurd (no_value v.value)
  version_by q parent args o result (Some e) is v r =
      let c : IsCalled s args e.signature × (e.signature.result ≡ result) =
      called_is args e.signature o result (valid_called q s.feature args e.signature o v) r in
      record { version = e; found = is; called = c.0; result_is = c.1 }

  version_at : (q : Place) (parent : Option NameAt) (args : List Argument) (o : Outcome) (result : Option TyT)
      → Valid (precursor_rule s q parent args) o → Results o result → VersionCalled parent args result
  unfolding precursor_rule
  version_at q parent args o result v r = version_by q parent args o result _ refl v r

  pub valid_precursor : (k : List Fact) (n : List (List ℕ)) (p : Place) (parent : Option NameAt) (args : Exs)
      (o : Outcome)
      (result : Option TyT)
      → Valid (judge_all s k n args ▹ precursor_rule s p parent) o → Results o result
      → ValidPrecursor s k n parent args result
  valid_precursor k n p parent args o result v r =
      let rule : ValidNext (judge_all s k n args) (precursor_rule s p parent) o =
      valid_next (judge_all s k n args) _ o v in
      let c : VersionCalled parent rule.value result = version_at p parent rule.value o result rule.judged r in
      record {
        given = rule.value;
        version = c.version;
        args_valid = rule.part;
        found = c.found;
        called = c.called;
        result_is = c.result_is;
      }

  -- ---- calls on a target

  pub record FoundCall (x : NameAt) (args : List Argument) (t : TyT) (result : Option TyT) : Type 0 where
    pub signed : Signature
    pub target_attached : is_attached s.universe s.number t ≡ true
    pub found : signature s.universe (base_line s t) x.name ≡ Some signed
    pub called : IsCalled s args (with_actuals (base_actuals s t) signed)
    pub result_is : (with_actuals (base_actuals s t) signed).result ≡ result

  available : (b : Bool) (x : NameAt) (args : List Argument) (g : Signature) (o : Outcome)
      → Valid (if b then call_of s x.place x.name args g else broken (fault s code.Vuex 2 x.place x.name)) o
      → Called args g o
  available true x args g o v = valid_called x.place x.name args g o v
  available false x args g o v = absurd (no_value v.value)

  found_by : (x : NameAt) (args : List Argument) (t : TyT) (o : Outcome) (result : Option TyT) (g : Option Signature)
      → is_attached s.universe s.number t ≡ true → signature s.universe (base_line s t) x.name ≡ g
      → Valid (found_call s x args (base_line s t) (option_map (with_actuals (base_actuals s t)) g)) o
      → Results o result
      → FoundCall x args t result
  found_by x args t o result None attached is v r = absurd (no_value v.value)
  found_by x args t o result (Some g) attached is v r =
      let signed : Signature = with_actuals (base_actuals s t) g in
      let c : IsCalled s args signed × (signed.result ≡ result) =
      called_is args signed o result
      (available (is_available s.universe (base_line s t) x.name s.number) x args signed o v) r in
      record { signed = g; target_attached = attached; found = is; called = c.0; result_is = c.1 }

  target_by : (b : Bool) (p : Place) (x : NameAt) (args : List Argument) (t : TyT) (o : Outcome) (result : Option TyT)
      → is_attached s.universe s.number t ≡ b
      → Valid (if b then call_through s x args (base_actuals s t) (base_line s t)
      else broken (fault s code.Vuta 1 p x.name)) o
      → Results o result → FoundCall x args t result
  target_by true p x args t o result is v r = found_by x args t o result _ is refl v r
  target_by false p x args t o result is v r = absurd (no_value v.value)

  found_at : (p : Place) (x : NameAt) (args : List Argument) (t : TyT) (o : Outcome) (result : Option TyT)
      → Valid (call_rule s p x (t, args)) o → Results o result → FoundCall x args t result
  unfolding call_rule
  found_at p x args t o result v r = target_by (is_attached s.universe s.number t) p x args t o result refl v r

  pub valid_call : (k : List Fact) (n : List (List ℕ)) (e : Ex) (x : NameAt) (args : Exs) (o : Outcome)
      (result : Option TyT)
      → Valid (judge s k n e ⊗ judge_all s k (n ++ test_names e) args ▹ call_rule s (place_of e) x) o → Results o result
      → ValidCall s k n e x args result
  valid_call k n e x args o result v r =
      let two : ValidTwo (judge s k n e) (judge_all s k (n ++ test_names e) args) (call_rule s (place_of e) x) o =
      valid_two (judge s k n e) (judge_all s k (n ++ test_names e) args) _ o v in
      let c : FoundCall x two.second two.first result =
      found_at (place_of e) x two.second two.first o result two.judged r in
      record {
        target = two.first;
        given = two.second;
        signed = c.signed;
        target_valid = two.first_valid;
        args_valid = two.second_valid;
        target_attached = c.target_attached;
        found = c.found;
        called = c.called;
        result_is = c.result_is;
      }

  -- ---- as expressions

  pub used_name : (k : List Fact) (n : List (List ℕ)) (p : Place) (x : List ℕ) (args : Exs) (t : TyT)
      → Valid (judge s k n (unqualified p x args)) t → ValidName s k n x args (Some t)
  used_name k n p x args t v =
      let j : Judged Outcome = judge_all s k n args ▹ name_rule s k p x in
      let how : ValidNext j (as_value s p p x) t = valid_next j _ t v in
      valid_name k n p x args how.value (Some t) how.part (used p p x how.value t how.judged)

  pub used_precursor : (k : List Fact) (n : List (List ℕ)) (p : Place) (parent : Option NameAt) (args : Exs) (t : TyT)
      → Valid (judge s k n (precursor p parent args)) t → ValidPrecursor s k n parent args (Some t)
  used_precursor k n p parent args t v =
      let j : Judged Outcome = judge_all s k n args ▹ precursor_rule s p parent in
      let how : ValidNext j (as_value s p p s.feature) t = valid_next j _ t v in
      valid_precursor k n p parent args how.value (Some t) how.part (used p p s.feature how.value t how.judged)

  pub used_call : (k : List Fact) (n : List (List ℕ)) (p : Place) (e : Ex) (x : NameAt) (args : Exs) (t : TyT)
      → Valid (judge s k n (qualified p e x args)) t → ValidCall s k n e x args (Some t)
  used_call k n p e x args t v =
      let j : Judged Outcome =
      judge s k n e ⊗ judge_all s k (n ++ test_names e) args ▹ call_rule s (place_of e) x in
      let how : ValidNext j (as_value s p x.place x.name) t = valid_next j _ t v in
      valid_call k n e x args how.value (Some t) how.part (used p x.place x.name how.value t how.judged)

  -- ---- as instructions

  pub stated_name : (k : List Fact) (p : Place) (x : List ℕ) (args : Exs)
      → Valid (call_judged s k (unqualified p x args)) tt → ValidName s k [] x args None
  stated_name k p x args v =
      let j : Judged Outcome = judge_all s k [] args ▹ name_rule s k p x in
      let how : ValidNext j (as_instruction s p p x) tt = valid_next j _ tt v in
      valid_name k [] p x args how.value None how.part (stated p p x how.value how.judged)

  pub stated_precursor : (k : List Fact) (p : Place) (parent : Option NameAt) (args : Exs)
      → Valid (call_judged s k (precursor p parent args)) tt → ValidPrecursor s k [] parent args None
  stated_precursor k p parent args v =
      let j : Judged Outcome = judge_all s k [] args ▹ precursor_rule s p parent in
      let how : ValidNext j (as_instruction s p p s.feature) tt = valid_next j _ tt v in
      valid_precursor k [] p parent args how.value None how.part (stated p p s.feature how.value how.judged)

  pub stated_call : (k : List Fact) (p : Place) (e : Ex) (x : NameAt) (args : Exs)
      → Valid (call_judged s k (qualified p e x args)) tt → ValidCall s k [] e x args None
  stated_call k p e x args v =
      let j : Judged Outcome = judge s k [] e ⊗ judge_all s k (test_names e) args ▹ call_rule s (place_of e) x in
      let how : ValidNext j (as_instruction s p x.place x.name) tt = valid_next j _ tt v in
      valid_call k [] e x args how.value None how.part (stated p x.place x.name how.value how.judged)

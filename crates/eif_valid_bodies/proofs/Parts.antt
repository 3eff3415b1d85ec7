-- No fault in the whole is no fault in the parts.
use Rattle.std.proofs.Common.{◌≡◌, Bool, true, false, List, [], ◌∷◌, ◌++◌, Option, Some, None, refl, sym, ap, ap₂, ◌∙◌}
use Rattle.std.specs.Prelude.{if◌then◌else◌}
use Rattle.eif_base.specs.declared.fault.Fault.{Fault}
use Rattle.eif_rules.specs.FaultForms.{fault_where}
use Rattle.eif_body_rules.specs.Judgements.{Judged, fine, broken, unless, first_of, next, both, ◌▹◌, ◌⊗◌, where_typed}
use Rattle.eif_valid_bodies.specs.Valid.{Valid}

-- ---- lists, options, tests

pub no_more : {A : Type 0} {x : A} {xs : List A} → x ∷ xs ≡ [] → ⊥
no_more {A} {x} {xs} h = cc

pub no_value : {A : Type 0} {a : A} → None ≡ Some a → ⊥
no_value {A} {a} h = cc

pub some_same : {A : Type 0} {a b : A} → Some a ≡ Some b → a ≡ b
some_same {A} {a} {b} h = cc

pub left_empty : {A : Type 0} (xs ys : List A) → xs ++ ys ≡ [] → xs ≡ []
left_empty [] ys h = refl
left_empty (x ∷ xs) ys h = absurd (no_more h)

pub right_empty : {A : Type 0} (xs ys : List A) → xs ++ ys ≡ [] → ys ≡ []
right_empty [] ys h = h
right_empty (x ∷ xs) ys h = absurd (no_more h)

-- a rule that isn't broken
pub kept : (b : Bool) (f : Fault) → fault_where b f ≡ [] → b ≡ false
kept true f h = absurd (no_more h)
kept false f h = refl

pub none_first : (xs ys : List Fault) → first_of xs ys ≡ [] → (xs ≡ []) × (ys ≡ [])
none_first [] ys h = (refl, h)
none_first (x ∷ xs) ys h = absurd (no_more h)

-- what is judged apart of a value that is there
pub rule_empty : {A : Type 0} (o : Option A) (a : A) (rule : A → List Fault) → o ≡ Some a → where_typed o rule ≡ []
    → rule a ≡ []
rule_empty o a rule is h = ap (λ o. where_typed o rule) (sym is) ∙ h

-- ---- the parts of a valid whole

-- the rule was judged at the part's value
pub record ValidNext {A B : Type 0} (j : Judged A) (rule : A → Judged B) (b : B) : Type 0 where
  pub value : A
  pub part : Valid j value
  pub judged : Valid (rule value) b

next_of : {A B : Type 0} (v : Option A) (fs : List Fault) (rule : A → Judged B) (b : B)
    → (next v rule).value ≡ Some b → fs ++ (next v rule).faults ≡ []
    → ValidNext (record { value = v; faults = fs }) rule b
next_of None fs rule b h e = absurd (no_value h)
next_of (Some a) fs rule b h e = record {
  value = a;
  part = record { value = refl; faults = left_empty fs (rule a).faults e };
  judged = record { value = h; faults = right_empty fs (rule a).faults e };
}

pub valid_next : {A B : Type 0} (j : Judged A) (rule : A → Judged B) (b : B) → Valid (j ▹ rule) b → ValidNext j rule b
valid_next j rule b v = next_of j.value j.faults rule b v.value v.faults

pub record ValidBoth {A B : Type 0} (j : Judged A) (k : Judged B) (c : A × B) : Type 0 where
  pub first : A
  pub second : B
  pub first_valid : Valid j first
  pub second_valid : Valid k second
  pub is : c ≡ (first, second)

both_of : {A B : Type 0} (v : Option A) (w : Option B) (fs gs : List Fault) (c : A × B)
    → both v w ≡ Some c → fs ++ gs ≡ []
    → ValidBoth (record { value = v; faults = fs }) (record { value = w; faults = gs }) c
both_of None w fs gs c h e = absurd (no_value h)
both_of (Some a) None fs gs c h e = absurd (no_value h)
both_of (Some a) (Some b) fs gs c h e = record {
  first = a;
  second = b;
  first_valid = record { value = refl; faults = left_empty fs gs e };
  second_valid = record { value = refl; faults = right_empty fs gs e };
  is = cc;
}

pub valid_both : {A B : Type 0} (j : Judged A) (k : Judged B) (c : A × B) → Valid (j ⊗ k) c → ValidBoth j k c
valid_both j k c v = both_of j.value k.value j.faults k.faults c v.value v.faults

-- a rule at the value of two parts
pub rule_at : {A B : Type 0} (rule : A → Judged B) (a c : A) (b : B) → a ≡ c → Valid (rule a) b → Valid (rule c) b
rule_at rule a c b is v = record {
  value = ap (λ x. (rule x).value) (sym is) ∙ v.value;
  faults = ap (λ x. (rule x).faults) (sym is) ∙ v.faults;
}

-- two parts and their rule
pub record ValidTwo {A B C : Type 0} (j : Judged A) (k : Judged B) (rule : A × B → Judged C) (c : C) : Type 0 where
  pub first : A
  pub second : B
  pub first_valid : Valid j first
  pub second_valid : Valid k second
  pub judged : Valid (rule (first, second)) c

pub valid_two : {A B C : Type 0} (j : Judged A) (k : Judged B) (rule : A × B → Judged C) (c : C)
    → Valid (j ⊗ k ▹ rule) c → ValidTwo j k rule c
valid_two {A} {B} {C} j k rule c v =
    let n : ValidNext (j ⊗ k) rule c = valid_next (j ⊗ k) rule c v in
    let e : ValidBoth j k n.value = valid_both j k n.value n.part in
    record {
      first = e.first;
      second = e.second;
      first_valid = e.first_valid;
      second_valid = e.second_valid;
      judged = rule_at rule n.value (e.first, e.second) c e.is n.judged;
    }

pub fine_is : {A : Type 0} (a b : A) → Valid (fine a) b → b ≡ a
fine_is a b v = sym (some_same v.value)

pub unless_is : {A : Type 0} (fs : List Fault) (a b : A) → Valid (unless fs (fine a)) b → (fs ≡ []) × (b ≡ a)
unless_is [] a b v = (refl, fine_is a b v)
unless_is (f ∷ fs) a b v = absurd (no_value v.value)

pub unless_judged : {A : Type 0} (fs : List Fault) (j : Judged A) (a : A) → Valid (unless fs j) a
    → (fs ≡ []) × Valid j a
unless_judged [] j a v = (refl, v)
unless_judged (f ∷ fs) j a v = absurd (no_value v.value)

-- ---- where no fault means a value

pub record HasValue {A : Type 0} (j : Judged A) : Type 0 where
  pub it : A
  pub valid : Valid j it

pub has : {A : Type 0} (a : A) → HasValue (fine a)
has a = record { it = a; valid = record { value = refl; faults = refl } }

pub if_has : {A : Type 0} (b : Bool) (a : A) (f : Fault) → (if b then fine a else broken f).faults ≡ []
    → HasValue (if b then fine a else broken f)
if_has true a f h = has a
if_has false a f h = absurd (no_more h)

pub unless_has : {A : Type 0} (fs : List Fault) (a : A) → (unless fs (fine a)).faults ≡ []
    → HasValue (unless fs (fine a))
unless_has [] a h = has a
unless_has (f ∷ fs) a h = absurd (no_more h)

pub part_clean : {A B : Type 0} (j : Judged A) (rule : A → Judged B) → (j ▹ rule).faults ≡ [] → j.faults ≡ []
part_clean j rule h = left_empty j.faults (next j.value rule).faults h

pub first_clean : {A B : Type 0} (j : Judged A) (k : Judged B) → (j ⊗ k).faults ≡ [] → j.faults ≡ []
first_clean j k h = left_empty j.faults k.faults h

pub second_clean : {A B : Type 0} (j : Judged A) (k : Judged B) → (j ⊗ k).faults ≡ [] → k.faults ≡ []
second_clean j k h = right_empty j.faults k.faults h

pub rule_clean : {A B : Type 0} (j : Judged A) (rule : A → Judged B) (a : A) → Valid j a → (j ▹ rule).faults ≡ []
    → (rule a).faults ≡ []
rule_clean j rule a v h =
    ap (λ o. (next o rule).faults) (sym v.value) ∙ right_empty j.faults (next j.value rule).faults h

pub join_next : {A B : Type 0} (j : Judged A) (rule : A → Judged B) (a : A) (b : B) → Valid j a → Valid (rule a) b
    → Valid (j ▹ rule) b
join_next j rule a b v r = record {
  value = ap (λ o. (next o rule).value) v.value ∙ r.value;
  faults = ap₂ (λ xs ys. xs ++ ys) v.faults (ap (λ o. (next o rule).faults) v.value ∙ r.faults);
}

pub join_both : {A B : Type 0} (j : Judged A) (k : Judged B) (a : A) (b : B) → Valid j a → Valid k b
    → Valid (j ⊗ k) (a, b)
join_both j k a b v w = record {
  value = ap₂ both v.value w.value;
  faults = ap₂ (λ xs ys. xs ++ ys) v.faults w.faults;
}

pub rule_has : {A B : Type 0} (j : Judged A) (rule : A → Judged B) (a : A) → Valid j a
    → ((rule a).faults ≡ [] → HasValue (rule a)) → (j ▹ rule).faults ≡ [] → HasValue (j ▹ rule)
rule_has {A} {B} j rule a v whole h =
    let r : HasValue (rule a) = whole (rule_clean j rule a v h) in
    record { it = r.it; valid = join_next j rule a r.it v r.valid }

-- The marks of the numbers met.
use Rattle.std.proofs.Common.{◌≡◌, ◌≢◌, ℕ, zero, suc, ◌<◌, Bool, true, false, eqb, List, [], ◌∷◌, ◌++◌, length, get_or, set, refl, sym, ap, subst, ◌∙◌, arith, length-set, get_or-set_other, get_or-set_same}
use Rattle.std.specs.Prelude.{◌||◌, ◌==◌}
use Rattle.std.proofs.lemmas.Bool.{eq-eqb, eqb-true}
use Rattle.std.proofs.lemmas.Cmp.{nat_eq_equiv}
use Rattle.std.proofs.lemmas.Map.Keys.{IsDistinct-push, IsDistinct-from_apart}
use Rattle.eif_system.specs.Graph.{is_member}
use Rattle.eif_ancestry.specs.Walks.{has_mark, IsClear, IsTidy}
use Rattle.eif_ancestry.proofs.Members.{or_left, or_false, same_member, member_one_more}

by_test : (P : Type 0) (p a : ℕ) → (a ≡ p → P) → (a ≢ p → (p == a) ≡ false → P) → P
by_test P p a f g = go (p == a) refl
  where
    go : (b : Bool) → (p == a) ≡ b → P
    go true e = f (sym (eqb-true p a e))
    go false e = g (λ q. let z = eq-eqb p a (sym q) in let y : true ≡ false = sym z ∙ e in cc) e

or_true : (b : Bool) → (b || true) ≡ true
or_true true = refl
or_true false = refl

-- one number more is met
module _ (n : ℕ) (met : List ℕ) (marks : List Bool) (p : ℕ) (is : IsTidy n met marks) (within : p < n)
    (unmarked : has_mark marks p ≡ false) where
  room : p < length marks
  room = let e = is.long in omega arith

  marked_more : (a : ℕ) → has_mark (set marks p true) a ≡ is_member a (met ++ p ∷ [])
  marked_more a = by_test _ p a
      (λ e. subst (λ a. has_mark (set marks p true) a ≡ is_member a (met ++ p ∷ [])) (sym e)
      (get_or-set_same marks p true false room
      ∙ sym (member_one_more met p p
      ∙ (ap (λ b. is_member p met || b) (eq-eqb p p refl) ∙ or_true (is_member p met)))))
      (λ ne t. get_or-set_other marks p a true false ne
      ∙ (is.marked a ∙ sym (member_one_more met p a
      ∙ (ap (λ b. is_member a met || b) t ∙ or_false (is_member a met)))))

  pub tidy_more : (new : List ℕ) → new ≡ met ++ p ∷ [] → IsTidy n new (set marks p true)
  tidy_more new e = subst (λ (xs : List ℕ). IsTidy n xs (set marks p true)) (sym e) record {
    long = length-set marks p true ∙ is.long;
    distinct = IsDistinct-push nat_eq_equiv met p is.distinct (same_member p met ∙ (sym (is.marked p) ∙ unmarked));
    marked = marked_more;
  }

pub members_more : (met new : List ℕ) (p : ℕ) → new ≡ met ++ p ∷ [] → (a : ℕ)
    → is_member a new ≡ (is_member a met || (p == a))
members_more met new p e a = ap (is_member a) e ∙ member_one_more met p a

-- a number that is a member already
pub members_same : (met : List ℕ) (p : ℕ) → is_member p met ≡ true → (a : ℕ)
    → is_member a met ≡ (is_member a met || (p == a))
members_same met p h a = by_test _ p a
    (λ e. subst (λ a. is_member a met ≡ (is_member a met || (p == a))) (sym e)
    (h ∙ sym (or_left (is_member p met) (p == p) h)))
    (λ ne t. sym (ap (λ b. is_member a met || b) t ∙ or_false (is_member a met)))

within_marks : (bs : List Bool) (a : ℕ) → get_or bs a false ≡ true → a < length bs
within_marks [] a h = cc
within_marks (b ∷ bs) zero h = omega arith
within_marks (b ∷ bs) (suc a) h = let e = within_marks bs a h in omega arith

pub member_within : (n : ℕ) (met : List ℕ) (marks : List Bool) → IsTidy n met marks → (a : ℕ) → is_member a met ≡ true
    → a < n
member_within n met marks is a h = let e = within_marks marks a (is.marked a ∙ h) in let l = is.long in omega arith

-- where no mark is set no number is met
pub tidy_none : (n : ℕ) (met : List ℕ) (marks : List Bool) → IsClear n met marks → IsTidy (length marks) met marks
tidy_none n [] marks is = record {
  long = refl;
  distinct = IsDistinct-from_apart eqb [] (λ i j d h k. absurd (omega arith));
  marked = λ a. is.none a;
}
tidy_none n (x ∷ met) marks is = let h = is.empty in absurd (omega arith)

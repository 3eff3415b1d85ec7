-- Closed types, and actuals that suit a class, as runs and as rules say them.
use Rattle.std.proofs.Common.{◌≡◌, ℕ, zero, suc, ◌<◌, true, List, [], ◌∷◌, length, Option, Some, None, refl, sym, ap, ◌∙◌, arith}
use Rattle.std.specs.Prelude.{slice_get}
use Rattle.std.specs.Option.{option_map_or}
use Rattle.std.proofs.lemmas.Option.{slice_get_within}
use Rattle.eif_tree.specs.Tree.{ClassT}
use Rattle.eif_classes.specs.Ancestry.{ancestor}
use Rattle.eif_classes.specs.Conformance.{conforms, closed_conforms}
use Rattle.eif_classes.specs.Resolution.{own_formals}
use Rattle.eif_classes.specs.Types.{TyT, class_type, formal_type, none_type, Actuals, no_actuals, and_actual, actual_at}
use Rattle.eif_rules.specs.UniverseRules.{formal_count}
use Rattle.eif_meaning.specs.System.{system_over}
use Rattle.eif_run_laws.specs.ObjectTypes.{IsClosed, AreClosed, Suit}
use Rattle.eif_type_laws.specs.ClassTypes.{IsSomething, actual_count, IsOf, AreOf, constraints_of, Meet, IsHierarchy}
use Rattle.eif_type_laws.proofs.Ancestors.{ancestor_has_class, own_ancestor}
use Rattle.eif_type_laws.proofs.ClassConformance.{actual_if, constraint_is, constraint_count}
use Rattle.eif_type_laws.proofs.Substitution.{count_formals}

count_by : (o : Option ClassT)
    → actual_count (option_map_or own_formals o no_actuals) ≡ option_map_or (λ (c : ClassT). length c.formals) o 0
count_by None = refl
count_by (Some c) = count_formals 0 (length c.formals)

-- a class has as many formals as types
pub count_is : (u : List ClassT) (d : ℕ) → actual_count ((system_over u).formals d) ≡ formal_count u d
count_is u d = count_by (slice_get u d)

pub get_within : {A : Type 0} (xs : List A) (i : ℕ) → i < length xs → (x : A) × (slice_get xs i ≡ Some x)
get_within [] i h = absurd (omega arith)
get_within (x ∷ xs) zero h = (x, refl)
get_within (x ∷ xs) (suc i) h = let g : i < length xs = omega arith in get_within xs i g

-- ---- conformance of closed types, and in a class

pub in_class : (u : List ClassT) (d : ℕ) (a b : TyT) → closed_conforms u a b ≡ true → conforms u d a b ≡ true
in_class u d (class_type k m xs) b h = h
in_class u d (formal_type i m) (class_type j n ys) h = cc
in_class u d (formal_type i m) (formal_type j n) h = cc
in_class u d (formal_type i m) none_type h = cc
in_class u d none_type (class_type j n ys) h = h
in_class u d none_type (formal_type j n) h = cc
in_class u d none_type none_type h = h

pub from_class : (u : List ClassT) (d : ℕ) (a b : TyT) → IsOf u 0 a → IsOf u 0 b → conforms u d a b ≡ true
    → closed_conforms u a b ≡ true
from_class u d (class_type k m xs) b p q h = h
from_class u d (formal_type i m) b p q h = absurd (omega arith)
from_class u d none_type (class_type j n ys) p q h = h
from_class u d none_type (formal_type j n) p q h = absurd (omega arith)
from_class u d none_type none_type p q h = h

-- ---- actuals that meet constraints, one by one

meet_by : (u : List ClassT) (d : ℕ) (xs cs : Actuals) → actual_count xs ≡ actual_count cs
    → ((i : ℕ) (t : TyT) → actual_if cs i ≡ Some t → conforms u d (actual_at xs i) t ≡ true) → Meet u d xs cs
meet_by u d no_actuals no_actuals e f = tt
meet_by u d no_actuals (and_actual c cs) e f = absurd (omega arith)
meet_by u d (and_actual x xs) no_actuals e f = absurd (omega arith)
meet_by u d (and_actual x xs) (and_actual c cs) e f =
    let g : actual_count xs ≡ actual_count cs = omega arith in
    (f zero c refl, meet_by u d xs cs g (λ i t h. f (suc i) t h))

module _ (u : List ClassT) (order : List ℕ) (is : IsHierarchy u order) where
  mutual
    pub closed_is : (t : TyT) → IsClosed (system_over u) t → IsSomething t × IsOf u 0 t
    closed_is (class_type d m ts) h =
        let c = ancestor_has_class u order is d d ((system_over u).formals d) h.0 in
        (tt, (slice_get_within u d c.0 c.1, h.1 ∙ count_is u d, all_closed_is ts h.2))
    closed_is (formal_type i m) h = absurd h
    closed_is none_type h = absurd h

    pub all_closed_is : (ts : Actuals) → AreClosed (system_over u) ts → AreOf u 0 ts
    all_closed_is no_actuals h = tt
    all_closed_is (and_actual t ts) h = let p = closed_is t h.0 in (p.0, p.1, all_closed_is ts h.1)

  -- a class that is there gives itself its formals
  pub there : (d : ℕ) → d < length u → ancestor u d d ≡ Some ((system_over u).formals d)
  there d h =
      let c = get_within u d h in
      own_ancestor u order is d c.0 c.1 ∙ ap (λ o. Some (option_map_or own_formals o no_actuals)) (sym c.1)

  mutual
    pub is_closed : (t : TyT) → IsSomething t → IsOf u 0 t → IsClosed (system_over u) t
    is_closed (class_type d m ts) s h = (there d h.0, h.1 ∙ sym (count_is u d), are_closed ts h.2)
    is_closed (formal_type i m) s h = absurd (omega arith)
    is_closed none_type s h = absurd s

    pub are_closed : (ts : Actuals) → AreOf u 0 ts → AreClosed (system_over u) ts
    are_closed no_actuals h = tt
    are_closed (and_actual t ts) h = (is_closed t h.0 h.1, are_closed ts h.2)

  -- ---- actuals that suit a class

  pub suit_meets : (k : ℕ) (xs : Actuals) → Suit (system_over u) k xs → (d : ℕ) → Meet u d xs (constraints_of u k)
  suit_meets k xs s d =
      meet_by u d xs (constraints_of u k) (s.count ∙ (count_is u k ∙ sym (constraint_count u k)))
      (λ i t e. in_class u d (actual_at xs i) t (s.meet i t (constraint_is u k i ∙ e)))

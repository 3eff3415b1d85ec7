-- Types without formals.
use Rattle.std.proofs.Common.{◌≡◌, ℕ, ◌≤◌, true, List, refl, sym, ◌∙◌, arith}
use Rattle.eif_classes.specs.Conformance.{conforms, closed_conforms}
use Rattle.eif_classes.specs.Types.{TyT, class_type, formal_type, none_type, Actuals, no_actuals, and_actual, put_in}
use Rattle.eif_rules.specs.UniverseRules.{formal_count}
use Rattle.eif_tree.specs.Tree.{ClassT}
use Rattle.eif_type_laws.specs.ClassTypes.{actual_count, IsOf, AreOf, constraints_of, Meet, IsValid, AreValid, IsHierarchy, Defined}
use Rattle.eif_type_laws.proofs.ClassConformance.{meet_count}
use Rattle.eif_type_laws.proofs.Conforming.{substituted}
use Rattle.eif_type_laws.proofs.TypesKept.{all_closed_of, put_of}

pub closed_anywhere : (u : List ClassT) (d : ℕ) (a b : TyT) → IsOf u 0 a → IsOf u 0 b →
    conforms u d a b ≡ closed_conforms u a b
closed_anywhere u d (class_type k m xs) b p q = refl
closed_anywhere u d (formal_type i m) b p q = absurd (omega arith)
closed_anywhere u d none_type (class_type j n ys) p q = refl
closed_anywhere u d none_type (formal_type j n) p q = absurd (omega arith)
closed_anywhere u d none_type none_type p q = refl

closed_meet : (u : List ClassT) (d e : ℕ) (xs cs : Actuals) → AreOf u 0 xs → AreOf u 0 cs → Meet u d xs cs →
    Meet u e xs cs
closed_meet u d e no_actuals no_actuals p q h = tt
closed_meet u d e (and_actual x xs) (and_actual c cs) p q h = (
  closed_anywhere u e x c p.1 q.1 ∙ (sym (closed_anywhere u d x c p.1 q.1) ∙ h.0),
  closed_meet u d e xs cs p.2 q.2 h.1,
)
closed_meet u d e no_actuals (and_actual c cs) p q h = absurd h
closed_meet u d e (and_actual x xs) no_actuals p q h = absurd h

module _ (u : List ClassT) (order : List ℕ) (is : IsHierarchy u order) where
  mutual
    pub closed_valid : (d e : ℕ) (t : TyT) → IsOf u 0 t → IsValid u d t → IsValid u e t
    closed_valid d e (class_type k m ts) p v =
        (closed_meet u d e ts (constraints_of u k) p.2 (is.constraints k) v.0, all_closed_valid d e ts p.2 v.1)
    closed_valid d e (formal_type i m) p v = tt
    closed_valid d e none_type p v = tt

    pub all_closed_valid : (d e : ℕ) (ts : Actuals) → AreOf u 0 ts → AreValid u d ts → AreValid u e ts
    all_closed_valid d e no_actuals p v = tt
    all_closed_valid d e (and_actual t ts) p v =
        (closed_valid d e t p.1 v.0, all_closed_valid d e ts p.2 v.1)

  pub closed_substituted : Defined u → (c d : ℕ) (xs : Actuals) → AreOf u 0 xs → Meet u d xs (constraints_of u c) →
      (a b : TyT) → IsOf u (formal_count u c) a → IsOf u (formal_count u c) b → conforms u c a b ≡ true →
      closed_conforms u (put_in xs a) (put_in xs b) ≡ true
  closed_substituted defined c d xs are meet a b p q h =
      let enough : formal_count u c ≤ actual_count xs = let n = meet_count u c d xs meet in omega arith in
      sym (closed_anywhere u d (put_in xs a) (put_in xs b)
      (put_of u 0 (formal_count u c) xs are enough a p)
      (put_of u 0 (formal_count u c) xs are enough b q))
      ∙ substituted u order is defined c d xs (all_closed_of u (formal_count u d) xs are) meet a b p q h

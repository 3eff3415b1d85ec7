-- What written types mean, where each has the name of a formal or of a class and as many actuals as that takes.
use Rattle.std.proofs.Common.{◌≡◌, ℕ, suc, ◌+◌, ◌<◌, Bool, true, false, ◌⊎◌, inl, inr, List, [], ◌∷◌, length, Some, None, refl, sym, ap, subst, ◌∙◌, arith}
use Rattle.std.proofs.lemmas.Option.{same_Some}
use Rattle.std.specs.List.{list_any, position_from}
use Rattle.std.specs.Prelude.{◌||◌, if◌then◌else◌}
use Rattle.std.specs.Str.{bytes_eq}
use Rattle.eif_classes.specs.Resolution.{formal_number, class_mark, type_of_class, type_denoted, resolved, all_resolved, actuals_in, clause_actuals}
use Rattle.eif_classes.specs.Types.{class_type, formal_type, Actuals}
use Rattle.eif_lineage_laws.proofs.Numbers.{class_number_within}
use Rattle.eif_lineage_laws.proofs.EachItem.{AllOf, all_left, all_right}
use Rattle.eif_lineage_laws.specs.Universes.{NamesFormal, NamesClass, IsNamed}
use Rattle.eif_system.specs.Inheritance.{parent_number}
use Rattle.eif_system.specs.Universe.{class_number, is_formal}
use Rattle.eif_system.specs.WrittenTypes.{type_name, type_mark, type_list, actuals, nested, nested_in}
use Rattle.eif_tree.specs.Tree.{TypeT, type_at, Types, no_types, and_type, FormalT, ParentT, ClassT}
use Rattle.eif_type_laws.specs.ClassTypes.{IsSomething, actual_count, IsOf, AreOf}

-- ---- the place of a formal

place_of_formal : (n : List ℕ) (s : ℕ) (fs : List FormalT) → list_any (λ f. bytes_eq f.name n) fs ≡ true →
    (i : ℕ) × (position_from (λ f. bytes_eq f.name n) s fs ≡ Some i) × (i < s + length fs)
place_of_formal n s [] h = cc
place_of_formal n s (f ∷ fs) h = go (bytes_eq f.name n) h (place_of_formal n (s + 1) fs)
  where
    go : (b : Bool) → (b || list_any (λ f. bytes_eq f.name n) fs) ≡ true →
        (list_any (λ f. bytes_eq f.name n) fs ≡ true →
        (i : ℕ) × (position_from (λ f. bytes_eq f.name n) (s + 1) fs ≡ Some i) × (i < s + 1 + length fs)) →
        (i : ℕ) × ((if b then Some s else position_from (λ f. bytes_eq f.name n) (s + 1) fs) ≡ Some i)
        × (i < s + suc (length fs))
    go true h r = (s, refl, omega arith)
    go false h r = let p = r h in (p.0, p.1, (let l = p.2 in let z : p.0 < s + suc (length fs) = omega arith in z))

no_place : (n : List ℕ) (s : ℕ) (fs : List FormalT) → list_any (λ f. bytes_eq f.name n) fs ≡ false →
    position_from (λ f. bytes_eq f.name n) s fs ≡ None
no_place n s [] h = refl
no_place n s (f ∷ fs) h = go (bytes_eq f.name n) h (no_place n (s + 1) fs)
  where
    go : (b : Bool) → (b || list_any (λ f. bytes_eq f.name n) fs) ≡ false →
        (list_any (λ f. bytes_eq f.name n) fs ≡ false → position_from (λ f. bytes_eq f.name n) (s + 1) fs ≡ None) →
        (if b then Some s else position_from (λ f. bytes_eq f.name n) (s + 1) fs) ≡ None
    go true h r = cc
    go false h r = r h

pub formal_place : (c : ClassT) (n : List ℕ) → is_formal c n ≡ true →
    (i : ℕ) × (formal_number c n ≡ Some i) × (i < length c.formals)
formal_place c n h =
    let p = place_of_formal n 0 c.formals h in
    (p.0, p.1, (let l = p.2 in let z : p.0 < length c.formals = omega arith in z))

pub no_formal_place : (c : ClassT) (n : List ℕ) → is_formal c n ≡ false → formal_number c n ≡ None
no_formal_place c n h = no_place n 0 c.formals h

module _ (u : List ClassT) (c : ClassT) where
  abbrev pub all_meant : TypeT → Actuals
  all_meant (type_at p q m n ts) = all_resolved u c ts

  -- a type that names a class
  pub class_meant : (t : TypeT) (k : ℕ) → NamesClass u c t k →
      resolved u c t ≡ class_type k (class_mark (type_mark t)) (all_meant t)
  class_meant (type_at p q m n ts) k is =
      ap (λ o. type_denoted o (class_number u n) m (all_resolved u c ts)) (no_formal_place c n is.no_formal)
      ∙ ap (λ o. type_of_class o m (all_resolved u c ts)) is.number

  pub formal_meant : (t : TypeT) → NamesFormal c t →
      (i : ℕ) × (resolved u c t ≡ formal_type i (type_mark t)) × (i < length c.formals)
  formal_meant (type_at p q m n ts) is =
      let i = formal_place c n is.formal in
      (i.0, ap (λ o. type_denoted o (class_number u n) m (all_resolved u c ts)) i.1, i.2)

  count_resolved : (ts : Types) → actual_count (all_resolved u c ts) ≡ length (type_list ts)
  count_resolved no_types = refl
  count_resolved (and_type t ts) = ap suc (count_resolved ts)

  pub count_meant : (t : TypeT) → actual_count (all_meant t) ≡ length (actuals t)
  count_meant (type_at p q m n ts) = count_resolved ts

  -- ---- types of the class

  -- it names one of the first n formals, or a class
  abbrev pub IsWithin : ℕ → TypeT → Type 0
  IsWithin n t =
      ((i : ℕ) × (resolved u c t ≡ formal_type i (type_mark t)) × (i < n)) ⊎ ((k : ℕ) × NamesClass u c t k)

  pub named_within : (t : TypeT) → IsNamed u c t → IsWithin (length c.formals) t
  named_within t (inl f) = inl (formal_meant t f)
  named_within t (inr k) = inr k

  pub named_closed : (t : TypeT) → IsNamed u c t → is_formal c (type_name t) ≡ false → IsWithin 0 t
  named_closed t (inl f) h = let z : true ≡ false = sym f.formal ∙ h in cc
  named_closed t (inr k) h = inr k

  mutual
    pub meant_of : (n : ℕ) (t : TypeT) → AllOf (IsWithin n) (nested t) →
        IsSomething (resolved u c t) × IsOf u n (resolved u c t)
    meant_of n (type_at p q m name ts) h = here h.0 (all_meant_of n ts h.1)
      where
        here : IsWithin n (type_at p q m name ts) → AreOf u n (all_resolved u c ts) →
            IsSomething (resolved u c (type_at p q m name ts)) × IsOf u n (resolved u c (type_at p q m name ts))
        here (inl i) rest = subst (λ t. IsSomething t × IsOf u n t) (sym i.1) (tt, i.2)
        here (inr k) rest =
            let e = class_meant (type_at p q m name ts) k.0 k.1 in
            subst (λ t. IsSomething t × IsOf u n t) (sym e) (
              tt,
              (
                class_number_within u name k.0 k.1.number,
                count_resolved ts ∙ k.1.count,
                rest,
              ),
            )

    pub all_meant_of : (n : ℕ) (ts : Types) → AllOf (IsWithin n) (nested_in ts) → AreOf u n (all_resolved u c ts)
    all_meant_of n no_types h = tt
    all_meant_of n (and_type t ts) h =
        let r = meant_of n t (all_left (IsWithin n) (nested t) (nested_in ts) h) in
        (r.0, r.1, all_meant_of n ts (all_right (IsWithin n) (nested t) (nested_in ts) h))

  -- ---- parent clauses

  -- the class of a clause is the one that its type names
  pub parent_meant : (p : ParentT) (j k : ℕ) → NamesClass u c p.parent j → parent_number u c p ≡ Some k →
      (clause_actuals u c p ≡ all_meant p.parent) × (j ≡ k)
  parent_meant p j k is e = (
    ap actuals_in (class_meant p.parent j is),
    same_Some j k
        (sym (ap (λ b. if b then None else class_number u (type_name p.parent)) is.no_formal ∙ is.number) ∙ e),
  )

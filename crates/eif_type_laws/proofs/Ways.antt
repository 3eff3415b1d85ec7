-- The ways by which a class has an ancestor.
use Rattle.std.proofs.Common.{◌≡◌, ℕ, zero, suc, Bool, true, false, List, [], ◌∷◌, Option, Some, None, refl, sym, ap, subst}
use Rattle.std.proofs.lemmas.Option.{same_Some}
use Rattle.std.specs.List.{list_all, filter_map}
use Rattle.std.specs.Option.{option_map, option_and_then}
use Rattle.std.specs.Prelude.{slice_get, ◌||◌, if◌then◌else◌}
use Rattle.eif_classes.specs.Ancestry.{Way, are_alike, is_small, if_small, common, way, derived, ways, ancestor}
use Rattle.eif_classes.specs.Descent.{descends, any_descends}
use Rattle.eif_classes.specs.Resolution.{clause_actuals}
use Rattle.eif_classes.specs.Types.{Actuals, put_in_all}
use Rattle.eif_lineage_laws.proofs.Descending.{lines_of}
use Rattle.eif_lineage_laws.proofs.Unfolding.{first_number, later_number}
use Rattle.eif_system.specs.Graph.{is_member}
use Rattle.eif_system.specs.Inheritance.{parent_number}
use Rattle.eif_system.specs.Lineage.{line_by, line_of}
use Rattle.eif_tree.specs.Tree.{ParentT, ClassT}
use Rattle.eif_type_laws.proofs.SameTypes.{and_left, and_right, same_actuals_are}

-- ---- ways that agree

abbrev pub AllGive : Actuals → List Way → Type 0
AllGive xs [] = Unit {0}
AllGive xs (w ∷ ws) = (w.actuals ≡ Some xs) × AllGive xs ws

small_is : (o : Option Actuals) (xs : Actuals) → option_and_then if_small o ≡ Some xs → o ≡ Some xs
small_is None xs h = h
small_is (Some ts) xs h = go (is_small ts) h
  where
    go : (b : Bool) → (if b then Some ts else None) ≡ Some xs → Some ts ≡ Some xs
    go true h = h
    go false h = cc

alike_is : (xs : Actuals) (o : Option Actuals) → are_alike (Some xs) o ≡ true → o ≡ Some xs
alike_is xs None h = cc
alike_is xs (Some ys) h = ap Some (same_actuals_are ys xs h)

all_alike_give : (xs : Actuals) (ws : List Way) → list_all (λ v. are_alike (Some xs) v.actuals) ws ≡ true →
    AllGive xs ws
all_alike_give xs [] h = tt
all_alike_give xs (w ∷ ws) h =
    (alike_is xs w.actuals (and_left _ _ h), all_alike_give xs ws (and_right (are_alike (Some xs) w.actuals) _ h))

pub common_gives : (ws : List Way) (xs : Actuals) → common ws ≡ Some xs → AllGive xs ws
common_gives [] xs h = tt
common_gives (w ∷ ws) xs h = go (list_all (λ v. are_alike w.actuals v.actuals) ws) refl h
  where
    go : (b : Bool) → list_all (λ v. are_alike w.actuals v.actuals) ws ≡ b →
        (if b then option_and_then if_small w.actuals else None) ≡ Some xs → AllGive xs (w ∷ ws)
    go true e h =
        let s = small_is w.actuals xs h in
        (s, all_alike_give xs ws (subst (λ o. list_all (λ v. are_alike o v.actuals) ws ≡ true) s e))
    go false e h = cc

put_gives : (xs ys : Actuals) (o : Option Actuals) → option_map (put_in_all xs) o ≡ Some ys →
    (ts : Actuals) × (o ≡ Some ts) × (put_in_all xs ts ≡ ys)
put_gives xs ys None h = cc
put_gives xs ys (Some ts) h = (ts, refl, same_Some _ _ h)

module _ (u : List ClassT) (c : ClassT) (k : ℕ) where
  -- a clause whose class q is k or descends from it
  pub record IsClauseTo (ps : List ParentT) : Type 0 where
    pub place : ℕ
    pub clause : ParentT
    pub among : slice_get ps place ≡ Some clause
    pub q : ℕ
    pub names : parent_number u c clause ≡ Some q
    pub down : descends (line_of u q) k ≡ true

  later_clause : (p : ParentT) (ps : List ParentT) → IsClauseTo ps → IsClauseTo (p ∷ ps)
  later_clause p ps w =
      record { place = suc w.place; clause = w.clause; among = w.among; q = w.q; names = w.names; down = w.down }

  pub some_clause : (ps : List ParentT) → any_descends (lines_of u c ps) k ≡ true → IsClauseTo ps
  some_clause [] h = cc
  some_clause (p ∷ ps) h = first (parent_number u c p) refl h (λ t. some_clause ps t)
    where
      of_class : (q : ℕ) → parent_number u c p ≡ Some q → (b : Bool) → descends (line_of u q) k ≡ b →
          (b || any_descends (lines_of u c ps) k) ≡ true →
          (any_descends (lines_of u c ps) k ≡ true → IsClauseTo ps) → IsClauseTo (p ∷ ps)
      of_class q e true d h rest =
          record { place = 0; clause = p; among = refl; q = q; names = e; down = d }
      of_class q e false d h rest = later_clause p ps (rest h)

      first : (o : Option ℕ) → parent_number u c p ≡ o →
          (descends (line_by (line_of u) o) k || any_descends (lines_of u c ps) k) ≡ true →
          (any_descends (lines_of u c ps) k ≡ true → IsClauseTo ps) → IsClauseTo (p ∷ ps)
      first None e h rest = later_clause p ps (rest h)
      first (Some q) e h rest = of_class q e (descends (line_of u q) k) refl h rest

  -- what the clause gives k, put together from its actuals and what its class gives, is xs
  pub record IsGivenBy (xs : Actuals) (p : ParentT) (q : ℕ) : Type 0 where
    pub ts : Actuals
    pub gives : ancestor u q k ≡ Some ts
    pub puts : put_in_all (clause_actuals u c p) ts ≡ xs

  pub each_gives : (xs : Actuals) (ps : List ParentT) → AllGive xs (ways u c (lines_of u c ps) k) →
      (i : ℕ) (p : ParentT) → slice_get ps i ≡ Some p → (q : ℕ) → parent_number u c p ≡ Some q →
      descends (line_of u q) k ≡ true → IsGivenBy xs p q
  each_gives xs [] h i p at q names down = cc
  each_gives xs (r ∷ ps) h i p at q names down =
      at_place i at (each_gives xs ps (rest_give (descends (line_by (line_of u) (parent_number u c r)) k) h))
    where
      rest_give : (b : Bool) →
          AllGive xs (if b then way u c r (derived u (line_by (line_of u) (parent_number u c r)) k)
          ∷ ways u c (lines_of u c ps) k else ways u c (lines_of u c ps) k) →
          AllGive xs (ways u c (lines_of u c ps) k)
      rest_give true h = h.1
      rest_give false h = h

      here : parent_number u c r ≡ Some q → IsGivenBy xs r q
      here e =
          let all : AllGive xs (if descends (line_of u q) k then way u c r (ancestor u q k)
          ∷ ways u c (lines_of u c ps) k else ways u c (lines_of u c ps) k) =
          subst (λ o. AllGive xs (if descends (line_by (line_of u) o) k
          then way u c r (derived u (line_by (line_of u) o) k)
          ∷ ways u c (lines_of u c ps) k else ways u c (lines_of u c ps) k)) e h in
          let first : AllGive xs (way u c r (ancestor u q k) ∷ ways u c (lines_of u c ps) k) =
          subst (λ b. AllGive xs (if b then way u c r (ancestor u q k)
          ∷ ways u c (lines_of u c ps) k else ways u c (lines_of u c ps) k)) down all in
          let g = put_gives (clause_actuals u c r) xs (ancestor u q k) first.0 in
          record { ts = g.0; gives = g.1; puts = g.2 }

      at_place : (i : ℕ) → slice_get (r ∷ ps) i ≡ Some p →
          ((i : ℕ) (p : ParentT) → slice_get ps i ≡ Some p → (q : ℕ) → parent_number u c p ≡ Some q →
          descends (line_of u q) k ≡ true → IsGivenBy xs p q) → IsGivenBy xs p q
      at_place zero at rest =
          let e : r ≡ p = same_Some r p at in
          subst (λ (p : ParentT). IsGivenBy xs p q) e
          (here (subst (λ (p : ParentT). parent_number u c p ≡ Some q) (sym e) names))
      at_place (suc i) at rest = rest i p at q names down

  pub no_ways : (ps : List ParentT) → any_descends (lines_of u c ps) k ≡ false → ways u c (lines_of u c ps) k ≡ []
  no_ways [] h = refl
  no_ways (p ∷ ps) h = go (descends (line_by (line_of u) (parent_number u c p)) k) h (no_ways ps)
    where
      go : (b : Bool) → (b || any_descends (lines_of u c ps) k) ≡ false →
          (any_descends (lines_of u c ps) k ≡ false → ways u c (lines_of u c ps) k ≡ []) →
          (if b then way u c p (derived u (line_by (line_of u) (parent_number u c p)) k)
          ∷ ways u c (lines_of u c ps) k else ways u c (lines_of u c ps) k) ≡ []
      go true h r = cc
      go false h r = r h

-- the class of a clause is among the parents
pub clause_member : (u : List ClassT) (c : ClassT) (ps : List ParentT) (i : ℕ) (p : ParentT) (q : ℕ) →
    slice_get ps i ≡ Some p → parent_number u c p ≡ Some q → is_member q (filter_map (parent_number u c) ps) ≡ true
clause_member u c [] i p q at e = cc
clause_member u c (r ∷ ps) zero p q at e =
    let same : r ≡ p = same_Some r p at in
    first_number (parent_number u c r) q (filter_map (parent_number u c) ps)
    (subst (λ (p : ParentT). parent_number u c p ≡ Some q) (sym same) e)
clause_member u c (r ∷ ps) (suc i) p q at e =
    later_number (parent_number u c r) q (filter_map (parent_number u c) ps) (clause_member u c ps i p q at e)

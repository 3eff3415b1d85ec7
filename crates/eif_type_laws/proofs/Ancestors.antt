-- What a class gives the formals of its ancestors.
use Rattle.std.proofs.Common.{◌≡◌, ℕ, Bool, true, false, List, length, Option, Some, None, refl, sym, ap, subst, ◌∙◌, ⊎_elim, arith}
use Rattle.std.proofs.lemmas.Bool.{eqb-true, eqb-false, eq-eqb}
use Rattle.std.proofs.lemmas.Option.{same_Some}
use Rattle.std.specs.Option.{option_map_or}
use Rattle.std.specs.Prelude.{slice_get, ◌||◌, ◌==◌, if◌then◌else◌}
use Rattle.eif_ancestry.proofs.Members.{or_right}
use Rattle.eif_classes.specs.Ancestry.{common, derived, ways, ancestor}
use Rattle.eif_classes.specs.Descent.{descends, any_descends}
use Rattle.eif_classes.specs.Resolution.{own_formals, clause_actuals}
use Rattle.eif_classes.specs.Types.{Actuals, put_in_all}
use Rattle.eif_lineage_laws.proofs.Descending.{lines_of, no_line, class_or_none, descends_by, descends_further, descend_apart}
use Rattle.eif_lineage_laws.proofs.Unfolding.{by_parents, Step, unfolded}
use Rattle.eif_rules.specs.UniverseRules.{formal_count}
use Rattle.eif_system.specs.Inheritance.{clauses, parent_number}
use Rattle.eif_system.specs.Lineage.{line_of}
use Rattle.eif_tree.specs.Tree.{ParentT, ClassT}
use Rattle.eif_type_laws.specs.ClassTypes.{actual_count, AreOf, IsHierarchy, Defined}
use Rattle.eif_type_laws.proofs.Substitution.{put_put_all, count_put, count_formals, formals_put_all}
use Rattle.eif_type_laws.proofs.TypesKept.{put_all_of, formals_of}
use Rattle.eif_type_laws.proofs.Ways.{common_gives, IsClauseTo, some_clause, IsGivenBy, each_gives, no_ways, clause_member}

module _ (u : List ClassT) (order : List ℕ) (is : IsHierarchy u order) where
  -- what a class gives by its own clauses
  abbrev pub given_by : ClassT → ℕ → Bool → Option Actuals
  given_by c k own = if own then Some (own_formals c) else common (ways u c (lines_of u c (clauses c)) k)

  pub ancestor_by : (d k : ℕ) (c : ClassT) → slice_get u d ≡ Some c → ancestor u d k ≡ given_by c k (d == k)
  ancestor_by d k c at = ap (λ l. derived u l k) (unfolded u order is.ordered d c at)

  pub own_is : (d k : ℕ) (c : ClassT) (xs : Actuals) → slice_get u d ≡ Some c → (d == k) ≡ true →
      ancestor u d k ≡ Some xs → xs ≡ own_formals c
  own_is d k c xs at own h =
      sym (same_Some _ _ (ap (given_by c k) (sym own) ∙ (sym (ancestor_by d k c at) ∙ h)))

  pub own_ancestor : (d : ℕ) (c : ClassT) → slice_get u d ≡ Some c → ancestor u d d ≡ Some (own_formals c)
  own_ancestor d c at = ancestor_by d d c at ∙ ap (given_by c d) (eq-eqb d d refl)

  -- what the actuals of a proper ancestor rest on
  pub record IsVia (d k : ℕ) (c : ClassT) (xs : Actuals) : Type 0 where
    pub clause : IsClauseTo u c k (clauses c)
    pub each : (i : ℕ) (p : ParentT) → slice_get (clauses c) i ≡ Some p → (q : ℕ) →
        parent_number u c p ≡ Some q → descends (line_of u q) k ≡ true → IsGivenBy u c k xs p q

  pub via : (d k : ℕ) (c : ClassT) (xs : Actuals) → slice_get u d ≡ Some c → (d == k) ≡ false →
      ancestor u d k ≡ Some xs → IsVia d k c xs
  via d k c xs at other h =
      let e : common (ways u c (lines_of u c (clauses c)) k) ≡ Some xs =
      ap (given_by c k) (sym other) ∙ (sym (ancestor_by d k c at) ∙ h) in
      record {
        clause = some_clause u c k (clauses c) (go (any_descends (lines_of u c (clauses c)) k) refl e);
        each = each_gives u c k xs (clauses c) (common_gives _ xs e);
      }
    where
      go : (b : Bool) → any_descends (lines_of u c (clauses c)) k ≡ b →
          common (ways u c (lines_of u c (clauses c)) k) ≡ Some xs → b ≡ true
      go true e h = refl
      go false e h = let z : None ≡ Some xs = sym (ap common (no_ways u c k (clauses c) e)) ∙ h in cc

  pub ancestor_has_class : (d k : ℕ) (xs : Actuals) → ancestor u d k ≡ Some xs →
      (c : ClassT) × (slice_get u d ≡ Some c)
  ancestor_has_class d k xs h = ⊎_elim (λ (c : (c : ClassT) × (slice_get u d ≡ Some c)). c)
      (λ (e : slice_get u d ≡ None).
      let z : None ≡ Some xs = sym (ap (λ l. derived u l k) (no_line u d e)) ∙ h in cc)
      (class_or_none u d)

  -- descent by a clause
  pub clause_descends : (d k : ℕ) (c : ClassT) → slice_get u d ≡ Some c →
      any_descends (lines_of u c (clauses c)) k ≡ true → descends (line_of u d) k ≡ true
  clause_descends d k c at h = descends_by u order is.ordered d k c at ∙ or_right (d == k) _ h

  pub ancestor_descends : (d k : ℕ) (xs : Actuals) → ancestor u d k ≡ Some xs → descends (line_of u d) k ≡ true
  ancestor_descends d k xs h =
      let c = ancestor_has_class d k xs h in
      descends_by u order is.ordered d k c.0 c.1
      ∙ go c.0 (d == k) (any_descends (lines_of u c.0 (clauses c.0)) k) refl
      (sym (ancestor_by d k c.0 c.1) ∙ h)
    where
      go : (c : ClassT) (own any : Bool) → any_descends (lines_of u c (clauses c)) k ≡ any →
          given_by c k own ≡ Some xs → (own || any) ≡ true
      go c true any e h = refl
      go c false true e h = refl
      go c false false e h = let z : None ≡ Some xs = sym (ap common (no_ways u c k (clauses c) e)) ∙ h in cc

  pub count_is : (d : ℕ) (c : ClassT) → slice_get u d ≡ Some c → formal_count u d ≡ length c.formals
  count_is d c at = ap (λ o. option_map_or (λ c. length c.formals) o 0) at

  -- ---- they are of types of the class

  abbrev AreTypes : ℕ → Type 0
  AreTypes d =
      (k : ℕ) (xs : Actuals) → ancestor u d k ≡ Some xs →
      AreOf u (formal_count u d) xs × (actual_count xs ≡ formal_count u k)

  are_types : Step u order is.ordered AreTypes
  are_types d c at parents k xs h = go (d == k) refl
    where
      go : (b : Bool) → (d == k) ≡ b → AreOf u (formal_count u d) xs × (actual_count xs ≡ formal_count u k)
      go true e =
          let n = count_is d c at in
          subst (λ xs. AreOf u (formal_count u d) xs × (actual_count xs ≡ formal_count u k))
          (sym (own_is d k c xs at e h)) (
            formals_of u (formal_count u d) 0 (length c.formals) (omega arith),
            count_formals 0 (length c.formals) ∙ (sym n ∙ ap (formal_count u) (eqb-true d k e)),
          )
      go false e =
          let v = via d k c xs at e h in
          let w = v.clause in
          let g = v.each w.place w.clause w.among w.q w.names w.down in
          let m = clause_member u c (clauses c) w.place w.clause w.q w.among w.names in
          let r = parents w.q m k g.ts g.gives in
          let p = is.parents d c at w.place w.clause w.among w.q w.names in
          let n = count_is d c at in
          let types = subst (λ n. AreOf u n (clause_actuals u c w.clause)) (sym n) p.types in
          subst (λ xs. AreOf u (formal_count u d) xs × (actual_count xs ≡ formal_count u k)) g.puts (
            put_all_of u (formal_count u d) (formal_count u w.q) (clause_actuals u c w.clause) types
                (let e = p.count in omega arith) g.ts r.0,
            count_put (clause_actuals u c w.clause) g.ts ∙ r.1,
          )

  pub ancestor_of : (d k : ℕ) (xs : Actuals) → ancestor u d k ≡ Some xs →
      AreOf u (formal_count u d) xs × (actual_count xs ≡ formal_count u k)
  ancestor_of d k xs h =
      let c = ancestor_has_class d k xs h in by_parents u order is.ordered AreTypes are_types d c.0 c.1 k xs h

  -- ---- those of an ancestor's ancestor

  module _ (defined : Defined u) where
    abbrev Joins : ℕ → Type 0
    Joins d =
        (k j : ℕ) (xs ys : Actuals) → ancestor u d k ≡ Some xs → ancestor u k j ≡ Some ys →
        ancestor u d j ≡ Some (put_in_all xs ys)

    joins : Step u order is.ordered Joins
    joins d c at parents k j xs ys h g = go (d == k) refl
      where
        by_clauses : (zs : Actuals) → IsVia d k c xs → IsVia d j c zs → zs ≡ put_in_all xs ys
        by_clauses zs v w =
            let p = v.clause in
            let a = v.each p.place p.clause p.among p.q p.names p.down in
            let m = clause_member u c (clauses c) p.place p.clause p.q p.among p.names in
            let joined = parents p.q m k j a.ts ys a.gives g in
            let b = w.each p.place p.clause p.among p.q p.names (ancestor_descends p.q j _ joined) in
            let same = same_Some _ _ (sym b.gives ∙ joined) in
            sym b.puts
            ∙ (ap (put_in_all (clause_actuals u c p.clause)) same
            ∙ (put_put_all a.ts (clause_actuals u c p.clause) ys ∙ ap (λ x. put_in_all x ys) a.puts))

        below : (d == k) ≡ false → (b : Bool) → (d == j) ≡ b → ancestor u d j ≡ Some (put_in_all xs ys)
        below ne true e = absurd (descend_apart u order is.ordered d k (eqb-false d k ne)
            (ancestor_descends d k xs h)
            (subst (λ x. descends (line_of u k) x ≡ true) (sym (eqb-true d j e)) (ancestor_descends k j ys g)))
        below ne false e =
            let z = defined d j (descends_further u order is.ordered d k j
            (ancestor_descends d k xs h) (ancestor_descends k j ys g)) in
            z.1 ∙ ap Some (by_clauses z.0 (via d k c xs at ne h) (via d j c z.0 at e z.1))

        go : (b : Bool) → (d == k) ≡ b → ancestor u d j ≡ Some (put_in_all xs ys)
        go true e =
            let q = eqb-true d k e in
            let a : AreOf u (length c.formals) ys =
            subst (λ n. AreOf u n ys) (ap (formal_count u) (sym q) ∙ count_is d c at) (ancestor_of k j ys g).0 in
            ap (λ x. ancestor u x j) q
            ∙ (g ∙ ap Some (sym (ap (λ x. put_in_all x ys) (own_is d k c xs at e h)
            ∙ formals_put_all u (length c.formals) ys a)))
        go false e = below e (d == j) refl

    pub composes : (d k j : ℕ) (xs ys : Actuals) → ancestor u d k ≡ Some xs → ancestor u k j ≡ Some ys →
        ancestor u d j ≡ Some (put_in_all xs ys)
    composes d k j xs ys h g =
        let c = ancestor_has_class d k xs h in
        by_parents u order is.ordered Joins joins d c.0 c.1 k j xs ys h g

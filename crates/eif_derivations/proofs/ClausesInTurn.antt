-- The parent clauses of a class one after the other: the ways by them to an ancestor, and the ancestors that they give.
use Rattle.std.proofs.Common.{◌≡◌, ℕ, ◌+◌, ◌≤◌, true, false, List, [], ◌∷◌, ◌++◌, length, drop, Option, Some, None, Bor, refl, sym, ap, ap₂, ◌∙◌, arith}
use Rattle.std.specs.Prelude.{if◌then◌else◌, slice_get}
use Rattle.std.specs.List.{cons_option}
use Rattle.std.specs.Option.{option_map}
use Rattle.std.specs.Ordering.{nat_cmp}
use Rattle.std.proofs.lemmas.List.{append_assoc, append-nil, drop_all, drop_more, map-append}
use Rattle.std.proofs.lemmas.Option.{get_or_from_slice_get, slice_get_within}
use Rattle.eif_base.specs.declared.class_id.ClassId.{ClassId}
use Rattle.eif_classes.specs.Ancestry.{Way, ancestor, way, ways}
use Rattle.eif_classes.specs.Descent.{above, all_above, class_of, descends}
use Rattle.eif_classes.specs.RisingLists.{in_order}
use Rattle.eif_classes.specs.Types.{Actuals, put_in_all}
use Rattle.eif_derivations.specs.DerivationRows.{IsDerivationRow, IsGiven}
use Rattle.eif_derivations.specs.ListNumbers.{Holds}
use Rattle.eif_derivations.specs.ParentActuals.{AreClauseActuals, IsClauseActuals, classes_by, lines_over}
use Rattle.eif_derivations.specs.WayViews.{way_view, ways_view}
use Rattle.eif_derivations.specs.declared.clause.ClauseActuals.{ClauseActuals}
use Rattle.eif_derivations.specs.declared.lists.ListId.{ListId}
use Rattle.eif_derivations.specs.declared.ways.WayTo.{WayTo}
use Rattle.eif_derivations.proofs.DerivationLists.{numbers_are}
use Rattle.eif_derivations.proofs.Systems.{line_is, parent_class}
use Rattle.eif_rows.specs.Numbers.{class_numbers}
use Rattle.eif_rows.specs.Systems.{IsSystem}
use Rattle.eif_rows.proofs.Matches.{length-Match, Match-at}
use Rattle.eif_system.specs.Inheritance.{clauses, parent_number}
use Rattle.eif_system.specs.Lineage.{Ups, up, top, line_by, ups_by, line_of}
use Rattle.eif_tree.specs.Tree.{ParentT, ClassT}
use Rattle.eif_tree.specs.View.{parent_view}
use Rattle.eif_type_forms.specs.View.{actuals_view}
use Rattle.eif_type_forms.specs.declared.ty.Ty.{Ty}

drop_at_place : {A : Type 0} (xs : List A) (j : ℕ) (x : A) → slice_get xs j ≡ Some x → drop j xs ≡ x ∷ drop (j + 1) xs
drop_at_place xs j x e =
    drop_more xs j x (slice_get_within xs j x e) ∙ ap (λ y. y ∷ drop (j + 1) xs) (get_or_from_slice_get xs j x x e)

-- the clauses of the class c from that number on
abbrev pub ups_from : List ClassT → ClassT → ℕ → Ups
ups_from u c j = ups_by (λ p. line_by (line_of u) (parent_number u c p)) (drop j (clauses c))

module _ (u : List ClassT) (lists : List Actuals) (c : ClassT) (xs : List ClauseActuals)
    (are : AreClauseActuals u lists c xs) where
  -- the clause with that number
  pub record IsClauseAt (j : ℕ) (x : ClauseActuals) : Type 0 where
    pub p : ParentT
    pub is : IsClauseActuals u lists c x p
    pub first : ups_from u c j ≡ up p (line_of u x.parent.0) (ups_from u c (j + 1))

  pub clause_at : (j : ℕ) (x : ClauseActuals) → slice_get xs j ≡ Some x → IsClauseAt j x
  clause_at j x at =
      let found = Match-at (IsClauseActuals u lists c) xs (clauses c) are j x at in
      record {
        p = found.0;
        is = found.2;
        first = ap (ups_by (λ p. line_by (line_of u) (parent_number u c p)))
            (drop_at_place (clauses c) j found.0 found.1)
            ∙ ap (λ o. up found.0 (line_by (line_of u) o) (ups_from u c (j + 1))) found.2.parent_is;
      }

  -- past the last there is none
  pub no_more : (j : ℕ) → length xs ≤ j → ups_from u c j ≡ top
  no_more j past =
      let long = length-Match (IsClauseActuals u lists c) xs (clauses c) are in
      ap (ups_by (λ p. line_by (line_of u) (parent_number u c p))) (drop_all j (clauses c) (omega arith))

-- ---- ways

-- the ways by the clauses before that number
abbrev pub AreWaysSoFar : List Actuals → List ClauseActuals → ℕ → ℕ → List WayTo → Type 0
AreWaysSoFar lists xs k j ws =
    (u : List ClassT) (c : ClassT) → IsSystem u → AreClauseActuals u lists c xs
    → ways_view ws ++ ways u c (ups_from u c j) k ≡ ways u c (lines_over u c) k

abbrev made : ParentT → Option Actuals → Way
made p given = record { clause = p; actuals = given }

put_in_given : (xs : Actuals) (given : Option (Bor (List Ty)))
    → option_map (λ l. put_in_all xs (actuals_view l.now)) given
    ≡ option_map (put_in_all xs) (option_map (λ l. actuals_view l.now) given)
put_in_given xs None = refl
put_in_given xs (Some l) = refl

-- the way by a clause
way_is : (u : List ClassT) (lists : List Actuals) (c : ClassT) (x : ClauseActuals) (p : ParentT) (w : WayTo)
    (o : Option Actuals) → IsClauseActuals u lists c x p → w.tree.now ≡ x.tree.now → w.actuals.now ≡ x.actuals.items
    → option_map (λ l. actuals_view l.now) w.given ≡ o → way_view w ≡ way u c p o
way_is u lists c x p w o is tree actuals given =
    ap₂ made (ap parent_view tree ∙ is.tree_is)
    (put_in_given (actuals_view w.actuals.now) w.given
    ∙ ap₂ (λ xs o. option_map (put_in_all xs) o) (ap actuals_view actuals ∙ is.actuals_are) given)

module _ (lists : List Actuals) (xs : List ClauseActuals) (k : ℕ) where
  pub no_ways_so_far : (ws : List WayTo) → ws ≡ [] → AreWaysSoFar lists xs k 0 ws
  no_ways_so_far ws none = λ u c s are. ap (λ ws. ways_view ws ++ ways u c (lines_over u c) k) none

  module _ (j : ℕ) (x : ClauseActuals) (at : slice_get xs j ≡ Some x) (old : List WayTo) where
    -- a clause whose class does not descend from k
    pub no_way_more : ((u : List ClassT) (lists : List Actuals) (q : ClassT) → IsSystem u
        → slice_get u x.parent.0 ≡ Some q → IsDerivationRow u lists x.parent.0 x.row.now
        → descends (line_of u x.parent.0) k ≡ false)
        → AreWaysSoFar lists xs k j old → AreWaysSoFar lists xs k (j + 1) old
    no_way_more none so_far = λ u c s are.
        let clause = clause_at u lists c xs are j x at in
        let q = parent_class u s c clause.p x.parent.0 clause.is.parent_is in
        let l = line_of u x.parent.0 in
        let rest = ways u c (ups_from u c (j + 1)) k in
        ap (λ b. ways_view old ++ (if b then way u c clause.p (ancestor u x.parent.0 k) ∷ rest else rest))
        (sym (none u lists q.0 s q.1 clause.is.row_is))
        ∙ (ap (λ ups. ways_view old ++ ways u c ups k) (sym clause.first) ∙ so_far u c s are)

    -- one whose class is k or descends from it
    pub one_way_more : (w : WayTo) (new : List WayTo) (id : Option ListId) → new ≡ old ++ w ∷ []
        → w.tree.now ≡ x.tree.now → w.actuals.now ≡ x.actuals.items
        → ((o : Option Actuals) → Holds lists id o → option_map (λ l. actuals_view l.now) w.given ≡ o)
        → ((u : List ClassT) (lists : List Actuals) (q : ClassT) → IsSystem u
        → slice_get u x.parent.0 ≡ Some q → IsDerivationRow u lists x.parent.0 x.row.now
        → descends (line_of u x.parent.0) k ≡ true)
        → ((u : List ClassT) (lists : List Actuals) (q : ClassT) → IsSystem u
        → slice_get u x.parent.0 ≡ Some q → IsDerivationRow u lists x.parent.0 x.row.now
        → IsGiven u lists x.parent.0 k id)
        → AreWaysSoFar lists xs k j old → AreWaysSoFar lists xs k (j + 1) new
    one_way_more w new id pushed tree actuals list down given so_far = λ u c s are.
        let clause = clause_at u lists c xs are j x at in
        let q = parent_class u s c clause.p x.parent.0 clause.is.parent_is in
        let l = line_of u x.parent.0 in
        let rest = ways u c (ups_from u c (j + 1)) k in
        let o = ancestor u x.parent.0 k in
        let is = way_is u lists c x clause.p w o clause.is tree actuals
        (list o (given u lists q.0 s q.1 clause.is.row_is)) in
        ap (λ ws. ways_view ws ++ rest) pushed
        ∙ (ap (λ vs. vs ++ rest) (map-append way_view old (w ∷ []))
        ∙ (append_assoc (ways_view old) (way_view w ∷ []) rest
        ∙ (ap (λ v. ways_view old ++ (v ∷ rest)) is
        ∙ (ap (λ b. ways_view old ++ (if b then way u c clause.p o ∷ rest else rest))
        (sym (down u lists q.0 s q.1 clause.is.row_is))
        ∙ (ap (λ ups. ways_view old ++ ways u c ups k) (sym clause.first) ∙ so_far u c s are)))))

  pub all_ways : (j : ℕ) (ws : List WayTo) → length xs ≤ j → AreWaysSoFar lists xs k j ws
      → (u : List ClassT) (c : ClassT) → IsSystem u → AreClauseActuals u lists c xs
      → ways_view ws ≡ ways u c (lines_over u c) k
  all_ways j ws past so_far = λ u c s are.
      sym (append-nil (ways_view ws))
      ∙ (ap (λ ups. ways_view ws ++ ways u c ups k) (sym (no_more u lists c xs are j past)) ∙ so_far u c s are)

-- ---- proper ancestors

abbrev pub AreClassesSoFar : List ClauseActuals → ℕ → List ClassId → Type 0
AreClassesSoFar xs j ks =
    (u : List ClassT) (lists : List Actuals) (c : ClassT) → IsSystem u → AreClauseActuals u lists c xs
    → class_numbers ks ++ all_above (ups_from u c j) ≡ all_above (lines_over u c)

module _ (xs : List ClauseActuals) where
  pub no_classes_so_far : (ks : List ClassId) → ks ≡ [] → AreClassesSoFar xs 0 ks
  no_classes_so_far ks none = λ u lists c s are. ap (λ ks. class_numbers ks ++ all_above (lines_over u c)) none

  pub more_classes_so_far : (j : ℕ) (x : ClauseActuals) (old new : List ClassId) → slice_get xs j ≡ Some x
      → class_numbers new ≡ class_numbers old ++ classes_by x → AreClassesSoFar xs j old
      → AreClassesSoFar xs (j + 1) new
  more_classes_so_far j x old new at added so_far = λ u lists c s are.
      let clause = clause_at u lists c xs are j x at in
      let q = parent_class u s c clause.p x.parent.0 clause.is.parent_is in
      let l = line_of u x.parent.0 in
      let rest = all_above (ups_from u c (j + 1)) in
      let here : cons_option (class_of l) (above l ++ rest) ≡ classes_by x ++ rest =
      ap₂ (λ o ks. cons_option o (ks ++ rest)) (ap class_of (line_is u s x.parent.0 q.0 q.1))
      (sym (numbers_are u lists x.parent.0 x.row.now clause.is.row_is)) in
      ap (λ zs. zs ++ rest) added
      ∙ (append_assoc (class_numbers old) (classes_by x) rest
      ∙ (ap (λ zs. class_numbers old ++ zs) (sym here ∙ ap all_above (sym clause.first)) ∙ so_far u lists c s are))

  pub above_are : (j : ℕ) (ks ordered : List ClassId) → length xs ≤ j → AreClassesSoFar xs j ks
      → class_numbers ordered ≡ in_order nat_cmp (class_numbers ks)
      → (u : List ClassT) (lists : List Actuals) (d : ℕ) (c : ClassT) → IsSystem u → slice_get u d ≡ Some c
      → AreClauseActuals u lists c xs → class_numbers ordered ≡ above (line_of u d)
  above_are j ks ordered past so_far is_ordered = λ u lists d c s at are.
      let all : class_numbers ks ≡ all_above (lines_over u c) =
      sym (append-nil (class_numbers ks))
      ∙ (ap (λ ups. class_numbers ks ++ all_above ups) (sym (no_more u lists c xs are j past))
      ∙ so_far u lists c s are) in
      is_ordered ∙ (ap (in_order nat_cmp) all ∙ ap above (sym (line_is u s d c at)))

-- In a universe that breaks no rule of its own each clause names a class, which is above.
use Rattle.std.proofs.Common.{◌≡◌, ℕ, zero, suc, true, false, List, [], ◌∷◌, Option, Some, None, refl, sym, ap, subst, ◌∙◌}
use Rattle.std.specs.Prelude.{if◌then◌else◌, slice_get}
use Rattle.std.specs.List.{filter_map, cons_option}
use Rattle.eif_base.specs.declared.class_id.ClassId.{ClassId}
use Rattle.eif_base.specs.declared.fault.Fault.{Fault}
use Rattle.std.proofs.lemmas.Option.{same_Some}
use Rattle.eif_classes.specs.Descent.{above}
use Rattle.eif_heirs.specs.AdaptedClauses.{IsParent, AreAdapted}
use Rattle.eif_heirs.specs.RowsAbove.{AreRowsAbove}
use Rattle.eif_heirs.specs.declared.clauses.Clause.{Clause}
use Rattle.eif_lineage_laws.proofs.Descending.{above_is_listed, no_way_back}
use Rattle.eif_lineage_laws.proofs.EachItem.{all_at}
use Rattle.eif_lineage_laws.proofs.Unfolding.{first_number, later_number, parent_class, parents_at}
use Rattle.eif_lineage_laws.proofs.WholeClasses as whole
use Rattle.eif_lineage_laws.specs.Universes.{NamesClass}
use Rattle.eif_rows.specs.Matched.{Match}
use Rattle.eif_rows.specs.Rows.{IsRow}
use Rattle.eif_rows.specs.Systems.{IsSystem}
use Rattle.eif_rows.specs.declared.row.Row.{Row}
use Rattle.eif_system.specs.Graph.{is_member, parents_of, Reaches, IsOrder}
use Rattle.eif_system.specs.Inheritance.{clauses, parent_number, parent_numbers, graph_of}
use Rattle.eif_system.specs.Lineage.{line_of}
use Rattle.eif_system.specs.Universe.{universe, class_number}
use Rattle.eif_system.specs.WrittenTypes.{type_name}
use Rattle.eif_tree.specs.Tree.{ParentT, ClassT}
use Rattle.eif_universe.specs.Universes.{numbers_of}

-- the clause of the class c names a class
abbrev Names : List ClassT → ClassT → ParentT → Type 0
Names u c p = (k : ℕ) × (parent_number u c p ≡ Some k)

module _ (u : List ClassT) (s : IsSystem u) where
  -- it stands in an order of inheritance
  ordered : (order : List ℕ) × IsOrder (graph_of u) order
  ordered = subst (λ v. (order : List ℕ) × IsOrder (graph_of v) order) (sym s.is) (whole.has_order s.given s.root s.sound)

  number_is : (v : List ClassT) (c : ClassT) (p : ParentT) (k : ℕ) → NamesClass v c p.parent k
      → parent_number v c p ≡ Some k
  number_is v c p k h =
      ap (λ b. if b then None else class_number v (type_name p.parent)) h.no_formal ∙ h.number

  clause_names : (d : ℕ) (c : ClassT) → slice_get u d ≡ Some c → (i : ℕ) (p : ParentT)
      → slice_get (clauses c) i ≡ Some p → Names u c p
  clause_names d c at i p among =
      subst (λ v. slice_get v d ≡ Some c → Names v c p) (sym s.is)
      (λ at. let n = all_at (λ p. (k : ℕ) × NamesClass (universe s.given) c p.parent k) (clauses c) i p
      (whole.parents_named s.given s.root s.sound d c at) among in
      (n.0, number_is (universe s.given) c p n.0 n.1))
      at

  module _ (d : ℕ) (c : ClassT) (at : slice_get u d ≡ Some c) where
    -- a parent is above
    parent_above : (k : ℕ) → is_member k (parent_numbers u c) ≡ true → is_member k (above (line_of u d)) ≡ true
    parent_above k m =
        let o = ordered in
        let g = graph_of u in
        let step : is_member k (parents_of g d) ≡ true = ap (is_member k) (parents_at u d c at) ∙ m in
        let same : (e : d ≡ k) → Reaches g k d = λ e. ([], sym e) in
        above_is_listed u o.0 o.1 d k c at record {
          other = λ e. no_way_back u o.0 o.1 d k c at m (same e);
          above = (k ∷ [], (step, refl));
        }

    module _ (rows : List (Option Row)) (have : AreRowsAbove u rows d) where
      matched : (ps : List ParentT) (ks : List ClassId)
          → ((i : ℕ) (p : ParentT) → slice_get ps i ≡ Some p → Names u c p)
          → ((k : ℕ) → is_member k (filter_map (parent_number u c) ps) ≡ true
          → is_member k (parent_numbers u c) ≡ true)
          → numbers_of ks ≡ filter_map (parent_number u c) ps → Match (IsParent u c rows) ps ks
      matched [] [] each among e = tt
      matched [] (k ∷ ks) each among e = absurd (cc)
      matched (p ∷ ps) ks each among e =
          let n = each 0 p refl in
          let rest = filter_map (parent_number u c) ps in
          go ks n.0 n.1 (e ∙ ap (λ o. cons_option o rest) n.1)
          (λ ks e. matched ps ks (λ i. each (suc i)) (λ k m. among k (later_number (parent_number u c p) k rest m)) e)
        where
          one : (k : ClassId) → parent_number u c p ≡ Some k.0 → IsParent u c rows p k
          one k number =
              let m = among k.0 (first_number (parent_number u c p) k.0 (filter_map (parent_number u c) ps) number) in
              let o = ordered in
              let row = have k.0 (parent_above k.0 m) in
              record { number = number; text = parent_class u o.0 o.1 d k.0 c at m; row = (row.0, row.1, row.2) }

          go : (ks : List ClassId) (n : ℕ) → parent_number u c p ≡ Some n
              → numbers_of ks ≡ n ∷ filter_map (parent_number u c) ps
              → ((ks : List ClassId) → numbers_of ks ≡ filter_map (parent_number u c) ps → Match (IsParent u c rows) ps ks)
              → Match (IsParent u c rows) (p ∷ ps) ks
          go [] n number e later = absurd (cc)
          go (k ∷ ks) n number e later =
              let same : k.0 ≡ n = cc in
              let rest : numbers_of ks ≡ filter_map (parent_number u c) ps = cc in
              (one k (number ∙ ap Some (sym same)), later ks rest)

      -- the clauses of a class go with the numbers of its parents
      pub parents_are : (ks : List ClassId) → numbers_of ks ≡ parents_of (graph_of u) d
          → Match (IsParent u c rows) (clauses c) ks
      parents_are ks e = matched (clauses c) ks (clause_names d c at) (λ k m. m) (e ∙ parents_at u d c at)

-- all clauses of the class that has the number d
pub all_adapted : (u : List ClassT) (s : IsSystem u) (d : ℕ) (text judged c : ClassT) → slice_get u d ≡ Some text
    → judged ≡ text → (rows : List (Option Row)) → AreRowsAbove u rows d → (ks : List ClassId)
    → numbers_of ks ≡ parents_of (graph_of u) d → (ps : List ParentT) → ps ≡ clauses text
    → (old out : List Fault) (xs : List Clause)
    → ((v : List ClassT) → Match (IsParent v judged rows) ps ks → AreAdapted v judged old out xs ps)
    → slice_get u d ≡ Some c → AreAdapted u c old out xs (clauses c)
all_adapted u s d text judged c at is rows have ks numbers ps named old out xs all here =
    let same : judged ≡ c = is ∙ same_Some text c (sym at ∙ here) in
    let whole : ps ≡ clauses judged = named ∙ ap clauses (sym is) in
    let at_judged : slice_get u d ≡ Some judged = at ∙ ap Some (sym is) in
    subst (λ (c : ClassT). AreAdapted u c old out xs (clauses c)) same
    (subst (λ (qs : List ParentT). AreAdapted u judged old out xs qs) whole
    (all u (subst (λ (qs : List ParentT). Match (IsParent u judged rows) qs ks) (sym whole)
    (parents_are u s d judged at_judged rows have ks numbers))))

-- In an order of inheritance the line of a class stands over those of its parents.
use Rattle.std.proofs.Common.{◌≡◌, ℕ, zero, suc, ◌<◌, true, List, [], ◌∷◌, length, eqb, get_or, Option, Some, None, refl, sym, ap, subst, ◌∙◌, arith}
use Rattle.std.proofs.lemmas.Bool.{eq-eqb, eqb-true}
use Rattle.std.proofs.lemmas.List.{length-map}
use Rattle.std.proofs.lemmas.Map.Keys.{IsDistinct-from_apart}
use Rattle.std.proofs.lemmas.Map.Steps.{length-le_from_distinct_below}
use Rattle.std.proofs.lemmas.Option.{slice_get_within, get_or_from_slice_get, slice_get-get_or, slice_get-map}
use Rattle.std.specs.List.{IsDistinct, filter_map, cons_option}
use Rattle.std.specs.Option.{option_map}
use Rattle.std.specs.Prelude.{slice_get, ◌==◌}
use Rattle.eif_ancestry.proofs.Members.{or_left, or_right, is_false, same_member, place_of}
use Rattle.eif_system.specs.Graph.{is_member, parents_of, IsOrder}
use Rattle.eif_system.specs.Inheritance.{clauses, parent_number, parent_numbers, graph_of}
use Rattle.eif_system.specs.Lineage.{Line, line, up, line_by, ups_by, line_at, lineage, line_of}
use Rattle.eif_tree.specs.Tree.{ParentT, ClassT}
use Rattle.eif_lineage_laws.specs.Lineages.{line_over}

pub graph_length : (u : List ClassT) → length (graph_of u) ≡ length u
graph_length u = length-map u (parent_numbers u)

-- the parents of a class are the classes of its clauses
pub parents_at : (u : List ClassT) (d : ℕ) (c : ClassT) → slice_get u d ≡ Some c →
    parents_of (graph_of u) d ≡ parent_numbers u c
parents_at u d c at =
    get_or_from_slice_get (graph_of u) d (parent_numbers u c) []
    (slice_get-map (parent_numbers u) u d ∙ ap (option_map (parent_numbers u)) at)

pub class_within : (u : List ClassT) (d : ℕ) → d < length u → (c : ClassT) × (slice_get u d ≡ Some c)
class_within [] d h = absurd (omega arith)
class_within (c ∷ u) zero h = (c, refl)
class_within (c ∷ u) (suc d) h = class_within u d (omega arith)

-- ---- members among the numbers of items

pub first_number : (o : Option ℕ) (k : ℕ) (ks : List ℕ) → o ≡ Some k → is_member k (cons_option o ks) ≡ true
first_number None k ks e = cc
first_number (Some j) k ks e = let q : j ≡ k = cc in or_left (j == k) (is_member k ks) (eq-eqb j k q)

pub later_number : (o : Option ℕ) (k : ℕ) (ks : List ℕ) → is_member k ks ≡ true → is_member k (cons_option o ks) ≡ true
later_number None k ks m = m
later_number (Some j) k ks m = or_right (j == k) (is_member k ks) m

-- lines by functions that agree on the clauses' classes
same_ups : (number : ParentT → Option ℕ) (f g : ℕ → Line) (ps : List ParentT) →
    ((k : ℕ) → is_member k (filter_map number ps) ≡ true → f k ≡ g k) →
    ups_by (λ p. line_by f (number p)) ps ≡ ups_by (λ p. line_by g (number p)) ps
same_ups number f g [] h = refl
same_ups number f g (p ∷ ps) h = ap (λ l. up p l (ups_by (λ p. line_by f (number p)) ps)) (first (number p) refl)
    ∙ ap (up p (line_by g (number p)))
    (same_ups number f g ps (λ k m. h k (later_number (number p) k (filter_map number ps) m)))
  where
    first : (o : Option ℕ) → number p ≡ o → line_by f o ≡ line_by g o
    first None e = refl
    first (Some k) e = h k (first_number (number p) k (filter_map number ps) e)

module _ (u : List ClassT) (order : List ℕ) (is : IsOrder (graph_of u) order) where
  -- a class of the order is in the universe
  pub class_at : (i d : ℕ) → slice_get order i ≡ Some d → (c : ClassT) × (slice_get u d ≡ Some c)
  class_at i d at = class_within u d (subst (λ n. d < n) (graph_length u) (is.classes.only i d at))

  -- and a class of the universe stands in the order
  pub place_at : (d : ℕ) (c : ClassT) → slice_get u d ≡ Some c → (i : ℕ) × (slice_get order i ≡ Some d)
  place_at d c at =
      is.classes.each d (subst (λ n. d < n) (sym (graph_length u)) (slice_get_within u d c at))

  pub parent_place : (i d k : ℕ) (c : ClassT) → slice_get order i ≡ Some d → slice_get u d ≡ Some c →
      is_member k (parent_numbers u c) ≡ true → (j : ℕ) × (j < i) × (slice_get order j ≡ Some k)
  parent_place i d k c place at m = is.after i d k place (ap (is_member k) (parents_at u d c at) ∙ m)

  pub parent_class : (d k : ℕ) (c : ClassT) → slice_get u d ≡ Some c → is_member k (parent_numbers u c) ≡ true →
      (p : ClassT) × (slice_get u k ≡ Some p)
  parent_class d k c at m =
      let i = place_at d c at in
      let j = parent_place i.0 d k c i.1 at m in
      class_at j.0 k j.2

  -- ---- induction from the parents to the class

  abbrev pub Step : (ℕ → Type 0) → Type 0
  Step P = (d : ℕ) (c : ClassT) → slice_get u d ≡ Some c →
      ((k : ℕ) → is_member k (parent_numbers u c) ≡ true → P k) → P d

  by_place : (P : ℕ → Type 0) → Step P → (b i d : ℕ) → i < b → slice_get order i ≡ Some d → P d
  by_place P step zero i d lt place = absurd (omega arith)
  by_place P step (suc b) i d lt place =
      let c = class_at i d place in
      step d c.0 c.1 (λ k m.
      let j = parent_place i d k c.0 place c.1 m in
      let below = j.1 in
      by_place P step b j.0 k (omega arith) j.2)

  pub by_parents : (P : ℕ → Type 0) → Step P → (d : ℕ) (c : ClassT) → slice_get u d ≡ Some c → P d
  by_parents P step d c at = let i = place_at d c at in by_place P step (suc i.0) i.0 d (omega arith) i.1

  -- ---- the line

  -- more steps change nothing
  stable : (b i d n : ℕ) → i < b → slice_get order i ≡ Some d → i < n → lineage n u d ≡ lineage (suc n) u d
  stable zero i d n lt place h = absurd (omega arith)
  stable (suc b) i d zero lt place h = absurd (omega arith)
  stable (suc b) i d (suc n) lt place h =
      let c = class_at i d place in
      let same = same_ups (parent_number u c.0) (lineage n u) (lineage (suc n) u) (clauses c.0) (λ k m.
      let j = parent_place i d k c.0 place c.1 m in
      let below = j.1 in
      stable b j.0 k n (omega arith) j.2 (omega arith)) in
      ap (line_at u (lineage n u) d) c.1
      ∙ (ap (line d c.0) same ∙ sym (ap (line_at u (lineage (suc n) u) d) c.1))

  order_distinct : IsDistinct eqb order
  order_distinct = IsDistinct-from_apart eqb order (λ i j d h k. is_false _ (λ t.
      let at_i = slice_get-get_or order i d (omega arith) ∙ ap Some (eqb-true _ _ t) in
      let same = is.classes.once i j (get_or order j d) at_i (slice_get-get_or order j d k) in
      let z : ⊥ = omega arith in z))

  order_short : (i d : ℕ) → slice_get order i ≡ Some d → i < length u
  order_short i d place =
      let most = length-le_from_distinct_below order (length (graph_of u)) order_distinct (λ q h.
      let j = place_of order q (sym (same_member q order) ∙ h) in is.classes.only j.0 q j.1) in
      let within = slice_get_within order i d place in
      let long = graph_length u in
      omega arith

  pub unfolded : (d : ℕ) (c : ClassT) → slice_get u d ≡ Some c → line_of u d ≡ line_over u d c
  unfolding line_of
  unfolded d c at = let i = place_at d c at in go i.0 i.1 (length u) refl
    where
      go : (i : ℕ) → slice_get order i ≡ Some d → (n : ℕ) → length u ≡ n →
          lineage n u d ≡ line d c (ups_by (λ p. line_by (lineage n u) (parent_number u c p)) (clauses c))
      go i place zero e = let l = order_short i d place in absurd (omega arith)
      go i place (suc n) e =
          let within : i < suc n = let l = order_short i d place in omega arith in
          ap (line_at u (lineage n u) d) at
          ∙ ap (line d c) (same_ups (parent_number u c) (lineage n u) (lineage (suc n) u) (clauses c) (λ k m.
          let j = parent_place i d k c place at m in
          let below = j.1 in
          stable (suc i) j.0 k n (omega arith) j.2 (omega arith)))

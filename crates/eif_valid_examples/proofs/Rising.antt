-- A universe whose classes stand behind their parents: no class inherits from itself.
use Rattle.std.proofs.Common.{◌≡◌, ℕ, zero, suc, ◌+◌, ◌<◌, ◌≤◌, Bool, true, false, List, [], ◌∷◌, length, refl, subst, arith}
use Rattle.std.specs.Prelude.{slice_index_or, nat_lt, ◌&&◌, ◌||◌, ◌==◌}
use Rattle.std.proofs.lemmas.Bool.{eqb-true, ltb-true}
use Rattle.eif_lineage_laws.proofs.Ordering.{order_exists}
use Rattle.eif_system.specs.Graph.{is_member, parents_of, Climbs, IsClosed, HasNoCycle, IsOrder}

-- each of the numbers is below d
abbrev pub are_below : ℕ → List ℕ → Bool
are_below d [] = true
are_below d (p ∷ ps) = nat_lt p d && are_below d ps

-- the parents of each class are below it; the first row is that of the class d
abbrev pub rises_from : ℕ → List (List ℕ) → Bool
rises_from d [] = true
rises_from d (ps ∷ g) = are_below d ps && rises_from (suc d) g

both_true : (a b : Bool) → (a && b) ≡ true → (a ≡ true) × (b ≡ true)
both_true true true h = (refl, refl)
both_true true false h = cc
both_true false b h = cc

member_below : (d p : ℕ) (ps : List ℕ) → are_below d ps ≡ true → is_member p ps ≡ true → p < d
member_below d p [] h m = cc
member_below d p (q ∷ ps) h m =
    let parts = both_true (nat_lt q d) (are_below d ps) h in
    go (ltb-true q d parts.0) (λ m. member_below d p ps parts.1 m) (q == p) refl m
  where
    go : q < d → (is_member p ps ≡ true → p < d) → (b : Bool) → (q == p) ≡ b → (b || is_member p ps) ≡ true → p < d
    go first rest true e m = subst (λ p. p < d) (eqb-true q p e) first
    go first rest false e m = rest m

-- a parent of the row with that place is below its class, which has a row
row_below : (d : ℕ) (g : List (List ℕ)) (i p : ℕ) → rises_from d g ≡ true → is_member p (slice_index_or g i []) ≡ true
    → (p < d + i) × (i < length g)
row_below d [] i p h m = cc
row_below d (ps ∷ g) zero p h m =
    let parts = both_true (are_below d ps) (rises_from (suc d) g) h in
    let below = member_below d p ps parts.0 m in (omega arith, omega arith)
row_below d (ps ∷ g) (suc i) p h m =
    let parts = both_true (are_below d ps) (rises_from (suc d) g) h in
    let r = row_below (suc d) g i p parts.1 m in
    let below = r.0 in
    let within = r.1 in (omega arith, omega arith)

module _ (g : List (List ℕ)) (rises : rises_from 0 g ≡ true) where
  pub parent_below : (d p : ℕ) → is_member p (parents_of g d) ≡ true → (p < d) × (d < length g)
  parent_below d p m =
      let r = row_below 0 g d p rises m in
      let below = r.0 in (omega arith, r.1)

  pub climbs_down : (steps : List ℕ) (d a : ℕ) → Climbs g d steps a → a ≤ d
  climbs_down [] d a h = omega (arith, h)
  climbs_down (p ∷ ps) d a h =
      let below = (parent_below d p h.0).0 in
      let further = climbs_down ps p a h.1 in omega arith

  closed : IsClosed g
  closed d p m =
      let r = parent_below d p m in
      let below = r.0 in
      let within = r.1 in omega arith

  pub no_cycle : HasNoCycle g
  no_cycle d p m r =
      let below = (parent_below d p m).0 in
      let back = climbs_down r.0 p d r.1 in absurd (omega arith)

  pub has_order : (order : List ℕ) × IsOrder g order
  has_order = order_exists g closed no_cycle

-- Descent in a universe that breaks no rule of the universe.
use Rattle.std.proofs.Common.{◌≡◌, ◌≢◌, ℕ, ◌<◌, Bool, true, false, ◌⊎◌, List, [], ◌∷◌, length, Some, None, refl, sym}
use Rattle.std.proofs.Common.{ap, ap₂, subst, ◌∙◌}
use Rattle.std.specs.Prelude.{◌↔◌, ◌==◌, ◌||◌, IsTrue, if◌then◌else◌, slice_get}
use Rattle.std.specs.List.{cons_option}
use Rattle.std.specs.Option.{option_map}
use Rattle.std.proofs.lemmas.Option.{slice_get_within}
use Rattle.eif_classes.specs.Binding.{bind, candidates, own_name, picked}
use Rattle.eif_classes.specs.Descent.{above, any_descends, descends}
use Rattle.eif_classes.specs.Names.{final_name}
use Rattle.eif_lineage_laws.proofs.Descending.{above_is_listed, descends_reaches, descends_self, has_class}
use Rattle.eif_lineage_laws.proofs.Descending.{reaches_descends}
use Rattle.eif_lineage_laws.proofs.Unfolding.{class_within, parent_class, parents_at}
use Rattle.eif_lineage_laws.proofs.WholeClasses.{has_order}
use Rattle.eif_rows.specs.Systems.{IsSystem}
use Rattle.eif_system.specs.Graph.{Climbs, IsOrder, IsProperAncestor, Reaches, is_member}
use Rattle.eif_system.specs.Inheritance.{clauses, graph_of}
use Rattle.eif_system.specs.Lineage.{Line, line, cut, Ups, up, top, line_of}
use Rattle.eif_tree.specs.Tree.{ClassT}

none_of_two : (a b : Bool) → (a || b) ≡ false → (a ≡ false) × (b ≡ false)
none_of_two true b e = absurd (cc)
none_of_two false b e = (refl, e)

same_test : (a b : Bool) → (a ≡ true → b ≡ true) → (b ≡ true → a ≡ true) → a ≡ b
same_test true b f g = sym (f refl)
same_test false true f g = g refl
same_test false false f g = refl

not_true : (b : Bool) → (b ≡ true → ⊥) → b ≡ false
not_true true n = absurd (n refl)
not_true false n = refl

-- ---- what is no descendant has no name for the feature

mutual
  pub unbound : (l : Line) (k : ℕ) (m : List ℕ) → descends l k ≡ false → bind l k m ≡ None
  unbound (line d c ups) k m none =
      let parts = none_of_two (d == k) (any_descends ups k) none in
      ap (λ b. if b then own_name (line d c ups) m else picked (clauses c) (candidates ups k m)) parts.0
      ∙ ap (picked (clauses c)) (no_candidates ups k m parts.1)
  unbound cut k m none = refl

  no_candidates : (ups : Ups) (k : ℕ) (m : List ℕ) → any_descends ups k ≡ false → candidates ups k m ≡ []
  no_candidates top k m none = refl
  no_candidates (up p l rest) k m none =
      let parts = none_of_two (descends l k) (any_descends rest k) none in
      ap₂ (λ n ns. cons_option (option_map (final_name p) n) ns) (unbound l k m parts.0)
      (no_candidates rest k m parts.1)

-- what has a name for it is a descendant
pub bound_descends : (l : Line) (k : ℕ) (m n : List ℕ) → bind l k m ≡ Some n → descends l k ≡ true
bound_descends l k m n e = go (descends l k) refl
  where
    go : (b : Bool) → descends l k ≡ b → descends l k ≡ true
    go true e' = e'
    go false e' = let none = sym (unbound l k m e') ∙ e in absurd (cc)

-- ---- descent and the graph

module _ (u : List ClassT) (system : IsSystem u) where
  pub ordered : (order : List ℕ) × IsOrder (graph_of u) order
  ordered = subst (λ v. (order : List ℕ) × IsOrder (graph_of v) order) (sym system.is)
      (has_order system.given system.root system.sound)

  -- a class descends from classes alone
  pub ancestor_within : (d k : ℕ) → descends (line_of u d) k ≡ true → k < length u
  ancestor_within d k h =
      let c = has_class u d k h in
      let r = descends_reaches u ordered.0 ordered.1 d k h in
      go r.0 d c.0 c.1 r.1
    where
      go : (steps : List ℕ) (d : ℕ) (c : ClassT) → slice_get u d ≡ Some c → Climbs (graph_of u) d steps k
          → k < length u
      go [] d c at e = subst (λ k. k < length u) e (slice_get_within u d c at)
      go (q ∷ steps) d c at h =
          let p = parent_class u ordered.0 ordered.1 d q c at (sym (ap (is_member q) (parents_at u d c at)) ∙ h.0) in
          go steps q p.0 p.1 h.1

  pub itself_descends : (d : ℕ) → d < length u → descends (line_of u d) d ≡ true
  itself_descends d within =
      let c = class_within u d within in descends_self u ordered.0 ordered.1 d c.0 c.1

  -- the test of the graph is that of the line
  pub reaching_told : (d k : ℕ) (b : Bool) → d < length u → IsTrue b ↔ Reaches (graph_of u) d k
      → b ≡ descends (line_of u d) k
  reaching_told d k b within told =
      let c = class_within u d within in
      same_test b (descends (line_of u d) k)
      (λ e. reaches_descends u ordered.0 ordered.1 d k c.0 c.1 (told.0 e))
      (λ e. told.1 (descends_reaches u ordered.0 ordered.1 d k e))

  -- a number past the classes is nobody's ancestor
  pub none_past : (d k : ℕ) → (k < length u → ⊥) → descends (line_of u d) k ≡ false
  none_past d k past = not_true (descends (line_of u d) k) (λ e. past (ancestor_within d k e))

  -- what is neither the class nor listed above it is no ancestor
  pub unlisted : (d k : ℕ) → d < length u → d ≢ k → is_member k (above (line_of u d)) ≡ false
      → descends (line_of u d) k ≡ false
  unlisted d k within other none = not_true (descends (line_of u d) k) (λ e.
      let c = class_within u d within in
      let listed = above_is_listed u ordered.0 ordered.1 d k c.0 c.1
      record { other = other; above = descends_reaches u ordered.0 ordered.1 d k e } in
      let never : true ≡ false = sym listed ∙ none in cc)

-- Whom the classes of a system inherit from.
use Rattle.std.proofs.Common.{◌≡◌, ℕ, true, [], Some, List, sym, ap, subst, ◌∙◌}
use Rattle.std.specs.Prelude.{slice_get}
use Rattle.eif_ancestry.proofs.Climbing.{reaches_on, reaches_parent}
use Rattle.eif_choices.proofs.Lines.{order_in}
use Rattle.eif_classes.specs.Descent.{above, descends}
use Rattle.eif_lineage_laws.proofs.Descending.{above_before, above_is_listed, listed_is_above}
use Rattle.eif_lineage_laws.proofs.Descending.{descend_apart, no_way_back, reaches_descends}
use Rattle.eif_lineage_laws.proofs.Unfolding.{class_at, parents_at, place_at}
use Rattle.eif_rows.specs.Systems.{IsSystem}
use Rattle.eif_system.specs.Graph.{is_member}
use Rattle.eif_system.specs.Inheritance.{graph_of, parent_numbers}
use Rattle.eif_system.specs.Lineage.{line_of}
use Rattle.eif_tree.specs.Tree.{ClassT}

module _ (u : List ClassT) (system : IsSystem u) (d : ℕ) (c : ClassT) (at : slice_get u d ≡ Some c) where
  -- a parent is above the class
  pub parent_above : (q : ℕ) → is_member q (parent_numbers u c) ≡ true → is_member q (above (line_of u d)) ≡ true
  parent_above q m =
      let o = order_in u system in
      above_is_listed u o.0 o.1 d q c at record {
        other = λ e. no_way_back u o.0 o.1 d q c at m ([], sym e);
        above = reaches_parent (graph_of u) d q (ap (is_member q) (parents_at u d c at) ∙ m);
      }

  -- a class above it is one of the universe
  class_above : (k : ℕ) → is_member k (above (line_of u d)) ≡ true → (a : ClassT) × (slice_get u k ≡ Some a)
  class_above k m =
      let o = order_in u system in
      let i = place_at u o.0 o.1 d c at in
      let j = above_before u o.0 o.1 i.0 d k i.1 m in
      class_at u o.0 o.1 j.0 k j.2

  -- what is above a class above it is above it too
  pub above_further : (k j : ℕ) → is_member k (above (line_of u d)) ≡ true → is_member j (above (line_of u k)) ≡ true →
      is_member j (above (line_of u d)) ≡ true
  above_further k j m n =
      let o = order_in u system in
      let a = class_above k m in
      let first = listed_is_above u o.0 o.1 d k c at m in
      let second = listed_is_above u o.0 o.1 k j a.0 a.1 n in
      above_is_listed u o.0 o.1 d j c at record {
        other = λ e. descend_apart u o.0 o.1 d k first.other (reaches_descends u o.0 o.1 d k c at first.above)
            (subst (λ x. descends (line_of u k) x ≡ true) (sym e)
            (reaches_descends u o.0 o.1 k j a.0 a.1 second.above));
        above = reaches_on (graph_of u) d k j first.above second.above;
      }

-- No class has a feature called `Result`.
use Rattle.std.proofs.Common.{◌≡◌, ℕ, Bool, true, false, List, [], ◌∷◌, map, Option, Some, None, refl, ap, ap₂, ◌∙◌, ⊎_elim}
use Rattle.std.specs.List.{filter_map}
use Rattle.std.specs.Prelude.{slice_get, ◌||◌, if◌then◌else◌}
use Rattle.std.specs.Str.{bytes_eq}
use Rattle.eif_base.specs.Numbering.{is_among}
use Rattle.eif_classes.specs.Entries.{Feature, entry}
use Rattle.eif_classes.specs.Features.{features, entries, has_feature}
use Rattle.eif_classes.specs.Names.{renamed, final_name}
use Rattle.eif_lineage_laws.proofs.Descending.{lines_of, no_line, class_or_none}
use Rattle.eif_lineage_laws.proofs.EachItem.{AllOf}
use Rattle.eif_lineage_laws.proofs.Unfolding.{first_number, later_number, by_parents, Step, unfolded}
use Rattle.eif_spelled_trees.specs.SpelledTrees.{IsName}
use Rattle.eif_system.specs.Graph.{is_member, IsOrder}
use Rattle.eif_system.specs.Inheritance.{clauses, parent_number, graph_of}
use Rattle.eif_system.specs.Lineage.{line_by, line_of}
use Rattle.eif_tree.specs.declared.tree.RenamePair.{RenamePair}
use Rattle.eif_tree.specs.Members.{declared_names, result_name}
use Rattle.eif_tree.specs.Tree.{ParentT, ClassT}
use Rattle.eif_binding_laws.proofs.Inherited.{has_name_of}
use Rattle.eif_binding_laws.proofs.Searches.{turned, apart, among_append, map_append}
use Rattle.eif_ancestry.proofs.Members.{or_left, or_right, is_false}
use Rattle.eif_run_features.proofs.Spelled.{RenamesToNames, IsSpelledText}

-- ---- what a clause makes of names

other_name : (rs : List RenamePair) → AllOf (λ r. IsName r.new_name) rs → (n : List ℕ)
    → bytes_eq n result_name ≡ false
    → bytes_eq (renamed rs n) result_name ≡ false
other_name [] h n e = e
other_name (r ∷ rs) h n e = go (bytes_eq r.old_name.name n) (other_name rs h.1 n e)
  where
    go : (b : Bool) → bytes_eq (renamed rs n) result_name ≡ false
        → bytes_eq (if b then r.new_name.name else renamed rs n) result_name ≡ false
    go true later = h.0
    go false later = later

turned_false : (a b : List ℕ) → bytes_eq a b ≡ false → bytes_eq b a ≡ false
turned_false a b h = is_false _ (λ t. apart (bytes_eq a b) (turned a b t) h)

finals_other : (p : ParentT) → RenamesToNames p → (fs : List Feature)
    → is_among (map (λ f. f.name) fs) result_name ≡ false
    → is_among (map (λ e. e.final) (map (entry p) fs)) result_name ≡ false
finals_other p h [] e = e
finals_other p h (f ∷ fs) e =
    let names = is_among (map (λ f. f.name) (f ∷ fs)) result_name in
    let rest = is_among (map (λ f. f.name) fs) result_name in
    let first : bytes_eq f.name result_name ≡ false =
    is_false _ (λ t. apart names (or_left _ rest (turned result_name f.name t)) e) in
    let later : rest ≡ false = is_false _ (λ t. apart names (or_right (bytes_eq result_name f.name) _ t) e) in
    ap₂ ◌||◌ (turned_false (final_name p f.name) result_name (other_name p.renames h f.name first))
    (finals_other p h fs later)

-- ---- the step from the parents to the class

abbrev pub HasNoResult : List ClassT → ℕ → Type 0
HasNoResult u d = has_feature (line_of u d) result_name ≡ false

module _ (u : List ClassT) (c : ClassT) where
  inherited_other : (ps : List ParentT) → AllOf RenamesToNames ps
      → ((q : ℕ) → is_member q (filter_map (parent_number u c) ps) ≡ true → HasNoResult u q)
      → is_among (map (λ e. e.final) (entries (lines_of u c ps))) result_name ≡ false
  inherited_other [] h parents = refl
  inherited_other (p ∷ ps) h parents =
      let l = line_by (line_of u) (parent_number u c p) in
      ap (λ ns. is_among ns result_name)
      (map_append (λ e. e.final) (map (entry p) (features l)) (entries (lines_of u c ps)))
      ∙ (among_append (map (λ e. e.final) (map (entry p) (features l)))
      (map (λ e. e.final) (entries (lines_of u c ps))) result_name
      ∙ ap₂ ◌||◌ (finals_other p h.0 (features l) (first (parent_number u c p) refl))
      (inherited_other ps h.1 (λ q m.
      parents q (later_number (parent_number u c p) q (filter_map (parent_number u c) ps) m))))
    where
      first : (o : Option ℕ) → parent_number u c p ≡ o
          → is_among (map (λ f. f.name) (features (line_by (line_of u) o))) result_name ≡ false
      first None e = refl
      first (Some q) e = parents q (first_number (parent_number u c p) q (filter_map (parent_number u c) ps) e)

module _ (u : List ClassT) (order : List ℕ) (is : IsOrder (graph_of u) order)
    (spelled : (d : ℕ) (c : ClassT) → slice_get u d ≡ Some c → IsSpelledText c) where
  step : Step u order is (HasNoResult u)
  step d c at parents =
      let s = spelled d c at in
      let ups = lines_of u c (clauses c) in
      ap (λ l. has_feature l result_name) (unfolded u order is d c at)
      ∙ (has_name_of d c ups result_name
      ∙ (among_append (map (λ n. n.name) (declared_names c)) (map (λ e. e.final) (entries ups)) result_name
      ∙ ap₂ ◌||◌ s.names (inherited_other u c (clauses c) s.renames parents)))

  pub no_result : (d : ℕ) → HasNoResult u d
  no_result d = ⊎_elim
      (λ (c : (c : ClassT) × (slice_get u d ≡ Some c)). by_parents u order is (HasNoResult u) step d c.0 c.1)
      (λ (e : slice_get u d ≡ None). ap (λ l. has_feature l result_name) (no_line u d e))
      (class_or_none u d)

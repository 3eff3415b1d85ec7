-- A class that is put together by its clauses and its declared names is an heir.
use Rattle.std.proofs.Common.{◌≡◌, ℕ, zero, suc, ◌<◌, ◌^◌, List, [], ◌∷◌, ◌++◌, length, map, Some, sym, ap, subst, ◌∙◌, arith}
use Rattle.std.specs.Prelude.{◌==◌, slice_get, Vec}
use Rattle.std.specs.List.{All, position_from}
use Rattle.std.specs.List.Sorted.{IsStrictlySortedBy}
use Rattle.eif_base.specs.declared.feat_id.FeatId.{FeatId}
use Rattle.eif_classes.specs.Features.{names}
use Rattle.eif_classes.specs.Names.{name_cmp, name_set}
use Rattle.eif_feature_rules.specs.RuleForms.{declared_here}
use Rattle.eif_heirs.specs.Clauses.{IsClause, ups_in}
use Rattle.eif_heirs.specs.DeclaredNames.{IsDeclaredName}
use Rattle.eif_heirs.specs.Heirs.{IsHeir}
use Rattle.eif_heirs.specs.Numbered.{AreBelow, collected, declared_texts, declared_under, final_texts, ids_under}
use Rattle.eif_heirs.specs.declared.clauses.Clause.{Clause}
use Rattle.eif_heirs.specs.declared.heir.Heir.{Heir}
use Rattle.eif_heirs.proofs.Collecting.{below-from_names, sources_found}
use Rattle.eif_heirs.proofs.Texts.{class_texts, map_twice, texts_declared}
use Rattle.eif_lineage_laws.proofs.Unfolding.{unfolded}
use Rattle.eif_lineage_laws.proofs.WholeClasses.{has_order}
use Rattle.eif_rows.specs.Matched.{Match}
use Rattle.eif_rows.specs.Numbers.{names_of}
use Rattle.eif_rows.specs.Systems.{IsSystem}
use Rattle.eif_rows.proofs.NameSets.{rising-name_set}
use Rattle.eif_system.specs.Graph.{IsOrder}
use Rattle.eif_system.specs.Inheritance.{clauses, graph_of}
use Rattle.eif_system.specs.Lineage.{line, line_of}
use Rattle.eif_tree.specs.Tree.{ClassT}
use Rattle.eif_tree.specs.View.{class_view}

-- the line of a class stands over those of its clauses
pub line_unfolded : (u : List ClassT) → IsSystem u → (d : ℕ) (c : ClassT) → slice_get u d ≡ Some c
    → line_of u d ≡ line d c (ups_in u c)
line_unfolded u s d c at =
    let o = has_order s.given s.root s.sound in
    unfolded u o.0 (subst (λ v. IsOrder (graph_of v) o.0) (sym s.is) o.1) d c at

-- the numbers of final names are below the count of names
pub finals_below : {Z : Type 0} (ns : List (List ℕ)) (finals : List (Vec FeatId Z)) (xs : List Clause)
    → Match (λ fs x. names_of ns fs.items ≡ map (λ a. Some a.final_name) x.adapted.items) finals xs
    → All (λ fs. AreBelow (length ns) fs.items) finals
finals_below ns [] [] f k d l = absurd (omega arith)
finals_below ns [] (x ∷ xs) f k d l = absurd f
finals_below ns (fs ∷ finals) [] f k d l = absurd f
finals_below ns (fs ∷ finals) (x ∷ xs) f zero d l =
    below-from_names ns fs.items (map (λ a. a.final_name) x.adapted.items)
    (f.0 ∙ sym (map_twice Some (λ a. a.final_name) x.adapted.items))
finals_below ns (fs ∷ finals) (x ∷ xs) f (suc k) d l = finals_below ns finals xs f.1 k d (omega arith)

-- what a class is made of
pub record Parts (u : List ClassT) (h : Heir) (numbers : List FeatId) : Type 0 where
  pub clauses_are : Match (IsClause u (class_view h.tree.now)) h.clauses.items (clauses (class_view h.tree.now))
  pub declared_are : Match (IsDeclaredName (class_view h.tree.now)) h.declared.items (declared_here
      (class_view h.tree.now))
  pub names_are : h.names.items ≡ name_set (declared_texts h.declared.items ++ final_texts h.clauses.items)
  pub few : length h.names.items < 2 ^ 32
  pub numbers_are : names_of h.names.items numbers ≡ map Some (declared_texts h.declared.items)
  pub finals_are : Match (λ fs x. names_of h.names.items fs.items ≡ map (λ a. Some a.final_name) x.adapted.items)
      h.finals.items h.clauses.items
  pub long : length h.sources.items ≡ length h.names.items
  pub declared_under_are : (k : ℕ) → k < length h.names.items
      → slice_get (declared_under h.sources.items) k ≡ Some (position_from (λ f. f.0 == k) 0 numbers)
  pub collected_are : (k : ℕ) → collected h.sources.items k ≡ ids_under k 0 h.finals.items

pub heir_made : (u : List ClassT) → IsSystem u → (h : Heir) → slice_get u h.class_id.0 ≡ Some (class_view h.tree.now)
    → (numbers : List FeatId) → Parts u h numbers → IsHeir u h
heir_made u system h at numbers p =
    let c = class_view h.tree.now in
    let unfolds = line_unfolded u system h.class_id.0 c at in
    record {
      class_is = at;
      line_is = unfolds;
      clauses_are = p.clauses_are;
      declared_are = p.declared_are;
      names_are = p.names_are
          ∙ (class_texts u c h.class_id.0 h.declared.items h.clauses.items (clauses c) p.declared_are p.clauses_are
          ∙ ap names (sym unfolds));
      few = p.few;
      finals_are = p.finals_are;
      sources_are = sources_found u c h.names.items
          (subst (IsStrictlySortedBy name_cmp) (sym p.names_are)
          (rising-name_set (declared_texts h.declared.items ++ final_texts h.clauses.items)))
          numbers h.finals.items h.clauses.items h.sources.items
          (p.numbers_are
          ∙ (ap (map Some) (texts_declared c h.declared.items p.declared_are)
          ∙ map_twice Some (λ y. y.name.name) (declared_here c)))
          p.finals_are p.clauses_are p.long p.declared_under_are p.collected_are;
    }

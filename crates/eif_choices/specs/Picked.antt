-- Which names the clauses of a class select, and the pick among candidates, by numbers.
use Rattle.std.specs.Prelude.{ℕ, ◌==◌, Bool, false, if◌then◌else◌, List, [], ◌∷◌, map, Option, Some, None, slice_index_or}
use Rattle.std.specs.List.{filter, list_all}
use Rattle.std.specs.Option.{option_or}
use Rattle.eif_base.specs.declared.feat_id.FeatId.{FeatId}
use Rattle.eif_classes.specs.Binding.{is_selected_in}
use Rattle.eif_heirs.specs.declared.clauses.Clause.{Clause}
use Rattle.eif_tree.specs.Tree.{ParentT}
use Rattle.eif_tree.specs.View.{parent_view}

-- the clauses as they are written
abbrev pub clause_trees : List Clause → List ParentT
clause_trees clauses = map (λ x. parent_view x.tree.now) clauses

-- for each of these names whether some clause selects it
abbrev pub selection : List Clause → List (List ℕ) → List Bool
selection clauses names = map (is_selected_in (clause_trees clauses)) names

-- the flag of the feature
abbrev pub is_flagged : List Bool → FeatId → Bool
is_flagged flags f = slice_index_or flags f.0 false

-- the one feature that all of them are
abbrev pub agreed_feature : List FeatId → Option FeatId
agreed_feature [] = None
agreed_feature (f ∷ fs) = if list_all (λ g. f.0 == g.0) fs then Some f else None

-- one candidate, or of several the one that has a flag
abbrev pub picked_feature : List Bool → List FeatId → Option FeatId
picked_feature flags fs = option_or (agreed_feature fs) (agreed_feature (filter (is_flagged flags) fs))

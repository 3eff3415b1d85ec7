-- The parent clauses of a class, each with the features of its class.
use Rattle.std.specs.Prelude.{◌≡◌, ℕ, zero, suc, List, map, Option, Some, None, slice_get}
use Rattle.std.specs.Option.{option_map, option_and_then}
use Rattle.eif_adapt.specs.Adaptations.{adapted, entry_view}
use Rattle.eif_classes.specs.Entries.{Entry, entry}
use Rattle.eif_classes.specs.Features.{features}
use Rattle.eif_feature_rules.specs.ParentFeatures.{parent_features}
use Rattle.eif_heirs.specs.declared.clauses.Clause.{Clause}
use Rattle.eif_heirs.specs.declared.heir.EntryId.{EntryId}
use Rattle.eif_rows.specs.Rows.{IsRow}
use Rattle.eif_system.specs.Inheritance.{clauses, parent_number}
use Rattle.eif_system.specs.Lineage.{Line, Ups, top, up, line_by, ups_by, line_of}
use Rattle.eif_tree.specs.Tree.{ParentT, ClassT}
use Rattle.eif_tree.specs.View.{parent_view}

-- the clauses of the class c over the lines of their classes
abbrev pub ups_in : List ClassT → ClassT → Ups
ups_in u c = ups_by (λ p. line_by (line_of u) (parent_number u c p)) (clauses c)

-- the clause p of the class c, with the row of its class and what it makes of the features there
pub record IsClause (u : List ClassT) (c : ClassT) (x : Clause) (p : ParentT) : Type 0 where
  pub tree_is : parent_view x.tree.now ≡ p
  pub parent_is : parent_number u c p ≡ Some x.parent.0
  pub row_is : IsRow u x.parent.0 x.row.now
  pub adapted_is : map entry_view x.adapted.items ≡ map (adapted p) (parent_features (line_of u x.parent.0))

-- ---- entries by numbers

-- the clause with that number, and the line of its class
abbrev pub clause_at : Ups → ℕ → Option (ParentT × Line)
clause_at top i = None
clause_at (up p l rest) zero = Some (p, l)
clause_at (up p l rest) (suc i) = clause_at rest i

-- the entry of that clause for the feature with that number
abbrev pub entry_at : Ups → EntryId → Option Entry
entry_at ups e =
    option_and_then (λ x. option_map (entry x.0) (slice_get (features x.1) e.feat.0)) (clause_at ups e.clause)

-- The parent clauses of a class with the actuals that they give, over the rows of their classes.
use Rattle.std.specs.Prelude.{◌≡◌, ℕ, List, ◌∷◌, map, Some}
use Rattle.eif_classes.specs.Resolution.{clause_actuals}
use Rattle.eif_classes.specs.Types.{Actuals}
use Rattle.eif_derivations.specs.DerivationRows.{IsDerivationRow}
use Rattle.eif_derivations.specs.declared.clause.ClauseActuals.{ClauseActuals}
use Rattle.eif_rows.specs.Matched.{Match}
use Rattle.eif_system.specs.Inheritance.{clauses, parent_number}
use Rattle.eif_system.specs.Lineage.{Ups, line_by, ups_by, line_of}
use Rattle.eif_tree.specs.Tree.{ParentT, ClassT}
use Rattle.eif_tree.specs.View.{parent_view}
use Rattle.eif_type_forms.specs.View.{actuals_view}

-- the clauses of the class c over the lines of their classes
abbrev pub lines_over : List ClassT → ClassT → Ups
lines_over u c = ups_by (λ p. line_by (line_of u) (parent_number u c p)) (clauses c)

-- the clause p of the class c
pub record IsClauseActuals (u : List ClassT) (lists : List Actuals) (c : ClassT) (x : ClauseActuals) (p : ParentT)
    : Type 0 where
  pub tree_is : parent_view x.tree.now ≡ p
  pub parent_is : parent_number u c p ≡ Some x.parent.0
  pub row_is : IsDerivationRow u lists x.parent.0 x.row.now
  pub actuals_are : actuals_view x.actuals.items ≡ clause_actuals u c p

-- all clauses of the class c
abbrev pub AreClauseActuals : List ClassT → List Actuals → ClassT → List ClauseActuals → Type 0
AreClauseActuals u lists c xs = Match (IsClauseActuals u lists c) xs (clauses c)

-- the class of a clause and its proper ancestors
abbrev pub classes_by : ClauseActuals → List ℕ
classes_by x = x.parent.0 ∷ map (λ d. d.class_id.0) x.row.now.ancestors.items

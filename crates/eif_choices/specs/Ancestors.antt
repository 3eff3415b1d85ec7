-- What becomes of the features of one ancestor in a class, and of several ones.
use Rattle.std.specs.Prelude.{◌≡◌, ℕ, List, ◌∷◌, map, Some}
use Rattle.eif_choices.specs.declared.ancestor.AncestorChoices.{AncestorChoices}
use Rattle.eif_classes.specs.Binding.{candidates}
use Rattle.eif_classes.specs.Features.{names}
use Rattle.eif_heirs.specs.Clauses.{ups_in}
use Rattle.eif_heirs.specs.declared.clauses.Clause.{Clause}
use Rattle.eif_heirs.specs.declared.heir.Heir.{Heir}
use Rattle.eif_rows.specs.AncestorRows.{IsAncestorRow}
use Rattle.eif_rows.specs.Numbers.{names_of}
use Rattle.eif_system.specs.Lineage.{line_of}
use Rattle.eif_tree.specs.Tree.{ClassT}
use Rattle.eif_tree.specs.View.{class_view}

-- the class of a clause and its proper ancestors
abbrev pub classes_by : Clause → List ℕ
classes_by x = x.parent.0 ∷ map (λ r. r.class_id.0) x.row.now.ancestors.items

-- in the class of the heir, of the features of the ancestor k
pub record IsAncestorChoice (u : List ClassT) (h : Heir) (k : ℕ) (r : AncestorChoices) : Type 0 where
  pub candidates_are : map (λ fs. names_of h.names.items fs.items) r.candidates.items
      ≡ map (λ m. map Some (candidates (ups_in u (class_view h.tree.now)) k m)) (names (line_of u k))
  pub row_is : IsAncestorRow u (line_of u h.class_id.0) r.row k

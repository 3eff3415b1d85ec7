-- What becomes of the features of its ancestors in a class.
use Rattle.std.specs.Prelude.{◌≡◌, List, map, Some}
use Rattle.eif_choices.specs.declared.choices.Choices.{Choices}
use Rattle.eif_classes.specs.Descent.{above}
use Rattle.eif_classes.specs.Features.{names}
use Rattle.eif_feature_rules.specs.SelectionRules as rules
use Rattle.eif_rows.specs.AncestorRows.{IsAncestorRow}
use Rattle.eif_rows.specs.Matched.{Match}
use Rattle.eif_rows.specs.Numbers.{class_numbers, names_of}
use Rattle.eif_system.specs.Lineage.{Line, Ups}
use Rattle.eif_tree.specs.Tree.{ClassT}

-- in the class with this line, which stands over these clauses
pub record AreChoices (u : List ClassT) (l : Line) (ups : Ups) (r : Choices) : Type 0 where
  pub above_are : class_numbers r.above.items ≡ above l
  pub candidates_are : map (λ fs. names_of (names l) fs.items) r.candidates.items
      ≡ map (λ ns. map Some ns) (rules.choices u ups (above l))
  pub ancestors_are : Match (IsAncestorRow u l) r.ancestors.items (above l)

-- The names that a class text declares.
use Rattle.std.specs.Prelude.{◌≡◌, Some}
use Rattle.eif_feature_rules.specs.RuleForms as rules
use Rattle.eif_heirs.specs.declared.declared.DeclaredName.{DeclaredName}
use Rattle.eif_rows.specs.Rows.{declaration_at}
use Rattle.eif_tree.specs.Tree.{ClassT}
use Rattle.eif_tree.specs.View.{decl_view}

-- the name y of a declaration of the class c
pub record IsDeclaredName (c : ClassT) (x : DeclaredName) (y : rules.DeclaredName) : Type 0 where
  pub name_is : x.name.now ≡ y.name
  pub tree_is : decl_view x.tree.now ≡ y.tree
  pub place_is : declaration_at c (Some x.place) ≡ Some y.tree

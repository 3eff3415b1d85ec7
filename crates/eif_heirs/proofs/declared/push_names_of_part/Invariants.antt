use Rattle.std.proofs.Common.{◌≡◌, List, ◌++◌, map, take, Some}
use Rattle.std.specs.Prelude.{flat_map, slice_get}
use Rattle.eif_feature_rules.specs.RuleForms as rules
use Rattle.eif_heirs.specs.DeclaredNames.{IsDeclaredName}
use Rattle.eif_rows.specs.Matched.{Match}
use Rattle.eif_tree.specs.Tree.{ClassT}
use Rattle.eif_tree.specs.View.{decl_view, features_view}
use Rattle.eif_heirs.proofs.declared.push_names_of_part.Given as goal

abbrev pub invariant-decls : goal.invariant-decls
invariant-decls l = (c : ClassT) (before : List rules.DeclaredName)
    → slice_get c.features l.part ≡ Some (features_view l.fn.tree)
    → Match (IsDeclaredName c) l.initial.out.items before
    → Match (IsDeclaredName c) l.out.items
    (before ++ flat_map rules.names_of_declaration (map decl_view (take l.place l.decls)))

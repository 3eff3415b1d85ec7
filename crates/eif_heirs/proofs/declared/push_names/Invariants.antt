use Rattle.std.proofs.Common.{◌≡◌, List, ◌++◌, map, take, Some}
use Rattle.eif_feature_rules.specs.RuleForms as rules
use Rattle.eif_heirs.specs.DeclaredNames.{IsDeclaredName}
use Rattle.eif_heirs.proofs.DeclaredInTurn.{named}
use Rattle.eif_rows.specs.Matched.{Match}
use Rattle.eif_rows.specs.Rows.{declaration_at}
use Rattle.eif_tree.specs.Tree.{ClassT}
use Rattle.eif_tree.specs.View.{decl_view}
use Rattle.eif_heirs.proofs.declared.push_names.Given as goal

abbrev pub invariant-names : goal.invariant-names
invariant-names l = (c : ClassT) (before : List rules.DeclaredName)
    → declaration_at c (Some l.place) ≡ Some (decl_view l.tree)
    → Match (IsDeclaredName c) l.initial.out.items before
    → Match (IsDeclaredName c) l.out.items (before ++ map (named (decl_view l.tree)) (take l.name-index l.name-items))

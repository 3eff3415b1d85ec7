use Rattle.std.proofs.Common.{map, take}
use Rattle.std.specs.Prelude.{flat_map}
use Rattle.eif_heirs.specs.DeclaredNames.{IsDeclaredName}
use Rattle.eif_heirs.proofs.DeclaredInTurn.{names_of_part}
use Rattle.eif_rows.specs.Matched.{Match}
use Rattle.eif_tree.specs.View.{class_view, features_view}
use Rattle.eif_heirs.proofs.declared.declared_names.Given as goal

abbrev pub invariant-parts : goal.invariant-parts
invariant-parts l =
    Match (IsDeclaredName (class_view l.fn.tree)) l.out.items
    (flat_map names_of_part (map features_view (take l.part l.parts)))

use Rattle.std.proofs.Common.{◌≡◌, false, List, map, take, Some}
use Rattle.std.specs.List.{list_any}
use Rattle.eif_classes.specs.Entries as entries
use Rattle.eif_heirs.specs.Clauses.{ups_in, entry_at}
use Rattle.eif_heirs.specs.Heirs.{IsHeir}
use Rattle.eif_tree.specs.Tree.{ClassT}
use Rattle.eif_tree.specs.View.{class_view}
use Rattle.eif_feature_faults.proofs.standing.any_lasts.Given as goal

abbrev pub invariant-entries : goal.invariant-entries
invariant-entries l =
    (u : List ClassT) (es : List entries.Entry) → IsHeir u l.heir
    → map (entry_at (ups_in u (class_view l.heir.tree.now))) l.ids ≡ map Some es
    → list_any entries.lasts (take l.id-index es) ≡ false

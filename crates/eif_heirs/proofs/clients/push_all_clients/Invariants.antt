use Rattle.std.proofs.Common.{◌≡◌, ◌++◌, drop}
use Rattle.eif_heirs.specs.EntryParts.{inherited_classes}
use Rattle.eif_rows.specs.Numbers.{class_numbers}
use Rattle.eif_universe.specs.Universes.{classes_of}
use Rattle.eif_heirs.proofs.clients.push_all_clients.Given as goal

abbrev pub invariant-entries : goal.invariant-entries
invariant-entries l =
    class_numbers l.out.items ++ inherited_classes (classes_of l.u) l.heir (drop l.entry-index l.entries)
    ≡ class_numbers l.initial.out.items ++ inherited_classes (classes_of l.u) l.heir l.entries

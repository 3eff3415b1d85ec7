use Rattle.std.proofs.Common.{◌≡◌, Some, map, take}
use Rattle.eif_heirs.specs.Numbered.{declared_texts}
use Rattle.eif_rows.specs.Numbers.{names_of}
use Rattle.eif_heirs.proofs.class_names.declared_numbers.Given as goal

abbrev pub invariant-names : goal.invariant-names
invariant-names l =
    names_of l.names l.numbers.items ≡ map Some (declared_texts (take l.one-index l.declared))

use Rattle.std.proofs.Common.{◌≡◌, Some, map, take}
use Rattle.eif_rows.specs.Numbers.{names_of}
use Rattle.eif_heirs.proofs.class_names.final_numbers.Given as goal

abbrev pub invariant-entries : goal.invariant-entries
invariant-entries l =
    names_of l.names l.numbers.items ≡ map (λ a. Some a.final_name) (take l.entry-index l.entries)

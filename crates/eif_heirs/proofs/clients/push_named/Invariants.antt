use Rattle.std.proofs.Common.{◌≡◌, ◌++◌, map, drop}
use Rattle.std.specs.List.{filter_map}
use Rattle.eif_rows.specs.Numbers.{class_numbers}
use Rattle.eif_system.specs.Universe.{class_number}
use Rattle.eif_universe.specs.Universes.{classes_of}
use Rattle.eif_heirs.proofs.clients.push_named.Given as goal

abbrev pub invariant-names : goal.invariant-names
invariant-names l =
    class_numbers l.out.items ++ filter_map (class_number (classes_of l.u)) (map (λ n. n.name)
    (drop l.name-index l.names))
    ≡ class_numbers l.initial.out.items ++ filter_map (class_number (classes_of l.u)) (map (λ n. n.name) l.names)

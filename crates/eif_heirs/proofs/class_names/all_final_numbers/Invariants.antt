use Rattle.std.proofs.Common.{◌≡◌, Some, map, take}
use Rattle.eif_rows.specs.Matched.{Match}
use Rattle.eif_rows.specs.Numbers.{names_of}
use Rattle.eif_heirs.proofs.class_names.all_final_numbers.Given as goal

abbrev pub invariant-clauses : goal.invariant-clauses
invariant-clauses l =
    Match (λ fs x. names_of l.names fs.items ≡ map (λ a. Some a.final_name) x.adapted.items) l.finals.items
    (take l.clause-index l.clauses)

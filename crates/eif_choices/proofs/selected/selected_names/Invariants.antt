use Rattle.std.proofs.Common.{◌≡◌, ◌++◌, drop}
use Rattle.eif_choices.specs.Picked.{selection}
use Rattle.eif_choices.proofs.selected.selected_names.Given as goal

abbrev pub invariant-names : goal.invariant-names
invariant-names l = l.out.items ++ selection l.clauses (drop l.name-index l.names) ≡ selection l.clauses l.names

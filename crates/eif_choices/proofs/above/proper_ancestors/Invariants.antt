use Rattle.eif_choices.proofs.Heirs.{AreClassesSoFar}
use Rattle.eif_choices.proofs.above.proper_ancestors.Given as goal

abbrev pub invariant-clauses : goal.invariant-clauses
invariant-clauses l = AreClassesSoFar l.heir l.clause-index l.all.items

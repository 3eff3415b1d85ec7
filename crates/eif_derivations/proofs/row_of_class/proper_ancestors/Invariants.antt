use Rattle.eif_derivations.proofs.ClausesInTurn.{AreClassesSoFar}
use Rattle.eif_derivations.proofs.row_of_class.proper_ancestors.Given as goal

abbrev pub invariant-clauses : goal.invariant-clauses
invariant-clauses l = AreClassesSoFar l.clauses l.clause-index l.all.items

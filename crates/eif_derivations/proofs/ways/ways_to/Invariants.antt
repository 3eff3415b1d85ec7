use Rattle.eif_derivations.specs.ListNumbers.{lists_of}
use Rattle.eif_derivations.proofs.ClausesInTurn.{AreWaysSoFar}
use Rattle.eif_derivations.proofs.ways.ways_to.Given as goal

abbrev pub invariant-clauses : goal.invariant-clauses
invariant-clauses l = AreWaysSoFar (lists_of l.lists) l.clauses l.k.0 l.clause-index l.ways.items

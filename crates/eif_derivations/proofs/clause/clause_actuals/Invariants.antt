use Rattle.std.proofs.Common.{length}
use Rattle.eif_derivations.proofs.ParentClauses.{AreClausesSoFar}
use Rattle.eif_universe.specs.Universes.{classes_of}
use Rattle.eif_derivations.proofs.clause.clause_actuals.Given as goal

abbrev pub invariant-clauses : goal.invariant-clauses
invariant-clauses l =
    AreClausesSoFar (classes_of l.fn.u) l.fn.class_id.0 l.fn.rows (length l.yielded) l.clauses.items

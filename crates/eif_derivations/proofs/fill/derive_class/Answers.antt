use Rattle.std.proofs.Common.{subst, sym}
use Rattle.eif_derivations.specs.ListNumbers.{lists_of}
use Rattle.eif_derivations.specs.ParentActuals.{AreClauseActuals}
use Rattle.eif_universe.specs.Universes.{classes_of}
use Rattle.eif_derivations.proofs.fill.derive_class.Goals as goal

pub row_of_class-requires-clause-clauses : goal.row_of_class-requires-clause-clauses
row_of_class-requires-clause-clauses c = λ class at.
    let lists = lists_of c.args.lists.now in
    subst (AreClauseActuals (classes_of c.args.u.now) lists class) (sym c.deref.ensures.value)
    (c.in_ok-clauses.ensures class lists at (c.requires.rows class at))

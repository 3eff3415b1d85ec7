use Rattle.eif_par.proofs.tests.deep.+descend.Given as goal

abbrev pub decreases-descend : goal.decreases-descend
decreases-descend l = l.levels

use Rattle.eif_choices.specs.Candidacy.{candidate_by}
use Rattle.eif_choices.proofs.Heirs.{AreSoFar}
use Rattle.eif_choices.proofs.by_heir.candidates_of.Given as goal

abbrev pub invariant-clauses : goal.invariant-clauses
invariant-clauses l = AreSoFar (candidate_by l.k.0) l.heir l.k.0 l.feat.0 l.number l.out.items

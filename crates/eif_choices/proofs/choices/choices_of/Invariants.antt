use Rattle.eif_choices.proofs.Ancestors.{AreSoFar}
use Rattle.eif_choices.proofs.choices.choices_of.Given as goal

abbrev pub invariant-ancestors : goal.invariant-ancestors
invariant-ancestors l = AreSoFar l.rows l.heir l.k-items l.k-index l.candidates.items l.ancestors.items

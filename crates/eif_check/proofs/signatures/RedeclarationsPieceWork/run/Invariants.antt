use Rattle.std.proofs.Common.{◌≡◌}
use Rattle.eif_check.specs.GivenSignatures.{signatures_between}
use Rattle.eif_universe.specs.Universes.{classes_of}
use Rattle.eif_check.proofs.signatures.RedeclarationsPieceWork.run.Given as goal

abbrev pub invariant-classes : goal.invariant-classes
invariant-classes l =
    l.faults ≡ signatures_between (classes_of l.self.universe.now) l.self.root.now l.first l.number

use Rattle.std.proofs.Common.{List, ◌++◌, ap, ◌∙◌, arith}
use Rattle.eif_base.specs.declared.fault.Fault.{Fault}
use Rattle.eif_redecl.specs.SignaturePhase.{class_signature_faults}
use Rattle.eif_universe.specs.Universes.{classes_of}
use Rattle.eif_check.proofs.GivenInTurn.{one_between}
use Rattle.eif_check.proofs.signatures.RedeclarationsPieceWork.run.Goals as goal

pub classes-preserved : goal.classes-preserved
classes-preserved c =
    let w = c.args.self.now in
    let u = classes_of w.universe.now in
    let root = w.root.now in
    one_between u root c.args.first c.classes.number c.classes.faults c.check_redeclarations.new.out (omega arith)
    (omega arith)
    (c.in_ok-check_redeclarations.ensures.ok
    ∙ ap (λ d. c.classes.faults ++ class_signature_faults u root d) c.given_class-class.ensures)
    c.classes.invariant

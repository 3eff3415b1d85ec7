use Rattle.std.proofs.Common.{sym}
use Rattle.eif_choices.proofs.Lines.{differ}
use Rattle.eif_choices.proofs.ancestor.keep_reached.Goals as goal

pub returns-clause-others : goal.returns-clause-others
returns-clause-others c = λ i other. c.in_ok-insert.ensures.updates.2 i (differ c.args.feat.0 i (λ e. other (sym e)))

use Rattle.std.proofs.Common.{◌∙◌}
use Rattle.eif_report.proofs.CodeTexts.{sameb-code_text}
use Rattle.eif_report.proofs.codes.is_of.Goals as goal

pub returns : goal.returns
returns c = c.eq.ensures ∙ sameb-code_text _ _

use Rattle.std.proofs.Common.{ap, sym, ◌∙◌}
use Rattle.std.specs.Prelude.{slice_get}
use Rattle.std.proofs.lemmas.Result.{IfOk-weaker}
use Rattle.eif_heirs.specs.DraftParts.{lent_part}
use Rattle.eif_heirs.proofs.drafts.draft_by_declared.Goals as goal

pub returns : goal.returns
returns c = IfOk-weaker c.draft_by_declaration.result _ _
    (λ r by. record {
      name = c.in-Some.declared;
      at = sym c.in-Some.ensures;
      part = lent_part c.in-Some-part_at.part;
      part_at = ap (λ ps. slice_get ps c.args.first) (sym c.requires.parts) ∙ sym c.in-Some-part_at.ensures;
      is = by;
    }) c.draft_by_declaration.ensures

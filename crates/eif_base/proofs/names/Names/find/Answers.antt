use Rattle.std.proofs.Common.{sym, ap, ◌∙◌}
use Rattle.std.specs.Prelude.{slice_get}
use Rattle.eif_base.specs.Numbering.{is_among}
use Rattle.eif_base.proofs.Keys.{found_at, test_is}
use Rattle.eif_base.proofs.names.Names.find.Goals as goal

pub returns-in-Some-clause-found : goal.returns-in-Some-clause-found
returns-in-Some-clause-found c =
    ap (λ ts. slice_get ts c.in-Some.i) (sym c.self.view_is)
    ∙ found_at c.args.text.now c.self.inside.texts.keys c.in-Some.i c.in-Some.ensures.index

pub returns-in-None-clause-absent : goal.returns-in-None-clause-absent
returns-in-None-clause-absent c =
    ap (λ ts. is_among ts c.args.text.now) (sym c.self.view_is)
    ∙ (test_is c.args.text.now c.self.inside.texts.keys ∙ sym c.in-None.ensures.found)

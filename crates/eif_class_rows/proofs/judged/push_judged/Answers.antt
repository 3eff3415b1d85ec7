use Rattle.std.proofs.Common.{arith}
use Rattle.eif_class_rows.proofs.Kept.{drafts_judged}
use Rattle.eif_universe.specs.Universes.{classes_of}
use Rattle.eif_class_rows.proofs.judged.push_judged.Goals as goal

pub class_row-requires-clause-drafts : goal.class_row-requires-clause-drafts
class_row-requires-clause-drafts c =
    let few = c.in_ok-judged.ensures.heir_is.few in
    let count =
    drafts_judged (classes_of c.args.u.now) c.args.class_id.0 c.in_ok-judged.judged c.in_ok-judged.ensures in
    omega arith

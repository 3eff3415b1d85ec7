use Rattle.std.proofs.Common.{◌∙◌, arith}
use Rattle.eif_choices.proofs.Kept.{kept_more}
use Rattle.eif_choices.proofs.ancestor.ancestor_row.Goals as goal

pub features-preserved : goal.features-preserved
features-preserved c =
    let before = c.features.invariant in
    let kept = c.in_ok-keep_reached.ensures in
    record {
      class = kept.class ∙ before.class;
      bound = kept.bound ∙ before.bound;
      reached = kept_more c.args.heir.now c.args.k.0 c.features.i c.features.row c.keep_reached.new.row
          c.in_ok-reached.reached.items c.in_ok-reached.ensures kept.bound kept.here kept.others before.reached;
      absent = λ j h. kept.others j (λ e. omega arith) ∙ before.absent j (omega arith);
    }

pub returns-clause-reached : goal.returns-clause-reached
returns-clause-reached c = λ i h. c.features.invariant.reached i (omega (arith, c.args.bound.ok.0))

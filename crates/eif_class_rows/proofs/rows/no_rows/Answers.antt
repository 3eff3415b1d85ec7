use Rattle.std.proofs.Common.{◌≡◌, subst, arith}
use Rattle.eif_class_rows.proofs.RowsFor.{none_at_first, none_more}
use Rattle.eif_class_rows.specs.Filling.{HasNone}
use Rattle.eif_class_rows.proofs.rows.no_rows.Goals as goal

pub classes-init : goal.classes-init
classes-init c = none_at_first c.in_ok-rows.rows.items c.in_ok-rows.ensures.items

pub classes-preserved : goal.classes-preserved
classes-preserved c =
    none_more c.classes.counter c.classes.rows.items c.push.new.self.items c.in_ok-push.ensures.items
    c.classes.invariant

pub returns : goal.returns
returns c =
    let all : c.classes.counter ≡ c.args.count = omega arith in
    subst (λ n. HasNone n c.classes.rows.items) all c.classes.invariant

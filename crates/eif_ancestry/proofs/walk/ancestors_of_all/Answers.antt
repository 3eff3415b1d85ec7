use Rattle.eif_ancestry.specs.Ancestries.{number_graph}
use Rattle.eif_ancestry.proofs.Rows.{one_list_more}
use Rattle.eif_ancestry.proofs.walk.ancestors_of_all.Goals as goal

pub loop-d-preserved : goal.loop-d-preserved
loop-d-preserved c =
    let e = c.in_ok-push.ensures in
    let more = one_list_more (number_graph c.args.graph.now) c.loop-d.d c.loop-d.rows.items c.push.new.self.items
    c.in_ok-ancestors_of.field-0 c.loop-d.invariant.long c.loop-d.invariant.each
    c.in_ok-ancestors_of.ensures.ancestors e.items in
    record { clear = c.in_ok-ancestors_of.ensures.clear; long = more.0; each = more.1 }

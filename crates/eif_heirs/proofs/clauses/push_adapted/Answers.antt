use Rattle.std.proofs.Common.{refl}
use Rattle.eif_tree.specs.View.{class_view, parent_view}
use Rattle.eif_heirs.proofs.AdaptedInTurn.{one_adapted}
use Rattle.eif_heirs.proofs.clauses.push_adapted.Goals as goal

pub returns : goal.returns
returns c = λ u old before is h.
    one_adapted u (class_view c.args.class.now.tree.now) c.args.rows.now (parent_view c.args.tree.now) _ old
    c.args.out.now c.adapted_entries.new.out c.args.clauses.now.items c.push.new.self.items before is c.in-Some.ensures
    refl c.in_ok-adapted.ensures.entries c.in_ok-adapted.ensures.faults c.in_ok-push.ensures.items h

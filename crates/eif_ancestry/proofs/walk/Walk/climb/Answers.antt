use Rattle.std.proofs.Common.{length, subst, ℕ, arith}
use Rattle.eif_ancestry.specs.Ancestries.{number_graph}
use Rattle.eif_ancestry.specs.Walks.{IsTidy}
use Rattle.eif_ancestry.proofs.Marks.{tidy_none}
use Rattle.eif_ancestry.proofs.Climbing.{walk_starts, class_within, falls, parents_within, step, walk_ends}
use Rattle.eif_ancestry.proofs.walk.Walk.climb.Goals as goal

pub meet-requires-clause-tidy : goal.meet-requires-clause-tidy
meet-requires-clause-tidy c =
    let w = c.args.self.now in
    tidy_none (length c.args.graph.now) w.met.items w.marks.items c.requires.clear

pub classes-init : goal.classes-init
classes-init c =
    let w = c.args.self.now in
    let e = c.in_ok-meet.ensures in
    record {
      tidy = subst (λ (n : ℕ). IsTidy n c.meet.new.self.met.items c.meet.new.self.marks.items)
          c.requires.clear.long e.tidy;
      walk = walk_starts (number_graph c.args.graph.now) c.args.d w.met.items
          c.requires.clear.empty c.meet.new.self.met.items e.members e.more.0 e.more.1;
    }

pub bounds-graph-class : goal.bounds-graph-class
bounds-graph-class c =
    let w = c.classes.self in
    class_within c.args.graph.now c.args.d c.classes.i w.met.items w.marks.items
    c.classes.invariant.tidy c.classes.invariant.walk c.index-class.result.now (omega arith) c.index-class.ensures

pub meet_all-requires-clause-within : goal.meet_all-requires-clause-within
meet_all-requires-clause-within c =
    let w = c.classes.self in
    parents_within c.args.graph.now c.args.d c.classes.i w.met.items w.marks.items
    c.classes.invariant.tidy c.classes.invariant.walk c.index-class.result.now (omega arith) c.index-class.ensures
    c.index-graph-class.result c.as_slice.result.now c.index-graph-class.is c.as_slice.ensures.value
    c.requires.closed

pub classes-smaller : goal.classes-smaller
classes-smaller c =
    let w = c.classes.self in
    falls c.args.graph.now c.args.d c.classes.i w.met.items w.marks.items
    c.classes.invariant.tidy c.classes.invariant.walk c.index-class.result.now (omega arith) c.index-class.ensures

pub classes-preserved : goal.classes-preserved
classes-preserved c =
    let w = c.classes.self in
    let e = c.in_ok-meet_all.ensures in
    record {
      tidy = subst (λ (n : ℕ). IsTidy n c.meet_all.new.self.met.items c.meet_all.new.self.marks.items)
          c.classes.invariant.tidy.long e.tidy;
      walk = step c.args.graph.now c.args.d c.classes.i w.met.items w.marks.items
          c.classes.invariant.tidy c.classes.invariant.walk c.index-class.result.now (omega arith) c.index-class.ensures
          c.index-graph-class.result c.as_slice.result.now c.index-graph-class.is c.as_slice.ensures.value
          c.meet_all.new.self.met.items e.members e.more;
    }

pub returns-clause-whole : goal.returns-clause-whole
returns-clause-whole c =
    walk_ends (number_graph c.args.graph.now) c.args.d c.classes.i c.classes.self.met.items
    c.classes.invariant.walk (omega arith)
